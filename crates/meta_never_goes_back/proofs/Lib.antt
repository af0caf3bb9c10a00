-- The laws that the proofs cite: the names by their column, those that can be in conflict, those that a new one surpasses, the ends
-- of names above a key, the name that stands, the inner loop of the walk, and the record that a look-up's number stands for.
pub mod Naming
pub mod Spared
pub mod Surpassed
pub mod Pieces
pub mod Stood
pub mod Seen
pub mod Putting
