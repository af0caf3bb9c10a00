-- What the two columns of the chain of the firsts hold.
pub mod Columns
