-- The laws that the proofs cite: what a new value makes of agreement, what records put and state, the walks along the chains and
-- where they stop, what their answers mean, and one more record in the columns.
pub mod Agreement
pub mod Roles
pub mod Walks
pub mod Rising
pub mod Found
pub mod Judged
pub mod Faulty
pub mod Noting
