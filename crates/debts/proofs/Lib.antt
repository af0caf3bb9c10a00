-- The laws that the proofs of this crate, and of the right half's above it, cite, by topic.
pub mod Walks
pub mod Comings
pub mod Parts
pub mod Arising
pub mod Owing
pub mod Debts
