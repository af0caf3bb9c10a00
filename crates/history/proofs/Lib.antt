-- The laws that the proofs of this crate and of those above it cite, by topic.
pub mod Logs
pub mod Cells
pub mod Chains
pub mod Queries
pub mod Walks
pub mod Pasts
pub mod Finds
pub mod Copies
pub mod Mixing
pub mod Options
pub mod Entries
