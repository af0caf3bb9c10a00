-- The laws that the proofs of this crate and of those above it cite, by topic.
pub mod Grants
pub mod Writes
pub mod Entering
