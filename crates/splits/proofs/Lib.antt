-- The laws that the proofs of this crate, and of those above it, cite, by topic.
pub mod States
pub mod Splits
pub mod Registered
pub mod Noting
pub mod Notes
pub mod Openings
pub mod Finding
