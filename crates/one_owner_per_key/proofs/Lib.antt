-- The laws that the proofs of this crate, and of the right half's above it, cite, by topic.
pub mod Latest
pub mod Holds
pub mod AsOf
pub mod Meets
pub mod Walks
pub mod Checks
pub mod Notes
pub mod Founds
pub mod Spans
pub mod Since
