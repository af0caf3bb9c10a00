-- The laws that the proofs of this crate and of those above it cite, by topic.
pub mod Blocks
pub mod Walks
pub mod Sharing
pub mod Order
pub mod Settling
pub mod Filling
pub mod Words
pub mod Cases
pub mod Notes
