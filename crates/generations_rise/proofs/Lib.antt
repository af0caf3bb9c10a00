-- The laws that the proofs of this crate cite, by topic.
pub mod Writes
pub mod KeyWrites
pub mod Cases
pub mod Notes
