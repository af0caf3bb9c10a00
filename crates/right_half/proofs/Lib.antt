-- The laws that the proofs of this crate cite, by topic.
pub mod Searches
pub mod Lacks
pub mod Lowering
pub mod Registering
pub mod Checks
