-- What is proved of a decision: what the test of the judge's numbers says, and each refusal.
pub mod Suiting
pub mod Decisions
