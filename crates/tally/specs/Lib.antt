-- The campaign tally: numbers stored in bytes, what is counted, and what a list of entries comes to.
pub mod Stored
pub mod Counts
pub mod Entries
pub mod Raising
pub mod Campaigns
