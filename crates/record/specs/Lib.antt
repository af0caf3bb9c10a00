-- Document 01's "Records" as definitions: numbers, keys and the decoded record.
pub mod Limits
pub mod Numbers
pub mod Keys
pub mod Named
pub mod Records
