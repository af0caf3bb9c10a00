-- What is proved of the taking of one record.
pub mod Steps
pub mod Takes
pub mod Notes
pub mod WorkArea
