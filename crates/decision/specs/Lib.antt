-- What a push is refused for, and what is decided of a record.
pub mod Refusals
