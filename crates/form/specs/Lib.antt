-- Document 01's kinds and the refusals of a record's form as definitions.
pub mod KindTable
pub mod Form
