-- Reports as words.
pub mod Rows
