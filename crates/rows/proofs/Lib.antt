-- What is proved of rows: stores one after the other, and that words and reports read back.
pub mod Rows
pub mod ReadBack
