-- What the columns of `GenerationsRise` hold, and what its answers stand for.
pub mod Answers
pub mod Columns
