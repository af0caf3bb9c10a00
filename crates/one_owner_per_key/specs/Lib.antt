-- What the look-backs of `OneOwnerPerKey` find, the columns they are helped by, and what its enums say.
pub mod Numbers
pub mod Columns
pub mod Newly
pub mod Answers
