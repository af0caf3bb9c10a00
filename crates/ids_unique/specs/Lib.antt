-- What the columns of `IdsUnique` hold, and what its answers stand for.
pub mod Columns
pub mod Walks
pub mod Sharing
pub mod Order
pub mod Answers
