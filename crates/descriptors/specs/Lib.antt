-- What the columns of `Descriptors` hold and what a note promises, what its answers stand for, and what one more record asks of
-- agreement.
pub mod Columns
pub mod Answers
pub mod Agreement
