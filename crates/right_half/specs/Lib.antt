-- What is missing, and the answers of the walks.
pub mod Answers
