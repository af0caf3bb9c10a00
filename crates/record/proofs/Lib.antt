-- The laws that proofs here and above cite: tests and options, lists, counting up, numbers made of bytes and written as bytes, keys and their order, the named
-- sub-codes and the decoded record.
pub mod Booleans
pub mod Lists
pub mod Ranges
pub mod Numbers
pub mod Written
pub mod Keys
pub mod Names
pub mod Records
