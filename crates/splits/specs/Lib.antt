-- What the look-backs for nodes and splits find, the split that a record registers, and the columns they are helped by.
pub mod Numbers
pub mod Splits
pub mod Columns
pub mod Walk
