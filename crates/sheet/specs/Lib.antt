pub mod Printing
pub mod Calls
pub mod Readers
