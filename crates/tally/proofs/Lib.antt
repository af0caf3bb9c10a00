-- What is proved of the tally: the laws of stored numbers, of tests and of counts, what the code's loops need, and the theorems.
pub mod Widths
pub mod Tests
pub mod Counts
pub mod Used
pub mod Clears
pub mod Raising
pub mod Entering
pub mod Campaigns
pub mod Finished
pub mod Examples
