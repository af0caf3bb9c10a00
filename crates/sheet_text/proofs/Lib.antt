pub mod Appends
pub mod Decimals
pub mod Examples
pub mod Lines
pub mod Names
pub mod Printed
pub mod ReadBack
pub mod Cuts
