-- What the code of events keeps as a number.
pub mod Numbers
