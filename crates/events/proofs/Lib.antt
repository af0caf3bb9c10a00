-- What is proved of events as a number, and of refusal 11.
pub mod Numbers
