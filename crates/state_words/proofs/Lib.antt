-- What is proved of a judge's words: the rows after their header, and that they read back, both ways.
pub mod Headers
pub mod States
pub mod ReadBack
