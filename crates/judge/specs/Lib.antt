-- The judge's state as definitions, and what one call of it leaves, shows or answers.
pub mod Tickets
pub mod States
pub mod Openings
pub mod Answers
pub mod Lookups
pub mod Pushes
pub mod Previews
pub mod Traces
