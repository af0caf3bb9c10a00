-- What is proved of the judge besides its functions: the refusals, what one call leaves, shows or answers, and a trace's records.
pub mod Suiting
pub mod Pushes
pub mod Lookups
pub mod Openings
pub mod Traces
pub mod Previews
pub mod Commits
