-- The interface for C and Rust hosts: what each call promises of a judge's words, and what is claimed of a run of calls.
pub mod Calls
pub mod Previews
pub mod Lookups
pub mod Tallies
pub mod Runs
