-- The log as a history, the work area as columns, and the chains that make looking back short.
pub mod Logs
pub mod Columns
pub mod Buckets
pub mod Places
pub mod Bounds
pub mod Weighing
pub mod Pasts
