-- What is proved of a ticket's bytes besides the functions: that they read back.
pub mod TicketBytes
