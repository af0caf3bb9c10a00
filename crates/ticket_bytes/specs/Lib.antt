-- A ticket as bytes.
pub mod TicketBytes
