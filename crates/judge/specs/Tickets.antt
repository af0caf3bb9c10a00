-- Tickets: "a ticket holding the record and the judge's count". A host can make one, so that a count and bytes may be any.
use Rattle.std.specs.Prelude.{List, ℕ, replicate}
use Rattle.judge.specs.declared.ticket.Ticket.{Ticket}

abbrev pub ticket_of : ℕ → List ℕ → Ticket
ticket_of count bytes = record { count = count; rec = bytes }

-- "a ticket of zeros"
abbrev pub no_ticket : Ticket
no_ticket = ticket_of 0 (replicate 368 0)
