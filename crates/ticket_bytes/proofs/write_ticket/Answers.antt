-- `write_ticket`: the count at the front, then the record in the place of what follows it.
use Rattle.ticket_bytes.proofs.TicketBytes.{ticket_written}
use Rattle.ticket_bytes.proofs.write_ticket.Goals as goal

pub returns : goal.returns
returns c =
    ticket_written c.args.out.now c.args.rec.now c.args.count c.requires c.write_number.ensures c.copy_items.ensures
