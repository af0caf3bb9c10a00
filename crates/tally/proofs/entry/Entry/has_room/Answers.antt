-- `has_room`: the checks' places, the traces' and the records'.
use Rattle.std.proofs.Common.{arith}
use Rattle.std.proofs.lemmas.Grind.{common_steps}
use Rattle.record.proofs.Numbers.{Bytes}
use Rattle.tally.proofs.Raising.{room_totals}
use Rattle.tally.proofs.entry.Entry.has_room.Goals as goal

pub returns : goal.returns
returns c =
    let a = c.args in
    let bytes : Bytes a.tally.now = record { below = λ i. (c.type_inv.tally i).fits } in
    let all = room_totals a.self.now.places a.self.now.taken a.tally.now bytes in
    grind (arith, common_steps)
