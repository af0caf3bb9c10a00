-- `checks_have_room`: record by record, the test of the place that is raised there.
use Rattle.std.proofs.Common.{sym, ◌+◌, ◌*◌, get_or, arith, rules, tests}
use Rattle.record.proofs.Numbers.{Bytes}
use Rattle.tally.specs.Stored.{holds, number_in}
use Rattle.tally.specs.Counts.{place_count}
use Rattle.tally.specs.Entries.{width}
use Rattle.tally.specs.Raising.{room_to}
use Rattle.tally.proofs.Raising.{room_none, room_more}
use Rattle.record.proofs.Ranges.{range_fold}
use Rattle.tally.proofs.entry.Entry.checks_have_room.Goals as goal

pub returns : goal.returns
returns c =
    let tally = c.args.tally.now in
    let entry = c.args.self.now in
    let bytes : Bytes tally = record { below = λ i. (c.type_inv.tally i).fits } in
    range_fold (λ k. holds width (number_in width tally (place_count * k + get_or entry.places k 0) + 1)) 0 8 _ c.fold.ensures.ran (cc)
    (λ p k b q called. search (rules, tests)) (λ n. room_to (place_count * n) tally entry.places entry.taken) (omega arith) (sym (room_none _ _ _))
    (λ k l m. room_more entry.places entry.taken tally bytes k m entry.known)
