-- `raise_checks`: record by record, the places of the first k records are raised.
use Rattle.std.proofs.Common.{◌≡◌, ap, ◌∙◌, ◌*◌, length, arith, rules}
use Rattle.record.proofs.Numbers.{Bytes}
use Rattle.tally.specs.Counts.{tally_places}
use Rattle.tally.specs.Entries.{width}
use Rattle.tally.specs.Raising.{room_to}
use Rattle.tally.proofs.Widths.{stored_length}
use Rattle.tally.proofs.Raising.{raised_none, raise_fits, raise_stored, check_step}
use Rattle.tally.proofs.entry.Entry.raise_checks.Goals as goal

pub loop-k-init : goal.loop-k-init
loop-k-init c =
    let e = c.args.self.now in
    let bytes : Bytes c.args.tally.now = record { below = λ i. (c.type_inv.tally i).fits } in
    raised_none e.places e.taken c.args.tally.now bytes c.requires.0

pub raise-requires : goal.raise-requires
unfolding room_to
raise-requires c =
    let e = c.args.self.now in
    let tally = c.args.tally.now in
    let l = c.loop-k in
    let bytes : Bytes tally = record { below = λ i. search rules } in
    let step = check_step e.places e.taken tally bytes l.k c.loop-k-test.true e.known in
    let p = e.known.each l.k c.loop-k-test.true in
    let n : length l.tally ≡ width * tally_places = ap length l.invariant ∙ stored_length width _ tally_places in
    (omega arith, raise_fits e.places e.taken tally bytes c.requires.1 l.tally _ _ _ _ l.invariant step)

pub loop-k-preserved : goal.loop-k-preserved
unfolding room_to
loop-k-preserved c =
    let e = c.args.self.now in
    let tally = c.args.tally.now in
    let l = c.loop-k in
    let bytes : Bytes tally = record { below = λ i. search rules } in
    let step = check_step e.places e.taken tally bytes l.k c.loop-k-test.true e.known in
    let next = raise_stored e.places e.taken tally bytes c.requires.1 l.tally _ _ _ _ l.invariant step in
    c.raise.ensures ∙ next
