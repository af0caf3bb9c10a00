-- `enter`: the checks' places, the traces', the records', and no other.
use Rattle.std.proofs.Common.{ap, ◌∙◌, length, arith, rules}
use Rattle.record.proofs.Numbers.{Bytes}
use Rattle.tally.specs.Counts.{tally_places}
use Rattle.tally.specs.Entries.{width}
use Rattle.tally.specs.Raising.{room_to}
use Rattle.tally.proofs.Widths.{stored_length}
use Rattle.tally.proofs.Raising.{raise_fits, raise_stored, traces_step, taken_step, raised_all}
use Rattle.tally.proofs.entry.Entry.enter.Goals as goal

pub raise-requires : goal.raise-requires
unfolding room_to
raise-requires c =
    let e = c.args.self.now in
    let tally = c.args.tally.now in
    let bytes : Bytes tally = record { below = λ i. search rules } in
    let is = c.raise_checks.ensures in
    let step = traces_step e.places e.taken tally bytes in
    let n = ap length is ∙ stored_length width _ tally_places in
    (omega arith, raise_fits e.places e.taken tally bytes c.requires.1 _ _ _ _ _ is step)

pub raise-requires-2 : goal.raise-requires-2
unfolding room_to
raise-requires-2 c =
    let e = c.args.self.now in
    let tally = c.args.tally.now in
    let bytes : Bytes tally = record { below = λ i. search rules } in
    let first = traces_step e.places e.taken tally bytes in
    let is = c.raise.ensures ∙ raise_stored e.places e.taken tally bytes c.requires.1 _ _ _ _ _ c.raise_checks.ensures first in
    let step = taken_step e.places e.taken tally bytes in
    let n = ap length is ∙ stored_length width _ tally_places in
    (omega arith, raise_fits e.places e.taken tally bytes c.requires.1 _ _ _ _ _ is step)

pub returns : goal.returns
unfolding room_to
returns c =
    let e = c.args.self.now in
    let tally = c.args.tally.now in
    let bytes : Bytes tally = record { below = λ i. search rules } in
    let first = traces_step e.places e.taken tally bytes in
    let second = taken_step e.places e.taken tally bytes in
    let is = c.raise.ensures ∙ raise_stored e.places e.taken tally bytes c.requires.1 _ _ _ _ _ c.raise_checks.ensures first in
    c.raise-2.ensures ∙ raise_stored e.places e.taken tally bytes c.requires.1 _ _ _ _ _ is second ∙ raised_all e.places e.taken tally bytes
