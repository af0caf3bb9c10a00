-- Against the value that stands at the place, where one does; else it is a new value.
use Rattle.std.specs.Prelude.{Some}
use mathlib.Core.Path.{ap, sym, ◌∙◌}
use Rattle.record.specs.Records.{decode}
use Rattle.history.specs.Pasts.{taken}
use Rattle.descriptors.proofs.Judged.{place_is, put_same, put_differs}
use Rattle.descriptors.proofs.check.put_case.Goals as goal

pub returns-then-same_held : goal.returns-then-same_held
returns-then-same_held c = λ k role clear.
    let a = c.args in
    let x = decode a.rec.now in
    let h = taken a.past.now in
    put_same x h a.index c.in-Some.value (place_is x h a.index c.a.ensures (c.in-Some.ensures.standing k)) role clear
    (sym c.same_held.ensures.answer ∙ c.if-same_held.true)

pub returns : goal.returns
returns c = λ k role clear.
    let a = c.args in
    let x = decode a.rec.now in
    let h = taken a.past.now in
    put_differs x h a.index c.in-Some.value (place_is x h a.index c.a.ensures (c.in-Some.ensures.standing k)) role clear
    (sym c.same_held.ensures.answer ∙ c.if-same_held.false) c.a-2.ensures (ap Some c.new.ensures)
