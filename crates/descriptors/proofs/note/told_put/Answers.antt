-- By what the three walks found: whether the place is taken, a first value of the generation, the greatest of the range.
use mathlib.Core.Path.{◌≡◌, refl, sym, ap, ◌∙◌}
use mathlib.Core.Bool.{not}
use Rattle.std.proofs.Common.{rules}
use borrow.Author.Tests.{tests}
use lib.Dec.{leb}
use Rattle.rules.specs.History.{holds, is_some}
use Rattle.record.specs.Records.{decode}
use Rattle.history.specs.Pasts.{taken}
use Rattle.descriptors.specs.Columns.{put}
use Rattle.descriptors.proofs.Noting.{told_taken, told_free, first_free, top_below, place_is_taken}
use Rattle.descriptors.proofs.note.told_put.Goals as goal

pub returns-then-is_some : goal.returns-then-is_some
returns-then-is_some c = λ k role.
    let x = decode c.args.rec.now in
    let h = taken c.args.past.now in
    let place = place_is_taken x h c.args.index c.standing_at.result c.a-range.ensures (c.standing_at.ensures.standing k) in
    told_taken x h c.args.index role refl (sym place ∙ (sym c.is_some.ensures ∙ c.if-is_some.true))

pub returns : goal.returns
returns c = λ k role.
    let x = decode c.args.rec.now in
    let h = taken c.args.past.now in
    let i = c.args.index in
    let place = place_is_taken x h i c.standing_at.result c.a-range.ensures (c.standing_at.ensures.standing k) in
    let first = first_free x h i c.first_of.result c.a-range.ensures c.d.ensures (c.first_of.ensures.first k) in
    let top = top_below x h i c.a-range.ensures (c.greatest.ensures.greatest k) in
    let none : c.is_none.result ≡ not (is_some c.first_of.result) = search (rules, tests) in
    let rises : c.is_none_or.result ≡ not (holds (λ v. leb i v.index) (put c.greatest.result)) = search (rules, tests) in
    told_free x h i role refl (sym place ∙ (sym c.is_some.ensures ∙ c.if-is_some.false)) (none ∙ ap not first) (rises ∙ ap not top)
