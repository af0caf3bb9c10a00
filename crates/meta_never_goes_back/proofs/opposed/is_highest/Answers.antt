-- A record that names is the highest where the scan finds no name that it does not surpass.
use mathlib.Core.Path.{sym, ap, ◌∙◌}
use mathlib.Core.Bool.{not}
use Rattle.record.specs.Records.{decode}
use Rattle.history.specs.Pasts.{taken}
use Rattle.meta_never_goes_back.specs.Columns.{unsurpassed}
use Rattle.meta_never_goes_back.proofs.Naming.{next_past, name_taken}
use Rattle.meta_never_goes_back.proofs.Spared.{scan_first, passed_by, passes_here, passed_last, passed_end}
use Rattle.meta_never_goes_back.proofs.Surpassed.{highest_is, highest_not, marked_surpassed}
use Rattle.meta_never_goes_back.proofs.opposed.is_highest.Goals as goal

pub returns-then-not-is_won : goal.returns-then-not-is_won
returns-then-not-is_won c = λ k. highest_not (decode c.args.rec.now) (taken c.args.past.now) (sym c.is_won.ensures ∙ c.if-not-is_won.true)

pub loop-old-init : goal.loop-old-init
loop-old-init c =
    let n = c.new-old-items.ensures in
    scan_first (unsurpassed (decode c.args.rec.now)) c.into_iter-old-iterator.ensures.into_iter_gives n.past n.next

pub returns-then-not-does_surpass : goal.returns-then-not-does_surpass
returns-then-not-does_surpass c = λ k.
    let a = c.args in
    let i = c.loop-old.invariant in
    let g = c.in-Some.ensures.steps in
    highest_is (decode a.rec.now) (taken a.past.now) (sym c.is_won.ensures ∙ c.if-not-is_won.false)
    (passes_here i.0 g (i.1 k) (ap not (sym c.does_surpass.ensures ∙ c.if-not-does_surpass.true)))

pub returns-then-is_marked : goal.returns-then-is_marked
returns-then-is_marked c = λ k.
    let a = c.args in
    let x = decode a.rec.now in
    let i = c.loop-old.invariant in
    let g = c.in-Some.ensures.steps in
    let over = sym c.does_surpass.ensures ∙ c.if-not-does_surpass.false in
    highest_is x (taken a.past.now) (sym c.is_won.ensures ∙ c.if-not-is_won.false)
    (passed_last i.0 g (i.1 k) (ap not over) (marked_surpassed x (name_taken i.0 g) k (sym c.is_marked.ensures ∙ c.if-is_marked.true) over))

pub loop-old-preserved : goal.loop-old-preserved
loop-old-preserved c =
    let i = c.loop-old.invariant in
    let g = c.in-Some.ensures.steps in
    (next_past i.0 g, λ k. passed_by i.0 g (i.1 k) (ap not (sym c.does_surpass.ensures ∙ c.if-not-does_surpass.false)) k)

pub returns : goal.returns
returns c = λ k.
    highest_is (decode c.args.rec.now) (taken c.args.past.now) (sym c.is_won.ensures ∙ c.if-not-is_won.false)
    (passed_end c.in-None.ensures.steps.0 (c.loop-old.invariant.1 k))
