-- A name that opposes is found; past a marked one that is surpassed there is none, and none matters past one that covers.
use mathlib.Core.Path.{sym, ◌∙◌}
use Rattle.record.specs.Records.{decode}
use Rattle.rules.specs.MetaNeverGoesBack.{names}
use Rattle.history.specs.Pasts.{taken}
use Rattle.meta_never_goes_back.specs.Walk.{named_by, opposes}
use Rattle.meta_never_goes_back.proofs.Naming.{next_past, name_taken}
use Rattle.meta_never_goes_back.proofs.Spared.{spared, spared_covered, surpassed_clear, scan_first, passed_by, passed_last, passed_mem, passed_end}
use Rattle.meta_never_goes_back.proofs.Surpassed.{marked_clear}
use Rattle.meta_never_goes_back.proofs.opposed.any_opposed.Goals as goal

pub loop-old-init : goal.loop-old-init
loop-old-init c =
    let n = c.new-old-items.ensures in
    scan_first (opposes (decode c.args.rec.now)) c.into_iter-old-iterator.ensures.into_iter_gives n.past n.next

pub returns-then-is_marked : goal.returns-then-is_marked
returns-then-is_marked c = λ k p f.
    let x = decode c.args.rec.now in
    let i = c.loop-old.invariant in
    let g = c.in-Some.ensures.steps in
    let over = sym c.does_surpass.ensures ∙ c.if-does_surpass.true in
    spared x (names (taken c.args.past.now))
    (passed_last i.0 g (i.1 k) (surpassed_clear x (named_by c.in-Some.old) over)
    (marked_clear x (name_taken i.0 g) k (sym c.is_marked.ensures ∙ c.if-is_marked.true) over))

pub loop-old-preserved-else-is_marked : goal.loop-old-preserved-else-is_marked
loop-old-preserved-else-is_marked c =
    let i = c.loop-old.invariant in
    let g = c.in-Some.ensures.steps in
    let over = sym c.does_surpass.ensures ∙ c.if-does_surpass.true in
    (next_past i.0 g, λ k. passed_by i.0 g (i.1 k) (surpassed_clear (decode c.args.rec.now) (named_by c.in-Some.old) over) k)

pub returns-then-does_cover : goal.returns-then-does_cover
returns-then-does_cover c = λ k p f.
    let i = c.loop-old.invariant in
    let g = c.in-Some.ensures.steps in
    spared_covered (decode c.args.rec.now) (named_by c.in-Some.old) (sym c.does_cover.ensures ∙ c.if-does_cover.true) (taken c.args.past.now) p
    (passed_mem i.0 g (i.1 k))

pub loop-old-preserved : goal.loop-old-preserved
loop-old-preserved c =
    let i = c.loop-old.invariant in
    let g = c.in-Some.ensures.steps in
    (next_past i.0 g, λ k. passed_by i.0 g (i.1 k) (sym c.does_oppose.ensures ∙ c.if-does_oppose.false) k)

pub returns : goal.returns
returns c = λ k p f. spared (decode c.args.rec.now) (names (taken c.args.past.now)) (passed_end c.in-None.ensures.steps.0 (c.loop-old.invariant.1 k))
