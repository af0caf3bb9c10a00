-- `feed`: whatever the rest of the trace comes to from here, the whole comes to from the start; each record goes one on, or ends it.
use mathlib.Core.Path.{◌≡◌, refl, sym, ap, subst, ◌∙◌}
use Prim.Native.Nat.{ℕ, ◌+◌}
use native.Mathlib.Omega.{arith}
use borrow.Author.Rules.{rules}
use lib.ListN.{length}
use mathlib.Core.List.{List}
use mathlib.Core.Logic.{inl}
use Rattle.record.specs.Records.{decode}
use Rattle.rules.specs.declared.Opening.{Opening}
use Rattle.events.specs.Numbers.{event_in}
use Rattle.decision.specs.Refusals.{PushNumber, refusal_number}
use Rattle.intake.specs.Takes.{KeptIn, PreviewsIn}
use Rattle.decision.proofs.Decisions.{Room, push_number, refuses, room_of}
use Rattle.intake.proofs.Takes.{takes_off, takes_on, keepable}
use Rattle.judge.specs.States.{State}
use Rattle.judge.specs.Pushes.{state_of}
use Rattle.judge.specs.Traces.{Feeds, ends, judge_by}
use Rattle.judge.proofs.Traces.{Chunk, chunk, feeds_on, feeds_off}
use Rattle.judge.proofs.trace.feed.Goals as goal

-- where a record has been judged, from the bytes that were left to those after it: what the rest of the trace comes to
module _ (o : Opening) (cap n e : ℕ) (log work rows rest bytes after trace : List ℕ) where
  -- the record has been judged, with this answer; the first state is that before the trace
  record Judged (first : State) (r : ℕ) (rows' : List ℕ) : Type 0 where
    size : length rows ≡ 56
    next : Chunk rest bytes after
    past : (f a : ℕ) (t : State) → Feeds (state_of (judge_by o cap n e rows) log work) rest n f a t → Feeds first trace 0 f a t
    judged : PreviewsIn o cap n e log work rows bytes r rows'

  module _ {first : State} {r : ℕ} {rows' : List ℕ} (j : Judged first r rows') where
    on : {rec log' work' : List ℕ} {e' : ℕ} → r ≡ 0 → rec ≡ bytes → KeptIn cap n log work rec log' work' → e' ≡ event_in e (decode rec)
        → (f a : ℕ) (t : State) → Feeds (state_of (judge_by o cap (n + 1) e' rows') log' work') after (n + 1) f a t → Feeds first trace 0 f a t
    on {rec} {log'} {work'} {e'} q whole k v f a t w =
        let there = state_of (judge_by o cap (n + 1) e' rows') log' work' in
        let p = takes_on o cap n e log work rows bytes j.judged q whole k in
        let v : e' ≡ event_in e (decode bytes) = v ∙ ap (λ (s : List ℕ). event_in e (decode s)) whole in
        j.past f a t
        (feeds_on o cap n e log work rows rest j.next.some j.next.part j.size p refl v
        (subst (λ (b : List ℕ). Feeds there b (n + 1) f a t) j.next.left w))

    off : (r ≡ 0 → ⊥) → Feeds first trace 0 r (n + 1) (state_of (judge_by o cap n e rows') log work)
    off q =
        let p = takes_off o cap n e log work rows bytes j.judged q in
        j.past _ _ _ (feeds_off o cap n e log work rows rest j.next.some j.next.part j.size p q)

    few : PushNumber r
    few = let f = push_number cap n log (length work) bytes in subst PushNumber (sym j.judged.refusal) f

pub loop-bytes-init : goal.loop-bytes-init
loop-bytes-init c =
    let a = c.args in
    let first = state_of (judge_by (record { tenant = a.tenant }) a.cap 0 0 a.rows.now) a.log.now a.work.now in
    let items = c.into_iter-bytes-iterator.result in
    let whole : items.rest.now ≡ a.trace.now = search rules in
    let size : items.size ≡ 368 = search rules in
    (omega arith, refl, refl, refl, λ f. f, size, λ f n t w. subst (λ (s : List ℕ). Feeds first s 0 f n t) whole w)

pub preview-requires : goal.preview-requires
preview-requires c = c.loop-bytes.invariant.3 ∙ c.requires

pub returns-in-Err : goal.returns-in-Err
returns-in-Err c =
    let a = c.args in
    let o : Opening = record { tenant = a.tenant } in
    let l = c.loop-bytes in
    let i = l.invariant in
    let p = c.in-Err.ensures.judges in
    let w = c.in-Some.ensures.steps.1 in
    let rest = l.bytes-iterator.rest.now in
    let bytes = c.in-Some.bytes.now in
    let after = c.next.new.self.rest.now in
    let first = state_of (judge_by o a.cap 0 0 a.rows.now) a.log.now a.work.now in
    let j : Judged o a.cap l.n l.events l.log l.work l.rows rest bytes after a.trace.now first (refusal_number c.in-Err.refusal) c.preview.new.rows =
    record { size = i.3 ∙ c.requires; next = chunk i.5 w; past = i.6; judged = p } in
    record {
      feeds = off o a.cap l.n l.events l.log l.work l.rows rest bytes after a.trace.now j (refuses c.in-Err.refusal);
      size = p.size ∙ i.3;
      fits = λ f. p.fits (i.4 f);
      few = few o a.cap l.n l.events l.log l.work l.rows rest bytes after a.trace.now j;
    }

-- a record that is not refused has room, and can be kept
pub keep-requires : goal.keep-requires
keep-requires c =
    let l = c.loop-bytes in
    keepable (record { tenant = c.args.tenant }) c.args.cap l.n l.events l.log l.work l.rows c.in-Some.bytes.now c.in-Ok.ensures.judges refl

pub loop-bytes-preserved : goal.loop-bytes-preserved
loop-bytes-preserved c =
    let a = c.args in
    let o : Opening = record { tenant = a.tenant } in
    let l = c.loop-bytes in
    let i = l.invariant in
    let p = c.in-Ok.ensures.judges in
    let w = c.in-Some.ensures.steps.1 in
    let rest = l.bytes-iterator.rest.now in
    let bytes = c.in-Some.bytes.now in
    let after = c.next.new.self.rest.now in
    let r : Room a.cap l.n l.log l.work bytes = room_of (sym p.refusal) in
    let most = r.room in
    let small = r.suits.small in
    let first = state_of (judge_by o a.cap 0 0 a.rows.now) a.log.now a.work.now in
    let j : Judged o a.cap l.n l.events l.log l.work l.rows rest bytes after a.trace.now first 0 c.preview.new.rows =
    record { size = i.3 ∙ c.requires; next = chunk i.5 w; past = i.6; judged = p } in (
      omega arith,
      c.keep.auto.log ∙ i.1,
      c.keep.auto.work ∙ i.2,
      p.size ∙ i.3,
      λ f. p.fits (i.4 f),
      c.in-Some.ensures.steps.0 ∙ i.5,
      on o a.cap l.n l.events l.log l.work l.rows rest bytes after a.trace.now j refl c.in-Ok.ensures.whole c.keep.ensures c.event_after-events.ensures,
    )

pub returns : goal.returns
returns c =
    let i = c.loop-bytes.invariant in
    record { feeds = i.6 _ _ _ (ends c.in-None.ensures.steps.1.0); size = i.3; fits = i.4; few = inl (omega arith) }
