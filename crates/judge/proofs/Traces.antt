-- A trace's records: the next one, what is after it, and a push of it. Assumes nothing.
use Rattle.std.specs.Prelude.{Ok, Err}
use mathlib.Core.Path.{◌≡◌, refl, sym, ap, ◌∙◌, subst}
use mathlib.Core.Bool.{Bool, true, false}
use mathlib.Core.List.{List, [], ◌∷◌, ◌++◌, append-nil}
use mathlib.Core.Logic.{◌⊎◌, inl, inr, ⊎_elim}
use Prim.Native.Nat.{ℕ, ◌+◌, ◌*◌, ◌≤◌, ◌<◌, min}
use native.Mathlib.Omega.{arith}
use Rattle.std.proofs.lemmas.List.{length-append}
use Rattle.std.proofs.Math.Seq.{take-append_seam, drop-append_seam}
use lib.ListN.{length, take, drop, replicate, drop_of_length-le, get_or-replicate}
use lib.Seq.{take_all}
use lib.Dec.{eqb, leb}
use borrow.Author.Tests.{ne_eqb, leb-true, leb-false}
use Rattle.record.specs.Records.{decode}
use Rattle.rules.specs.declared.Opening.{Opening}
use Rattle.rows.specs.Rows.{report_in, reports_from, KindsFit}
use Rattle.events.specs.Numbers.{event_in}
use Rattle.judge.specs.declared.opening.Opened.{Opened}
use Rattle.judge.specs.declared.trace.Traced.{Traced}
use Rattle.judge.specs.declared.state.Judge.{Judge}
use Rattle.decision.specs.declared.refusal.Refusal.{Refusal}
use Rattle.decision.proofs.Decisions.{refuses}
use Rattle.decision.specs.Refusals.{outcome_number}
use Rattle.judge.specs.States.{State, push_refusal, takes}
use Rattle.decision.specs.Refusals.{push_refusal_by}
use Rattle.intake.specs.Words.{Indexed}
use Rattle.intake.specs.Takes.{TakesIn}
use Rattle.judge.specs.Pushes.{Pushed, state_of}
use Rattle.judge.specs.Openings.{fresh_of, Opens}
use Rattle.judge.specs.Traces.{Feeds, refused, taken, judge_by, TracedBy}
use Rattle.judge.proofs.Pushes.{push_taken, rows_own}

no_more : (s : List ℕ) → length s ≡ 0 → s ≡ []
no_more [] e = refl
no_more (x ∷ s) e = absurd (omega arith)

shorter : (b r a : ℕ) → b ≡ min 368 r → r ≡ b + a → (a ≡ 0) ⊎ (b ≡ 368)
shorter b r a e m = by_cases (leb r 368) refl where
  by_cases : (t : Bool) → leb r 368 ≡ t → (a ≡ 0) ⊎ (b ≡ 368)
  by_cases true q = inl (let l = leb-true r 368 q in omega arith)
  by_cases false q = inr (let l = leb-false r 368 q in omega arith)

-- the next record of the bytes that are left, and those after it
pub record Chunk (rest bytes after : List ℕ) : Type 0 where
  pub some : 0 < length rest
  pub part : bytes ≡ take 368 rest
  pub left : after ≡ drop 368 rest

-- a chunk is a record, or the tail that is shorter
pub chunk : {rest bytes after : List ℕ} {size : ℕ} → size ≡ 368
    → (rest ≡ bytes ++ after) × (length bytes ≡ min size (length rest)) × (0 < length rest) → Chunk rest bytes after
chunk {rest} {bytes} {after} {size} z w =
    let e : length bytes ≡ min 368 (length rest) = w.1 ∙ ap (λ (k : ℕ). min k (length rest)) z in
    let many : length rest ≡ length bytes + length after = ap length w.0 ∙ length-append bytes after in
    ⊎_elim
    (λ (l : length after ≡ 0).
    let none : after ≡ [] = no_more after l in
    let whole : rest ≡ bytes = w.0 ∙ ap (λ (s : List ℕ). bytes ++ s) none ∙ append-nil bytes in
    let short : length rest ≤ 368 = omega arith in
    record { some = w.2; part = sym whole ∙ sym (take_all 368 rest short); left = none ∙ sym (drop_of_length-le rest short) })
    (λ (l : length bytes ≡ 368). record {
      some = w.2;
      part = sym (ap (λ (k : ℕ). take k rest) (sym l) ∙ ap (take (length bytes)) w.0 ∙ take-append_seam bytes after);
      left = sym (ap (λ (k : ℕ). drop k rest) (sym l) ∙ ap (drop (length bytes)) w.0 ∙ drop-append_seam bytes after);
    })
    (shorter (length bytes) (length rest) (length after) e many)

-- the trace's next record, taken or refused by numbers and rows
module _ (o : Opening) (cap n e : ℕ) (log work rows : List ℕ) {log' work' rows' bytes : List ℕ} {r : ℕ} (trace : List ℕ) (some : 0 < length trace)
    (part : bytes ≡ take 368 trace) (size : length rows ≡ 56) (p : TakesIn o cap n e log work rows bytes r log' work' rows') where
  abbrev here : State
  here = state_of (judge_by o cap n e rows) log work

  number_is : r ≡ push_refusal here (take 368 trace)
  unfolding push_refusal
  number_is = p.refusal ∙ ap (push_refusal_by cap n log (length work)) part

  -- taken, and the rest follows, after as many events as there are with this record
  pub feeds_on : {e' f a : ℕ} {t : State} → r ≡ 0 → e' ≡ event_in e (decode bytes)
      → Feeds (state_of (judge_by o cap (n + 1) e' rows') log' work') (drop 368 trace) (n + 1) f a t → Feeds here trace n f a t
  feeds_on {e'} z q w =
      let u = push_taken (judge_by o cap n e rows) log work rows bytes (rows_own o cap n e rows size) p z in
      let v : Pushed Indexed here bytes (state_of (judge_by o cap (n + 1) e' rows') log' work') =
      subst (λ (m : ℕ). Pushed Indexed here bytes (state_of (judge_by o cap (n + 1) m rows') log' work')) (sym q) u in
      taken some (ap (λ (m : ℕ). eqb m 0) (sym number_is ∙ z))
      (subst (λ (b : List ℕ). Pushed Indexed here b (state_of (judge_by o cap (n + 1) e' rows') log' work')) part v) w

  -- refused: everything is as it stood
  pub feeds_off : (r ≡ 0 → ⊥) → Feeds here trace n r (n + 1) (state_of (judge_by o cap n e rows') log' work')
  feeds_off z =
      let same = p.refused z in
      let q : takes here (take 368 trace) ≡ false = ap (λ (m : ℕ). eqb m 0) (sym number_is) ∙ ne_eqb r 0 z in
      let s : here ≡ state_of (judge_by o cap n e rows') log' work' =
      λ i. state_of (judge_by o cap n e (sym same.2 i)) (sym same.0 i) (sym same.1 i) in
      subst (Feeds here trace n r (n + 1)) s (refused some q number_is)

-- a judge that has taken nothing has rows of zeros
pub fresh_rows : (c : ℕ) (o : Opening) → judge_by o c 0 0 (replicate 56 0) ≡ fresh_of c o
unfolding reports_from report_in
fresh_rows c o = refl

pub zeros_fit : KindsFit (replicate 56 0) 0
zeros_fit = record { kind = λ k l. let e = get_or-replicate {A = ℕ} 56 (0 + 7 * k) 0 0 (omega arith) in omega arith }

-- an opening that is not refused, and what the trace comes to from there; or one that is
module _ (n : Opening) (log work trace : List ℕ) (o : Opened) {work₁ : List ℕ} (p : Opens n (length log) work o work₁) where
  pub traced_on : {log' work' : List ℕ} (r : Traced) → o.outcome ≡ Ok tt
      → Feeds (state_of (judge_by o.judge.opening o.judge.capacity 0 0 (replicate 56 0)) log work₁) trace 0 (outcome_number r.outcome) r.at
      (state_of r.judge log' work')
      → TracedBy n log work trace r log' work'
  traced_on {log'} {work'} r e w = record {
    refused = λ none. let x = (p.refused none).0 in let y = ap outcome_number e in absurd (omega arith);
    opened = λ c f.
        let q = p.opened c f in
        let j = ap (λ (j : Judge). judge_by j.opening j.capacity 0 0 (replicate 56 0)) q.1 ∙ fresh_rows c n in
        subst (λ (s : State). Feeds s trace 0 (outcome_number r.outcome) r.at (state_of r.judge log' work')) (λ i. state_of (j i) log (q.2 i)) w;
  }

  pub traced_off : (f : Refusal) → o.outcome ≡ Err f → TracedBy n log work trace (record { outcome = Err f; at = 0; judge = o.judge }) log work₁
  traced_off f e = record {
    refused = λ none. let q = p.refused none in (sym (ap outcome_number e) ∙ q.0, refl, q.1, refl, q.2);
    opened = λ c l. absurd (refuses f (sym (ap outcome_number e) ∙ (p.opened c l).0));
  }
