-- `find` along a chain for the latest of the first top records that passes a test.
use mathlib.Core.Path.{◌≡◌, refl, sym, ap, ◌∙◌}
use mathlib.Core.Bool.{Bool, true, false, ◌&&◌}
use mathlib.Core.List.{List}
use Prim.Native.Nat.{ℕ, ◌-◌, ◌*◌, ◌≤◌, ◌<◌}
use native.Mathlib.Omega.{arith}
use native.Mathlib.Decide.{dec_lt}
use lib.Dec.{leb}
use borrow.Author.Tests.{le-leb, leb-true}
use denote.Param.Members.{Mut}
use denote.Ref.{Bor}
use Rattle.std.specs.Prelude.{Option}
use Rattle.std.specs.Fn.{CalledAt}
use Rattle.std.specs.Iterator.{FindsItem}
use Rattle.record.specs.Records.{TraceRecord, decode}
use Rattle.rules.specs.History.{History, Tells}
use Rattle.history.specs.declared.past.Past.{Past}
use Rattle.history.specs.declared.walk.Chain.{Chain}
use Rattle.history.specs.declared.walk.Taken.{Taken}
use Rattle.record.proofs.Booleans.{and_left, and_right}
use Rattle.history.proofs.Logs.{record_bytes}
use Rattle.history.specs.Logs.{record_at, hist}
use Rattle.history.specs.Columns.{Chained}
use Rattle.history.specs.Pasts.{taken, IsTaken, Begins, Steps, number_of}
use Rattle.history.proofs.Chains.{In}
use Rattle.history.proofs.Finds.{Tests, find_is}
use Rattle.history.proofs.Walks.{look_end, up_to, up_to_below, up_to_above}
use Rattle.one_owner_per_key.specs.Numbers.{latest_number}
use Rattle.one_owner_per_key.proofs.Latest.{passes_at, number_none, less_hit, less_miss}
use Rattle.one_owner_per_key.proofs.Walks.{Within, outside}

-- what is looked for, as of the first n records up to the top
abbrev pub latest_to : (TraceRecord → History → Bool) → List ℕ → ℕ → ℕ → ℕ
latest_to t log top = up_to top (λ n. latest_number t (hist log n))

module _ (t : TraceRecord → History → Bool) (log : List ℕ) (top : ℕ) where
  pub to_none : latest_to t log top 0 ≡ 0
  to_none = up_to_below (λ n. latest_number t (hist log n)) top 0 (omega arith) ∙ look_end (latest_number t) log refl ∙ number_none t

  -- a record that does not pass, or is above the top, leaves it
  pub to_miss : (i : ℕ) → 0 < i → (i ≤ top → passes_at t log (i - 1) ≡ false) → latest_to t log top i ≡ latest_to t log top (i - 1)
  to_miss i o e =
      elim (dec_lt top i) [
        | yes l ↦ up_to_above (λ n. latest_number t (hist log n)) top i (omega arith) ∙ sym (up_to_above (λ n. latest_number t (hist log n)) top (i - 1) (omega arith))
        | no l ↦
            up_to_below (λ n. latest_number t (hist log n)) top i (omega arith) ∙ less_miss t log o (e (omega arith))
            ∙ sym (up_to_below (λ n. latest_number t (hist log n)) top (i - 1) (omega arith))
      ]

  pub to_hit : (i : ℕ) → 0 < i → i ≤ top → passes_at t log (i - 1) ≡ true → i ≡ latest_to t log top i
  to_hit i o l e = sym (up_to_below (λ n. latest_number t (hist log n)) top i l ∙ less_hit t log o e)

  pub to_top : (n : ℕ) → top ≤ n → latest_to t log top n ≡ latest_number t (hist log top)
  to_top n l = up_to_above (λ n. latest_number t (hist log n)) top n l

-- a record of the bucket at which the walk stops passes and is one of the first top
pub record Passing (t : TraceRecord → History → Bool) (log : List ℕ) (top : ℕ) (y : Taken) : Type 0 where
  pub within : y.number ≤ top
  pub passes : passes_at t log (y.number - 1) ≡ true

module _ {F : Type 0} {g : Mut F (Bor Taken × Unit {0}) Bool} {f : F} {test : Taken → Bool} (calls : Tests (CalledAt g) f test)
    {t : TraceRecord → History → Bool} {at : Tells ℕ} {b : ℕ} (s : Within t at b) {p : Past} {down : ℕ} (top : ℕ) (upto : top ≤ p.count) where
  -- THE LAW of such a walk
  pub find_latest : {heads : ℕ} → Chained at heads (down * p.cap) p.cap (taken p) p.work.now
      → ((y : Taken) → IsTaken p y → test y ≡ false → y.number ≤ top → passes_at t p.log.now (y.number - 1) ≡ false)
      → ((y : Taken) → IsTaken p y → In at b p.log.now (y.number - 1) → test y ≡ true → Passing t p.log.now top y)
      → (r : Option Taken) (u : Chain) {tops : ℕ} {c : Chain} → heads ≡ tops * p.cap → b < p.cap → Begins p tops down b c → FindsItem Steps g c f r u
      → number_of r ≡ latest_number t (hist p.log.now top)
  find_latest w miss hit r u h l z e =
      find_is calls (latest_to t p.log.now top) (outside s p.log.now top) w (λ y k n. to_miss t p.log.now top y.number k.some (miss y k n))
      number_of (sym (to_none t p.log.now top))
      (λ y k i n. let q = hit y k i n in to_hit t p.log.now top y.number k.some q.within q.passes) r u h l z e
      ∙ to_top t p.log.now top p.count upto

-- where the test is of the record alone
abbrev pub up_to_by : ℕ → (TraceRecord → Bool) → Taken → Bool
up_to_by top q y = leb y.number top && q (decode y.record.now)

module _ {F : Type 0} {g : Mut F (Bor Taken × Unit {0}) Bool} {f : F} (q : TraceRecord → Bool) (top : ℕ) (calls : Tests (CalledAt g) f (up_to_by top q))
    {at : Tells ℕ} {b : ℕ} (s : Within (λ x _. q x) at b) {p : Past} (upto : top ≤ p.count) where
  record_is : (y : Taken) → IsTaken p y → q (decode y.record.now) ≡ q (record_at p.log.now (y.number - 1))
  record_is y t = ap q (record_bytes p.log.now (y.number - 1) t.bytes)

  pub find_by : {down heads : ℕ} → Chained at heads (down * p.cap) p.cap (taken p) p.work.now
      → (r : Option Taken) (u : Chain) {tops : ℕ} {c : Chain} → heads ≡ tops * p.cap → b < p.cap → Begins p tops down b c → FindsItem Steps g c f r u
      → number_of r ≡ latest_number (λ x _. q x) (hist p.log.now top)
  find_by {down} w =
      find_latest calls s {down = down} top upto w
      (λ y t e l. sym (record_is y t) ∙ (rw (le-leb y.number top l) at e))
      (λ y t i e. record {
        within = leb-true y.number top (and_left (leb y.number top) (q (decode y.record.now)) e);
        passes = sym (record_is y t) ∙ and_right (leb y.number top) (q (decode y.record.now)) e;
      })
