-- The ends of names above a key: the lower of two, and where all of them lie.
use mathlib.Core.Path.{◌≡◌, refl}
use mathlib.Core.Bool.{Bool, true, false, cond, ◌&&◌}
use mathlib.Core.List.{List, ◌∷◌}
use Prim.Native.Nat.{ℕ, zero, suc, ◌<◌}
use native.Mathlib.Decide.{ℕ_discrete}
use native.Mathlib.Omega.{arith}
use Rattle.record.specs.Keys.{Key, key_ltb, Lt, Le}
use Rattle.record.specs.Records.{TraceRecord}
use Rattle.record.proofs.Keys.{le_refl, lt_le}
use Rattle.record.proofs.Booleans.{never}
use Rattle.rules.specs.Descriptors.{span_of}
use Rattle.rules.specs.History.{History}
use Rattle.rules.proofs.Members.{Mem}
use Rattle.rules.proofs.MetaWalks.{ends, ends_more, ends_start, ends_end}
use Rattle.history.specs.Logs.{record_at, hist}
use Rattle.history.proofs.Logs.{hist_suc}
use Rattle.meta_never_goes_back.specs.Walk.{pull}

-- ---- the lower of two keys above c

pub record Pulled (c x b r : Key) : Type 0 where
  pub up : Lt c b → Lt c r
  pub kept : Le r b
  pub new : Lt c x → Le r x
  pub mem : {ks : List Key} → Mem x ks → Mem b ks → Mem r ks

pulled : (c x b : Key) (p q : Bool) → key_ltb c x ≡ p → key_ltb x b ≡ q → Pulled c x b (cond (p && q) x b)
pulled c x b true true e f = record { up = λ l. record { is = e }; kept = lt_le (record { is = f }); new = λ l. le_refl x; mem = λ m n. m }
pulled c x b true false e f = record { up = λ l. l; kept = le_refl b; new = λ l. record { is = f }; mem = λ m n. n }
pulled c x b false q e f = record { up = λ l. l; kept = le_refl b; new = λ l. never l.is e; mem = λ m n. n }

pub pull_is : (c x b : Key) → Pulled c x b (pull c x b)
pull_is c x b = pulled c x b (key_ltb c x) (key_ltb x b) refl refl

-- ---- the keys where a walk can stop, whatever the work area holds

-- the ends of the record at a place are among them
ends_of : (f : TraceRecord → Key) → ((x : TraceRecord) (h : History) → Mem (f x) (ends (x ∷ h))) → (log : List ℕ) (n k : ℕ) → k < n
    → Mem (f (record_at log k)) (ends (hist log n))
ends_of f m log zero k l = absurd (omega arith)
ends_of f m log (suc n) k l =
    rw (hist_suc log n)
    (elim (ℕ_discrete k n) [
      | yes e ↦ rw e (m (record_at log n) (hist log n))
      | no e ↦ ends_more (record_at log n) (hist log n) (ends_of f m log n k (omega arith))
    ])

pub start_of : (log : List ℕ) (n k : ℕ) → k < n → Mem (span_of 1 (record_at log k)).start (ends (hist log n))
start_of = ends_of (λ x. (span_of 1 x).start) ends_start

pub end_of : (log : List ℕ) (n k : ℕ) → k < n → Mem (span_of 1 (record_at log k)).end (ends (hist log n))
end_of = ends_of (λ x. (span_of 1 x).end) ends_end
