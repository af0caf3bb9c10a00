-- What is owed was registered, with that right range: so the lowest missing one is the lowest of all ranges.
use mathlib.Core.Path.{◌≡◌, refl, subst}
use mathlib.Core.Bool.{Bool, true, false, ◌&&◌}
use mathlib.Core.List.{List, [], ◌∷◌, map}
use Rattle.std.specs.Prelude.{Option, None, Some}
use Prim.Native.Nat.{ℕ}
use lib.Dec.{eqb}
use borrow.Author.Tests.{eqb-true}
use Rattle.record.specs.Records.{TraceRecord}
use Rattle.rules.specs.History.{History, when, or_else, is_some, given, add_some, greatest_of, lowest_of}
use Rattle.rules.specs.RightHalf.{Registered, registered, registers, applies, is_voter, own_debt, owes_by_registering, registering_debt, cancels, debt_at, owes, is_missing}
use Rattle.record.proofs.Booleans.{never, and_left, and_right}
use Rattle.rules.proofs.Members.{Mem, here, there}
use Rattle.rules.proofs.Placed.{Placed, Answer, placed_mem}
use Rattle.rules.proofs.Best.{Greatest, greatest_of_right}
use Rattle.rules.proofs.Firsts.{add_mem}
use Rattle.rules.proofs.Once.{registered_step}
use Rattle.rules.proofs.Debts.{owes_nil, owes_cancelled, owes_arises, owes_kept}
use Rattle.rules.proofs.Candidates.{LowestOfAll, candidates_suffice}

-- the split is registered, and has that right range
pub record Due (right : ℕ) (ss : List Registered) (s : Registered) : Type 0 where
  pub mem : Mem s ss
  pub its : s.right ≡ right

-- .. where there is one
abbrev pub DueIf : ℕ → List Registered → Option Registered → Type 0
DueIf right ss None = Unit {0}
DueIf right ss (Some s) = Due right ss s

module _ (right : ℕ) (ss : List Registered) where
  due_or : (a b : Option Registered) → DueIf right ss a → DueIf right ss b → DueIf right ss (or_else a b)
  due_or None b d e = e
  due_or (Some s) b d e = d

  -- what is found among them by a test that asks for the right range
  module _ (p : Registered → Bool) (its : (s : Registered) → p s ≡ true → s.right ≡ right) where
    due_placed : {s : Registered} → Placed p ss s → Due right ss s
    due_placed {s} w = record { mem = placed_mem w; its = its s w.passes }

    greatest_by : (o : Option Registered) → Answer (Greatest (λ s. s.index) p ss) p ss o → DueIf right ss o
    greatest_by None h = tt
    greatest_by (Some s) h = due_placed h.place

    greatest_due : DueIf right ss (greatest_of (λ s. s.index) p ss)
    greatest_due = greatest_by (greatest_of (λ s. s.index) p ss) (greatest_of_right (λ s. s.index) p ss)

module _ (node right : ℕ) (x : TraceRecord) (h : History) where
  -- what the record registers
  registering_next : (o : Option Registered) → registered (x ∷ h) ≡ add_some o (registered h)
      → DueIf right (registered (x ∷ h)) (given (λ s. when (owes_by_registering node right h s) s) o)
  registering_next None e = tt
  registering_next (Some s) e = by_test (owes_by_registering node right h s) refl
    where
      by_test : (b : Bool) → owes_by_registering node right h s ≡ b → DueIf right (registered (x ∷ h)) (when b s)
      by_test true t = record { mem = rw e here; its = eqb-true _ _ (and_left _ (is_voter node h s) (and_left _ _ t)) }
      by_test false t = tt

  due_more : (o : Option Registered) → DueIf right (registered h) o → DueIf right (registered (x ∷ h)) o
  due_more None d = tt
  due_more (Some s) d = record { mem = rw (registered_step x h) (add_mem (registers x h) d.mem); its = d.its }

  -- the record's own debt
  abbrev is_owed : Registered → Bool
  is_owed s = applies node s.parent s.index x h && eqb s.right right && is_voter node h s

  owed_its : (s : Registered) → is_owed s ≡ true → s.right ≡ right
  owed_its s e = eqb-true _ _ (and_right (applies node s.parent s.index x h) _ (and_left _ (is_voter node h s) e))

  own_due : DueIf right (registered (x ∷ h)) (own_debt node right x h)
  unfolding own_debt
  own_due = greatest_due right (registered (x ∷ h)) is_owed owed_its

  -- the debt that arises
  pub debt_due : DueIf right (registered (x ∷ h)) (debt_at node right x h)
  unfolding debt_at
  debt_due =
      due_or right (registered (x ∷ h)) (own_debt node right x h) (registering_debt node right x h) own_due
      (registering_next (registers x h) (registered_step x h))

  owes_next : (k : Bool) (o : Option Registered) → cancels node right x ≡ k → debt_at node right x h ≡ o → DueIf right (registered (x ∷ h)) o
      → DueIf right (registered h) (owes node right h) → DueIf right (registered (x ∷ h)) (owes node right (x ∷ h))
  owes_next true o c d e f = rw (owes_cancelled node right x h c) tt
  owes_next false None c d e f = rw (owes_kept node right x h c d) (due_more (owes node right h) f)
  owes_next false (Some s) c d e f = rw (owes_arises node right x h s c d) e

-- what a node owes
pub owes_due : (node right : ℕ) (h : History) → DueIf right (registered h) (owes node right h)
owes_due node right [] = rw (owes_nil node right) tt
owes_due node right (x ∷ h) =
    owes_next node right x h (cancels node right x) (debt_at node right x h) refl refl (debt_due node right x h) (owes_due node right h)

-- ---- the lowest missing range

map_mem : {A B : Type 0} (f : A → B) {a : A} {xs : List A} → Mem a xs → Mem (f a) (map f xs)
map_mem f here = here
map_mem f (there m) = there (map_mem f m)

due_mem : (right : ℕ) (ss : List Registered) (o : Option Registered) → DueIf right ss o → is_some o ≡ true → Mem right (map (λ s. s.right) ss)
due_mem right ss None d e = never e refl
due_mem right ss (Some s) d e = subst (λ (n : ℕ). Mem n (map (λ s. s.right) ss)) d.its (map_mem (λ s. s.right) d.mem)

pub missing_right : (node : ℕ) (h : History) → LowestOfAll (is_missing node h) (lowest_of (λ r. r) (is_missing node h) (map (λ s. s.right) (registered h)))
missing_right node h =
    candidates_suffice (is_missing node h) (map (λ s. s.right) (registered h))
    (λ r e. due_mem r (registered h) (owes node r h) (owes_due node r h) (and_left (is_some (owes node r h)) _ e))
