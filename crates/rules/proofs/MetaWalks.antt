-- A walk over the won keys, piece by piece: while no key before the cursor is faulty, what it finds is the fault at the least
-- faulty key; and the keys where it can stop.
use mathlib.Core.Path.{◌≡◌, refl, sym, ap, ◌∙◌}
use mathlib.Core.Bool.{true, false}
use mathlib.Core.List.{List, [], ◌∷◌}
use mathlib.Core.Logic.{⊎_elim}
use Rattle.std.specs.Prelude.{Option, None}
use Rattle.record.specs.Keys.{Key, Lt, Le}
use Rattle.record.specs.Records.{TraceRecord}
use Rattle.record.proofs.Keys.{lt_or_le, le_refl, clash, lt_le, lt_le_lt, le_le_le}
use Rattle.rules.specs.Cases.{is_fault, case_of, Case}
use Rattle.rules.specs.Descriptors.{span_of}
use Rattle.rules.specs.History.{History}
use Rattle.rules.specs.MetaNeverGoesBack.{Name, standing_name, name_fault, key_fault, bounds, won_fault, at, clean}
use Rattle.rules.proofs.Members.{Mem, here, there}
use Rattle.rules.proofs.MetaLeast.{key_fault_between, won_fault_found}

-- the walk has come to c
pub record Walked (x : TraceRecord) (ns : List Name) (c : Key) : Type 0 where
  pub low : Le (span_of 1 x).start c
  pub none : (k : Key) → Le (span_of 1 x).start k → Lt k c → is_fault (key_fault x ns k) ≡ false

pub walked_start : {x : TraceRecord} {ns : List Name} {s : Key} → s ≡ (span_of 1 x).start → Walked x ns s
walked_start {x} e = rw e (record { low = le_refl (span_of 1 x).start; none = λ k a b. clash b a })

module _ {x : TraceRecord} {ns : List Name} {c : Key} (w : Walked x ns c) where
  -- past the end of the won span
  pub walked_end : {e : Key} {r : Case} → e ≡ (span_of 1 x).end → Le e c → r ≡ None → r ≡ won_fault x ns
  walked_end {e} q h t = t ∙ sym (won_fault_found x ns (clean (λ k a b. w.none k a (lt_le_lt b (rw q at h))) refl))

  module _ {best : Option Name} (s : standing_name ns c ≡ best) {r : Case} (t : r ≡ case_of (name_fault x) best) where
    case_is : r ≡ key_fault x ns c
    unfolding key_fault
    case_is = t ∙ ap (case_of (name_fault x)) (sym s)

    -- the piece at c is faulty: all its keys have the case of c, which is the least of them
    pub walked_at : {e : Key} → e ≡ (span_of 1 x).end → Lt c e → is_fault r ≡ true → r ≡ won_fault x ns
    walked_at q h f =
        case_is
        ∙ sym (won_fault_found x ns (at c (record { low = w.low; high = rw q at h; faulty = ap is_fault (sym case_is) ∙ f; before = w.none }) refl))

    -- it is not: up to the next end of a name no key is
    pub walked_on : {next : Key} → Lt c next → ((b : Key) → Mem b (bounds ns) → Lt c b → Le next b) → is_fault r ≡ false → Walked x ns next
    walked_on {next} u g f = record {
      low = le_le_le w.low (lt_le u);
      none = λ k a b. ⊎_elim
          (λ l. w.none k a l)
          (λ l. ap is_fault (key_fault_between x ns l (λ y m v. lt_le_lt b (g y m v)) ∙ sym case_is) ∙ f)
          (lt_or_le k c);
    }

-- ---- all the keys where a walk can stop: the ends of every record's second span

unfoldable pub ends : History → List Key
ends [] = []
ends (x ∷ h) = (span_of 1 x).start ∷ (span_of 1 x).end ∷ ends h

pub ends_more : (x : TraceRecord) (h : History) {k : Key} → Mem k (ends h) → Mem k (ends (x ∷ h))
unfolding ends
ends_more x h m = there (there m)

pub ends_start : (x : TraceRecord) (h : History) → Mem (span_of 1 x).start (ends (x ∷ h))
unfolding ends
ends_start x h = here

pub ends_end : (x : TraceRecord) (h : History) → Mem (span_of 1 x).end (ends (x ∷ h))
unfolding ends
ends_end x h = there here
