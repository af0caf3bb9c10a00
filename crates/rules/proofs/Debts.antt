-- What a node owes is the latest debt that arose since the latest cancel: the step for one more record, and when it owes at all.
use mathlib.Core.Path.{◌≡◌, refl, sym, ap, ◌∙◌}
use mathlib.Core.Bool.{Bool, true, false}
use mathlib.Core.List.{List, [], ◌∷◌, ◌++◌}
use Rattle.std.specs.Prelude.{Option, None, Some}
use Prim.Native.Nat.{ℕ}
use Rattle.record.specs.Records.{TraceRecord}
use Rattle.rules.specs.History.{History, is_by, is_some, latest}
use Rattle.rules.specs.RightHalf.{Registered, registers, cancels, debt_at, owes}
use Rattle.record.proofs.Booleans.{none_some}
use Rattle.rules.proofs.OwnDebts.{own_kinds}
use Rattle.rules.proofs.Members.{Mem, here, there, mem_nil, mem_cons}

module _ (node right : ℕ) where
  pub owes_nil : owes node right [] ≡ None
  unfolding owes latest
  owes_nil = refl

  -- ---- one more record

  module _ (x : TraceRecord) (h : History) where
    pub owes_cancelled : cancels node right x ≡ true → owes node right (x ∷ h) ≡ None
    unfolding owes latest
    owes_cancelled c = rw c

    pub owes_arises : (s : Registered) → cancels node right x ≡ false → debt_at node right x h ≡ Some s → owes node right (x ∷ h) ≡ Some s
    unfolding owes latest
    owes_arises s c d = rw (c, d)

    pub owes_kept : cancels node right x ≡ false → debt_at node right x h ≡ None → owes node right (x ∷ h) ≡ owes node right h
    unfolding owes latest
    owes_kept c d = rw (c, d)

    -- another's record that registers nothing
    pub cancels_other : is_by node x ≡ false → cancels node right x ≡ false
    cancels_other b = rw b

    pub debt_at_other : is_by node x ≡ false → registers x h ≡ None → debt_at node right x h ≡ None
    unfolding debt_at
    debt_at_other b r = rw (own_kinds node right x h, b, r)

  -- ---- which debt: it is the latest, and no cancel came since

  pub data Owed (s : Registered) : History → Type 0 where
    now : {x : TraceRecord} {h : History} → cancels node right x ≡ false → debt_at node right x h ≡ Some s → Owed s (x ∷ h)
    kept : {x : TraceRecord} {h : History} → cancels node right x ≡ false → debt_at node right x h ≡ None → Owed s h → Owed s (x ∷ h)

  pub owed_found : {s : Registered} {h : History} → Owed s h → owes node right h ≡ Some s
  owed_found (now {x = x} {h = h} c d) = owes_arises x h _ c d
  owed_found (kept {x = x} {h = h} c d w) = owes_kept x h c d ∙ owed_found w

  next_owed : (x : TraceRecord) (h : History) (s : Registered) (b : Bool) (o : Option Registered) → cancels node right x ≡ b → debt_at node right x h ≡ o
      → (owes node right h ≡ Some s → Owed s h) → owes node right (x ∷ h) ≡ Some s → Owed s (x ∷ h)
  next_owed x h s true o c d f e = none_some (sym (owes_cancelled x h c) ∙ e)
  next_owed x h s false None c d f e = kept c d (f (sym (owes_kept x h c d) ∙ e))
  next_owed x h s false (Some t) c d f e = now c (d ∙ sym (owes_arises x h t c d) ∙ e)

  pub owes_right : (h : History) (s : Registered) → owes node right h ≡ Some s → Owed s h
  owes_right [] s e = none_some (sym owes_nil ∙ e)
  owes_right (x ∷ h) s e = next_owed x h s (cancels node right x) (debt_at node right x h) refl refl (owes_right h s) e

  -- ---- whether there is one: some debt arose at x, and no cancel came since

  pub record Owing (h : History) : Type 0 where
    pub later : List TraceRecord
    pub x : TraceRecord
    pub earlier : History
    pub split : h ≡ later ++ (x ∷ earlier)
    pub debt : Registered
    pub arises : debt_at node right x earlier ≡ Some debt
    pub stands : (y : TraceRecord) → Mem y (x ∷ later) → cancels node right y ≡ false

  owing_next : (y : TraceRecord) (h : History) (o : Option Registered) → cancels node right y ≡ false → debt_at node right y h ≡ o
      → is_some (owes node right h) ≡ true → is_some (owes node right (y ∷ h)) ≡ true
  owing_next y h None c d e = ap is_some (owes_kept y h c d) ∙ e
  owing_next y h (Some s) c d e = ap is_some (owes_arises y h s c d)

  owing_at : (x : TraceRecord) (earlier : History) (s : Registered) → cancels node right x ≡ false → debt_at node right x earlier ≡ Some s
      → (later : List TraceRecord) → ((y : TraceRecord) → Mem y later → cancels node right y ≡ false)
      → is_some (owes node right (later ++ (x ∷ earlier))) ≡ true
  owing_at x earlier s c d [] f = ap is_some (owes_arises x earlier s c d)
  owing_at x earlier s c d (y ∷ l) f = owing_next y (l ++ (x ∷ earlier)) _ (f y here) refl (owing_at x earlier s c d l (λ z m. f z (there m)))

  pub owing_owes : {h : History} → Owing h → is_some (owes node right h) ≡ true
  owing_owes w =
      ap (λ (g : History). is_some (owes node right g)) w.split
      ∙ owing_at w.x w.earlier w.debt (w.stands w.x here) w.arises w.later (λ y m. w.stands y (there m))

  mem_swap : {P : TraceRecord → Type 0} {x y : TraceRecord} {l : List TraceRecord} → P y → ((z : TraceRecord) → Mem z (x ∷ l) → P z)
      → (z : TraceRecord) → Mem z (x ∷ y ∷ l) → P z
  mem_swap p f = mem_cons (f _ here) (mem_cons p (λ z m. f z (there m)))

  pub owed_owing : {s : Registered} {h : History} → Owed s h → Owing h
  owed_owing {s} (now {x = x} {h = h} c d) =
      record { later = []; x = x; earlier = h; split = refl; debt = s; arises = d; stands = mem_cons c (λ y m. mem_nil m) }
  owed_owing (kept {x = y} c d w) =
      let o = owed_owing w in
      record {
        later = y ∷ o.later;
        x = o.x;
        earlier = o.earlier;
        split = ap (λ (l : History). y ∷ l) o.split;
        debt = o.debt;
        arises = o.arises;
        stands = mem_swap c o.stands;
      }
