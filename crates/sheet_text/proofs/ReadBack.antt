-- What is printed can be read back: equal texts have equal numbers, and a line of a pass is none of a fault. Assumes nothing.
use mathlib.Core.Path.{◌≡◌, refl, sym, ap, ◌∙◌, subst}
use mathlib.Core.Bool.{Bool, true, false}
use mathlib.Core.List.{List, [], ◌∷◌, ◌++◌, append_assoc, append_cancel_left, head-eq_of_cons-eq, tail-eq_of_cons-eq}
use Prim.Native.Nat.{ℕ, ◌+◌, ◌/◌, ◌%◌, ◌≤◌, ◌<◌}
use native.Mathlib.Omega.{arith}
use lib.Dec.{eqb}
use borrow.Author.Tests.{eqb-true, eqb-false}
use Rattle.rules.specs.declared.Evidence.{Evidence}
use Rattle.rules.specs.declared.Report.{Report}
use Rattle.rules.specs.declared.Verdict.{Verdict}
use Rattle.rules.specs.declared.Verdict.TheVariants.{Pass, Faulted}
use Rattle.rules.specs.Reports.{faulted}
use Rattle.sheet_text.specs.Sheets.{text, decimal, spaced, evidence_text, pass_line, fault_line, line_of, line, refused_text, last_line}
use Rattle.sheet_text.proofs.Decimals.{decimal_small, decimal_large, by_tenths, value_from, decimal_value}
use Rattle.sheet_text.proofs.Lines.{refused_none, refused_some}

-- ---- numbers

abbrev pub Digit : ℕ → Type 0
Digit x = (48 ≤ x) × (x ≤ 57)

unfoldable pub Digits : List ℕ → Type 0
Digits [] = Unit {0}
Digits (x ∷ xs) = Digit x × Digits xs

digit_alone : (n : ℕ) → n < 10 → Digits ((48 + n) ∷ [])
unfolding Digits
digit_alone n l = ((omega arith, omega arith), tt)

digits_append : (a b : List ℕ) → Digits a → Digits b → Digits (a ++ b)
unfolding Digits
digits_append [] b p q = q
digits_append (x ∷ a) b p q = (p.0, digits_append a b p.1 q)

pub decimal_digits : (n : ℕ) → Digits (decimal n)
decimal_digits =
    by_tenths {P = λ n. Digits (decimal n)}
    (λ n l. subst Digits (sym (decimal_small n l)) (digit_alone n l))
    (λ n l ih.
    subst Digits (sym (decimal_large n l))
    (digits_append (decimal (n / 10)) ((48 + n % 10) ∷ []) ih (digit_alone (n % 10) (omega arith))))

decimal_same : (n m : ℕ) → decimal n ≡ decimal m → n ≡ m
decimal_same n m e = sym (decimal_value n) ∙ ap (value_from 0) e ∙ decimal_value m

-- a text that does not begin with a digit, as what stands after a number
abbrev pub Stops : List ℕ → Type 0
Stops [] = Unit {0}
Stops (x ∷ s) = Digit x → ⊥

-- digits end where no digit follows, so that two texts that begin with some are equal part by part
digits_split : (a b s t : List ℕ) → Digits a → Digits b → Stops s → Stops t → a ++ s ≡ b ++ t → (a ≡ b) × (s ≡ t)
unfolding Digits
digits_split [] [] s t p q u v e = (refl, e)
digits_split [] (y ∷ b) s t p q u v e = absurd (subst Stops e u q.0)
digits_split (x ∷ a) [] s t p q u v e = absurd (subst Stops (sym e) v p.0)
digits_split (x ∷ a) (y ∷ b) s t p q u v e =
    let w = digits_split a b s t p.1 q.1 u v (tail-eq_of_cons-eq e) in
    let h : x ≡ y = head-eq_of_cons-eq e in
    (λ i. h i ∷ w.0 i, w.1)

pub spaced_split : (n m : ℕ) (s t : List ℕ) → Stops s → Stops t → spaced n ++ s ≡ spaced m ++ t → (n ≡ m) × (s ≡ t)
unfolding spaced
spaced_split n m s t u v e =
    let w = digits_split (decimal n) (decimal m) s t (decimal_digits n) (decimal_digits m) u v (tail-eq_of_cons-eq e) in
    (decimal_same n m w.0, w.1)

spaced_stops : (n : ℕ) (s : List ℕ) → Stops (spaced n ++ s)
unfolding spaced
spaced_stops n s = λ d. omega arith

-- ---- evidence

evidence_nested : (e : Evidence) (s : List ℕ)
    → evidence_text e ++ s ≡ spaced e.e0 ++ (spaced e.e1 ++ (spaced e.e2 ++ (spaced e.e3 ++ (spaced e.e4 ++ s))))
unfolding evidence_text
evidence_nested e s = simp append_assoc

pub evidence_split : (e f : Evidence) (s t : List ℕ) → Stops s → Stops t → evidence_text e ++ s ≡ evidence_text f ++ t → (e ≡ f) × (s ≡ t)
evidence_split e f s t u v h =
    let g = sym (evidence_nested e s) ∙ h ∙ evidence_nested f t in
    let w0 = spaced_split e.e0 f.e0 _ _ (spaced_stops e.e1 _) (spaced_stops f.e1 _) g in
    let w1 = spaced_split e.e1 f.e1 _ _ (spaced_stops e.e2 _) (spaced_stops f.e2 _) w0.1 in
    let w2 = spaced_split e.e2 f.e2 _ _ (spaced_stops e.e3 _) (spaced_stops f.e3 _) w1.1 in
    let w3 = spaced_split e.e3 f.e3 _ _ (spaced_stops e.e4 _) (spaced_stops f.e4 _) w2.1 in
    let w4 = spaced_split e.e4 f.e4 s t u v w3.1 in
    (λ i. record { e0 = w0.0 i; e1 = w1.0 i; e2 = w2.0 i; e3 = w3.0 i; e4 = w4.0 i }, w4.1)

-- ---- a check's line

module _ (name : List ℕ) where
  after_fault : ℕ → ℕ → Evidence → List ℕ
  after_fault kind at e = spaced kind ++ (text " at" ++ (spaced at ++ (text ":" ++ (evidence_text e ++ text "\n"))))

  fault_nested : (kind at : ℕ) (e : Evidence) → fault_line name kind at e ≡ name ++ (text " fault" ++ after_fault kind at e)
  unfolding fault_line after_fault
  fault_nested kind at e = simp append_assoc

  pub fault_same : {k k' a a' : ℕ} {e e' : Evidence} → fault_line name k a e ≡ fault_line name k' a' e' → (k ≡ k') × (a ≡ a') × (e ≡ e')
  unfolding after_fault
  fault_same {k} {k'} {a} {a'} {e} {e'} h =
      let g = append_cancel_left name _ _ (sym (fault_nested k a e) ∙ h ∙ fault_nested k' a' e') in
      let w0 = spaced_split k k' _ _ (λ d. omega arith) (λ d. omega arith) (append_cancel_left (text " fault") _ _ g) in
      let w1 = spaced_split a a' _ _ (λ d. omega arith) (λ d. omega arith) (append_cancel_left (text " at") _ _ w0.1) in
      let w2 = evidence_split e e' (text "\n") (text "\n") (λ d. omega arith) (λ d. omega arith) (append_cancel_left (text ":") _ _ w1.1) in
      (w0.0, w1.0, w2.0)

  pub pass_not_fault : (k a : ℕ) (e : Evidence) → pass_line name ≡ fault_line name k a e → ⊥
  unfolding pass_line
  pass_not_fault k a e h =
      let g = append_cancel_left name (text " pass\n") (text " fault" ++ after_fault k a e) (h ∙ fault_nested k a e) in
      let z : ◌≡◌ {A = ℕ} 112 102 = head-eq_of_cons-eq (tail-eq_of_cons-eq g) in
      omega arith

  passes_only : (v : Verdict) (at : ℕ) (e : Evidence) → line_of name v at e ≡ pass_line name → v ≡ Pass
  passes_only Pass at e h = refl
  passes_only (Faulted kind) at e h = absurd (pass_not_fault kind at e (sym h))

  faults_only : (v : Verdict) (n : ℕ) (d : Evidence) (kind at : ℕ) (e : Evidence) → line_of name v n d ≡ fault_line name kind at e
      → ◌≡◌ {A = Report} (record { verdict = v; at = n; evidence = d }) (faulted at kind e)
  faults_only Pass n d kind at e h = absurd (pass_not_fault kind at e h)
  faults_only (Faulted k) n d kind at e h = let w = fault_same h in λ i. record { verdict = Faulted (w.0 i); at = w.1 i; evidence = w.2 i }

  -- THE LINE OF A PASS is that of a report whose verdict is one
  pub line_pass_only : (r : Report) → line name r ≡ pass_line name → r.verdict ≡ Pass
  line_pass_only r = passes_only r.verdict r.at r.evidence

  -- THE LINE OF A FAULT is that of the report with its kind, position and evidence
  pub line_fault_only : (r : Report) (kind at : ℕ) (e : Evidence) → line name r ≡ fault_line name kind at e → r ≡ faulted at kind e
  line_fault_only r = faults_only r.verdict r.at r.evidence

-- ---- the last line

last_nested : (n f a : ℕ) → last_line n f a ≡ text "records" ++ (spaced n ++ (refused_text f a ++ text "\n"))
unfolding last_line
last_nested n f a = simp append_assoc

abbrev refused_nested : ℕ → ℕ → List ℕ
refused_nested f a = text " refused" ++ (spaced f ++ (text " at" ++ (spaced a ++ text "\n")))

none_nested : (f a : ℕ) → f ≡ 0 → refused_text f a ++ text "\n" ≡ text "\n"
none_nested f a e = ap (λ (l : List ℕ). l ++ text "\n") (refused_none f a e)

some_nested : (f a : ℕ) → (f ≡ 0 → ⊥) → refused_text f a ++ text "\n" ≡ refused_nested f a
some_nested f a n = ap (λ (l : List ℕ). l ++ text "\n") (refused_some f a n) ∙ simp append_assoc

refused_stops : (f a : ℕ) (b : Bool) → eqb f 0 ≡ b → Stops (refused_text f a ++ text "\n")
refused_stops f a true e = subst Stops (sym (none_nested f a (eqb-true f 0 e))) (λ d. omega arith)
refused_stops f a false e = subst Stops (sym (some_nested f a (eqb-false f 0 e))) (λ d. omega arith)

refused_same : (f g a b : ℕ) (x y : Bool) → eqb f 0 ≡ x → eqb g 0 ≡ y → refused_text f a ++ text "\n" ≡ refused_text g b ++ text "\n"
    → (f ≡ g) × ((f ≡ 0 → ⊥) → a ≡ b)
refused_same f g a b true true p q h =
    let z : f ≡ 0 = eqb-true f 0 p in
    (z ∙ sym (eqb-true g 0 q), λ n. absurd (n z))
refused_same f g a b true false p q h =
    let k = sym (none_nested f a (eqb-true f 0 p)) ∙ h ∙ some_nested g b (eqb-false g 0 q) in
    let z : ◌≡◌ {A = ℕ} 10 32 = head-eq_of_cons-eq k in
    absurd (omega arith)
refused_same f g a b false true p q h =
    let k = sym (some_nested f a (eqb-false f 0 p)) ∙ h ∙ none_nested g b (eqb-true g 0 q) in
    let z : ◌≡◌ {A = ℕ} 32 10 = head-eq_of_cons-eq k in
    absurd (omega arith)
refused_same f g a b false false p q h =
    let k = sym (some_nested f a (eqb-false f 0 p)) ∙ h ∙ some_nested g b (eqb-false g 0 q) in
    let w0 = spaced_split f g _ _ (λ d. omega arith) (λ d. omega arith) (append_cancel_left (text " refused") _ _ k) in
    let w1 = spaced_split a b (text "\n") (text "\n") (λ d. omega arith) (λ d. omega arith) (append_cancel_left (text " at") _ _ w0.1) in
    (w0.0, λ n. w1.0)

-- THE LAST LINE: it has the number of records and the refusal; and where there is one, its record's number
pub last_same : (n m f g a b : ℕ) → last_line n f a ≡ last_line m g b → (n ≡ m) × (f ≡ g) × ((f ≡ 0 → ⊥) → a ≡ b)
last_same n m f g a b h =
    let k = append_cancel_left (text "records") _ _ (sym (last_nested n f a) ∙ h ∙ last_nested m g b) in
    let w = spaced_split n m _ _ (refused_stops f a (eqb f 0) refl) (refused_stops g b (eqb g 0) refl) k in
    let r = refused_same f g a b (eqb f 0) (eqb g 0) refl refl w.1 in
    (w.0, r.0, r.1)
