-- The printed sheet by its lines: each ends in its only newline, so that cutting there gives back the checks' lines and the last. Assumes nothing.
use mathlib.Core.Path.{◌≡◌, refl, sym, ap, ◌∙◌, subst}
use mathlib.Core.Bool.{Bool, true, false, cond}
use mathlib.Core.List.{List, [], ◌∷◌, ◌++◌, append_assoc, append-nil}
use Prim.Native.Nat.{ℕ, zero, suc, ◌+◌, ◌≤◌, ◌<◌}
use native.Mathlib.Decide.{ℕ_discrete}
use native.Mathlib.Omega.{arith}
use lib.ListN.{get_or}
use lib.Dec.{eqb, ltb}
use borrow.Author.Tests.{ne_eqb, ltb-true}
use Rattle.rules.specs.declared.Evidence.{Evidence}
use Rattle.rules.specs.declared.Report.{Report}
use Rattle.rules.specs.declared.Verdict.{Verdict}
use Rattle.rules.specs.declared.Verdict.TheVariants.{Pass, Faulted}
use Rattle.rules.specs.Reports.{passed}
use Rattle.rules.specs.Checks.{check_count}
use Rattle.record.proofs.Booleans.{and_left, and_right}
use Rattle.sheet_text.specs.Sheets.{text, decimal, spaced, evidence_text, pass_line, fault_line, line_of, line, name_at, lines_to, refused_text, last_line, sheet_text, first_line, after_line, line_at}
use Rattle.sheet_text.proofs.Names.{worded, name_worded}
use Rattle.sheet_text.proofs.ReadBack.{Digits, decimal_digits}

-- ---- texts without a newline

unfoldable pub plain : List ℕ → Bool
plain [] = true
plain (x ∷ xs) = cond (eqb x 10) false (plain xs)

plain_append : (a b : List ℕ) → plain a ≡ true → plain b ≡ true → plain (a ++ b) ≡ true
unfolding plain
plain_append [] b p q = q
plain_append (x ∷ a) b p q = go (eqb x 10) p (λ h. plain_append a b h q)
  where
    go : (c : Bool) → cond c false (plain a) ≡ true → (plain a ≡ true → plain (a ++ b) ≡ true) → cond c false (plain (a ++ b)) ≡ true
    go true h ih = h
    go false h ih = ih h

pub record Plain (l : List ℕ) : Type 0 where
  pub is : plain l ≡ true

-- texts without one make a text without one
infixl 65 ◌then◌
◌then◌ : {a b : List ℕ} → Plain a → Plain b → Plain (a ++ b)
◌then◌ {a} {b} p q = record { is = plain_append a b p.is q.is }

word : (l : List ℕ) → plain l ≡ true → Plain l
word l e = record { is = e }

digits_plain : (ds : List ℕ) → Digits ds → plain ds ≡ true
unfolding plain Digits
digits_plain [] d = refl
digits_plain (x ∷ xs) d = ap (λ (b : Bool). cond b false (plain xs)) (ne_eqb x 10 (λ e. omega arith)) ∙ digits_plain xs d.1

spaced_plain : (n : ℕ) → Plain (spaced n)
unfolding plain spaced
spaced_plain n = word (text " ") refl then word (decimal n) (digits_plain (decimal n) (decimal_digits n))

evidence_plain : (e : Evidence) → Plain (evidence_text e)
unfolding evidence_text
evidence_plain e = spaced_plain e.e0 then spaced_plain e.e1 then spaced_plain e.e2 then spaced_plain e.e3 then spaced_plain e.e4

-- ---- lines

-- a line: its only newline is its last byte
pub record Closed (l : List ℕ) : Type 0 where
  pub body : List ℕ
  pub is : l ≡ body ++ (10 ∷ [])
  pub alone : Plain body

module _ {name : List ℕ} (p : Plain name) where
  closed_pass : Closed (pass_line name)
  unfolding pass_line plain
  closed_pass = record {
    body = name ++ text " pass";
    is = sym (append_assoc name (text " pass") (10 ∷ []));
    alone = p then word (text " pass") refl;
  }

  closed_fault : (kind at : ℕ) (e : Evidence) → Closed (fault_line name kind at e)
  unfolding fault_line plain
  closed_fault kind at e = record {
    body = name ++ text " fault" ++ spaced kind ++ text " at" ++ spaced at ++ text ":" ++ evidence_text e;
    is = refl;
    alone =
        p
        then word (text " fault") refl
        then spaced_plain kind
        then word (text " at") refl
        then spaced_plain at
        then word (text ":") refl
        then evidence_plain e;
  }

  closed_of : (v : Verdict) (at : ℕ) (e : Evidence) → Closed (line_of name v at e)
  closed_of Pass at e = closed_pass
  closed_of (Faulted kind) at e = closed_fault kind at e

  closed_line : (r : Report) → Closed (line name r)
  closed_line r = closed_of r.verdict r.at r.evidence

refused_plain : (f a : ℕ) → Plain (refused_text f a)
unfolding refused_text plain
refused_plain f a = go (eqb f 0)
  where
    go : (b : Bool) → Plain (cond b [] (text " refused" ++ spaced f ++ text " at" ++ spaced a))
    go true = word [] refl
    go false = word (text " refused") refl then spaced_plain f then word (text " at") refl then spaced_plain a

closed_last : (n f a : ℕ) → Closed (last_line n f a)
unfolding last_line plain
closed_last n f a = record {
  body = text "records" ++ spaced n ++ refused_text f a;
  is = refl;
  alone = word (text "records") refl then spaced_plain n then refused_plain f a;
}

-- ---- cutting at the newlines

first_line_lem : (a rest : List ℕ) → plain a ≡ true → first_line (a ++ (10 ∷ rest)) ≡ a ++ (10 ∷ [])
unfolding plain first_line
first_line_lem [] rest p = refl
first_line_lem (x ∷ a) rest p = go (eqb x 10) p (first_line_lem a rest)
  where
    go : (b : Bool) → cond b false (plain a) ≡ true → (plain a ≡ true → first_line (a ++ (10 ∷ rest)) ≡ a ++ (10 ∷ []))
        → cond b (x ∷ []) (x ∷ first_line (a ++ (10 ∷ rest))) ≡ x ∷ (a ++ (10 ∷ []))
    go true h ih = let z : ◌≡◌ {A = ℕ} 0 1 = cc in absurd (omega arith)
    go false h ih = ap (λ (l : List ℕ). x ∷ l) (ih h)

after_line_lem : (a rest : List ℕ) → plain a ≡ true → after_line (a ++ (10 ∷ rest)) ≡ rest
unfolding plain after_line
after_line_lem [] rest p = refl
after_line_lem (x ∷ a) rest p = go (eqb x 10) p (after_line_lem a rest)
  where
    go : (b : Bool) → cond b false (plain a) ≡ true → (plain a ≡ true → after_line (a ++ (10 ∷ rest)) ≡ rest)
        → cond b (a ++ (10 ∷ rest)) (after_line (a ++ (10 ∷ rest))) ≡ rest
    go true h ih = let z : ◌≡◌ {A = ℕ} 0 1 = cc in absurd (omega arith)
    go false h ih = ih h

closed_at : {l : List ℕ} (c : Closed l) (rest : List ℕ) → l ++ rest ≡ c.body ++ (10 ∷ rest)
closed_at c rest = ap (λ (l : List ℕ). l ++ rest) c.is ∙ append_assoc c.body (10 ∷ []) rest

closed_first : {l : List ℕ} → Closed l → (rest : List ℕ) → first_line (l ++ rest) ≡ l
closed_first c rest = ap first_line (closed_at c rest) ∙ first_line_lem c.body rest c.alone.is ∙ sym c.is

closed_after : {l : List ℕ} → Closed l → (rest : List ℕ) → after_line (l ++ rest) ≡ rest
closed_after c rest = ap after_line (closed_at c rest) ∙ after_line_lem c.body rest c.alone.is

nothing_at : (k : ℕ) → line_at k [] ≡ []
unfolding line_at first_line after_line
nothing_at zero = refl
nothing_at (suc k) = nothing_at k

closed_next : {l : List ℕ} → Closed l → (rest : List ℕ) (k : ℕ) → line_at (suc k) (l ++ rest) ≡ line_at k rest
unfolding line_at
closed_next c rest k = ap (line_at k) (closed_after c rest)

closed_zero : {l : List ℕ} → Closed l → (rest : List ℕ) → line_at zero (l ++ rest) ≡ l
unfolding line_at
closed_zero c rest = closed_first c rest

-- ---- the sheet

word_plain : (l : List ℕ) → worded l ≡ true → plain l ≡ true
unfolding worded plain
word_plain [] w = refl
word_plain (x ∷ l) w =
    let big : 32 < x = ltb-true 32 x (and_left (ltb 32 x) (worded l) w) in
    ap (λ (b : Bool). cond b false (plain l)) (ne_eqb x 10 (λ e. omega arith)) ∙ word_plain l (and_right (ltb 32 x) (worded l) w)

module _ (reports : List Report) where
  closed_check : (k : ℕ) → k < check_count → Closed (line (name_at k) (get_or reports k passed))
  closed_check k l = closed_line (word (name_at k) (word_plain (name_at k) (name_worded k l))) (get_or reports k passed)

  -- one check's line more, before a text
  lines_before : (n : ℕ) (rest : List ℕ) → lines_to (suc n) reports ++ rest ≡ lines_to n reports ++ (line (name_at n) (get_or reports n passed) ++ rest)
  unfolding lines_to
  lines_before n rest = append_assoc (lines_to n reports) (line (name_at n) (get_or reports n passed)) rest

  -- after the lines of the first n checks come those of the text
  lines_past : (n : ℕ) → n ≤ check_count → (rest : List ℕ) (j : ℕ) → line_at (n + j) (lines_to n reports ++ rest) ≡ line_at j rest
  unfolding lines_to
  lines_past zero l rest j = let e : 0 + j ≡ j = omega arith in ap (λ (k : ℕ). line_at k rest) e
  lines_past (suc n) l rest j =
      let e : suc n + j ≡ n + suc j = omega arith in
      (λ i. line_at (e i) (lines_before n rest i))
      ∙ lines_past n (omega arith) (line (name_at n) (get_or reports n passed) ++ rest) (suc j)
      ∙ closed_next (closed_check n (omega arith)) rest j

  -- line k of them is that of check k
  lines_at : (n : ℕ) → n ≤ check_count → (rest : List ℕ) (k : ℕ) → k < n → line_at k (lines_to n reports ++ rest) ≡ line (name_at k) (get_or reports k passed)
  lines_at zero l rest k h = absurd (omega arith)
  lines_at (suc n) l rest k h = ap (line_at k) (lines_before n rest) ∙ elim (ℕ_discrete k n) [
    | yes e ↦ subst
        (λ (m : ℕ). line_at m (lines_to n reports ++ (line (name_at n) (get_or reports n passed) ++ rest)) ≡ line (name_at m) (get_or reports m passed))
        (sym e) (newest n (omega arith) rest)
    | no d ↦ lines_at n (omega arith) (line (name_at n) (get_or reports n passed) ++ rest) k (omega arith)
  ]
    where
      newest : (n : ℕ) → n < check_count → (rest : List ℕ)
          → line_at n (lines_to n reports ++ (line (name_at n) (get_or reports n passed) ++ rest)) ≡ line (name_at n) (get_or reports n passed)
      newest n l rest =
          let e : n + 0 ≡ n = omega arith in
          ap (λ (m : ℕ). line_at m (lines_to n reports ++ (line (name_at n) (get_or reports n passed) ++ rest))) (sym e)
          ∙ lines_past n (omega arith) (line (name_at n) (get_or reports n passed) ++ rest) 0
          ∙ closed_zero (closed_check n l) rest

  -- THE LINES OF A SHEET by their numbers: each check's, ..
  pub sheet_check : (n f a k : ℕ) → k < check_count → line_at k (sheet_text reports n f a) ≡ line (name_at k) (get_or reports k passed)
  unfolding sheet_text
  sheet_check n f a k l = lines_at check_count (omega arith) (last_line n f a) k l

  -- .. the last line, ..
  pub sheet_last : (n f a : ℕ) → line_at check_count (sheet_text reports n f a) ≡ last_line n f a
  unfolding sheet_text
  sheet_last n f a =
      lines_past check_count (omega arith) (last_line n f a) 0
      ∙ ap (line_at 0) (sym (append-nil (last_line n f a)))
      ∙ closed_zero (closed_last n f a) []

  -- .. and then nothing
  pub sheet_end : (n f a : ℕ) → line_at (check_count + 1) (sheet_text reports n f a) ≡ []
  unfolding sheet_text
  sheet_end n f a =
      lines_past check_count (omega arith) (last_line n f a) 1
      ∙ ap (line_at 1) (sym (append-nil (last_line n f a)))
      ∙ closed_next (closed_last n f a) [] 0
      ∙ nothing_at 0
