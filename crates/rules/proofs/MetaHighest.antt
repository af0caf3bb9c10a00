-- While no meta fault arose, the name that stands at a key has the greatest generation of those that cover it, as it has the
-- greatest index. So a new name that an earlier one covers is in conflict at no key.
use mathlib.Core.Path.{◌≡◌, refl, ap, ◌∙◌}
use mathlib.Core.Bool.{Bool, true, false, cond, not, ◌&&◌}
use mathlib.Core.List.{List, [], ◌∷◌}
use Rattle.std.specs.Prelude.{Option, None, Some}
use Prim.Native.Nat.{◌≤◌}
use native.Mathlib.Omega.{arith}
use lib.Dec.{ltb, leb}
use lib.ListN.{length}
use borrow.Author.Tests.{not-true, ltb-true, ltb-false, le-ltb}
use Rattle.record.specs.Keys.{Key, key_ltb, Lt, Le}
use Rattle.record.specs.Records.{TraceRecord}
use Rattle.record.proofs.Keys.{le_le_le, lt_le_lt}
use Rattle.rules.specs.Cases.{is_fault, fault_if, or_case, case_of, Case}
use Rattle.rules.specs.Descriptors.{span_of, first_at_generation}
use Rattle.rules.specs.History.{History, is_kind, when, greater, greatest_of}
use Rattle.rules.specs.MetaNeverGoesBack.{Name, is_won, name_by, names, covers, standing_name, named_fault, name_fault, key_fault, won_fault, meta_at, FirstFaulty, at, clean}
use Rattle.rules.specs.Reports.{at_last, report_of}
use Rattle.rules.specs.declared.Verdict.TheVariants.{Pass}
use Rattle.record.proofs.Booleans.{never, and_left, and_right}
use Rattle.rules.proofs.Members.{Mem, mem_nil, mem_cons}
use Rattle.rules.proofs.MetaLeast.{won_fault_right, won_fault_found}
use Rattle.rules.proofs.Placed.{Answer}
use Rattle.rules.proofs.Reports.{report_of_pass}
use Rattle.rules.proofs.Skips.{told_nil, told_hit, told_skip}

-- ---- a key of a name

module _ (k : Key) (n : Name) (e : covers k n ≡ true) where
  pub covered_low : Le n.start k
  covered_low = record { is = not-true _ (and_left (not (key_ltb k n.start)) (key_ltb k n.end) e) }

  pub covered_high : Lt k n.end
  covered_high = record { is = and_right (not (key_ltb k n.start)) (key_ltb k n.end) e }

-- ---- a standing name that is no fault for a new one

untested : (g : Bool) (c : Case) → is_fault c ≡ true → is_fault (fault_if g c) ≡ false → g ≡ false
untested true c e f = never e f
untested false c e f = refl

module _ (x : TraceRecord) (n : Name) where
  rises : ltb n.index x.b ≡ true → is_fault (name_fault x n) ≡ false → n.generation ≤ x.d
  rises e c = ltb-false x.d n.generation (untested (ltb x.d n.generation) _ refl (rw e at c))

  falls : ltb n.index x.b ≡ false → is_fault (name_fault x n) ≡ false → x.d ≤ n.generation
  falls e c = ltb-false n.generation x.d (untested (ltb n.generation x.d) _ refl (rw e at c))

  not_against : x.b ≤ n.index → x.d ≤ n.generation → is_fault (name_fault x n) ≡ false
  not_against i g = rw (le-ltb n.index x.b i, le-ltb n.generation x.d g)

-- ---- the standing name of a key is the highest

-- no name of the list that covers the key has a greater index or generation
abbrev Top : Key → List Name → Name → Type 0
Top k ns n = (m : Name) → Mem m ns → covers k m ≡ true → (m.index ≤ n.index) × (m.generation ≤ n.generation)

abbrev Highest : Key → List Name → Option Name → Type 0
Highest k ns o = Answer (Top k ns) (covers k) ns o

standing_nil : (k : Key) → standing_name [] k ≡ None
unfolding standing_name greatest_of
standing_nil k = refl

-- one more name
module _ (x : TraceRecord) (ns : List Name) (k : Key) where
  abbrev new : Name
  new = name_by x

  standing_more : standing_name (new ∷ ns) k ≡ cond (covers k new) (greater (λ (n : Name). n.index) new (standing_name ns k)) (standing_name ns k)
  unfolding standing_name greatest_of
  standing_more = refl

  over : (n : Name) (l : Bool) → ltb n.index x.b ≡ l → is_fault (name_fault x n) ≡ false → Top k ns n → Highest k (new ∷ ns) (cond l (Some new) (Some n))
  over n true e c w =
      let i = ltb-true n.index x.b e in
      let g : n.generation ≤ x.d = rises x n e c in
      mem_cons (λ q. (omega arith, omega arith)) (λ m j q. let y = w m j q in (omega (arith, y.0), omega (arith, y.1)))
  over n false e c w = mem_cons (λ q. (ltb-false n.index x.b e, falls x n e c)) w

  more : (b : Bool) (o : Option Name) → covers k new ≡ b → (b ≡ true → is_fault (case_of (name_fault x) o) ≡ false) → Highest k ns o
      → Highest k (new ∷ ns) (cond b (greater (λ (n : Name). n.index) new o) o)
  more true None e c h = mem_cons (λ q. (omega arith, omega arith)) (λ m j q. never q (h m j))
  more true (Some n) e c h = over n (ltb n.index x.b) refl (c refl) h
  more false None e c h = mem_cons e h
  more false (Some n) e c h = mem_cons (λ q. never q e) h

  clear_at : {c : Case} → FirstFaulty (key_fault x ns) (span_of 1 x).start (span_of 1 x).end c → is_fault c ≡ false → Le (span_of 1 x).start k
      → Lt k (span_of 1 x).end
      → is_fault (key_fault x ns k) ≡ false
  clear_at (at j a p) c l r = never (ap is_fault p ∙ a.faulty) c
  clear_at (clean h q) c l r = h k l r

  clear_by : is_fault (key_fault x ns k) ≡ false → is_fault (case_of (name_fault x) (standing_name ns k)) ≡ false
  unfolding key_fault
  clear_by e = e

  highest_more : is_fault (won_fault x ns) ≡ false → Highest k ns (standing_name ns k) → Highest k (new ∷ ns) (standing_name (new ∷ ns) k)
  highest_more c h =
      rw standing_more
      (more (covers k new) (standing_name ns k) refl (λ e. clear_by (clear_at (won_fault_right x ns) c (covered_low k new e) (covered_high k new e))) h)

-- ---- while the report is a pass

won_by : (k b : Bool) (c d : Case) → k ≡ true → b ≡ true → is_fault (fault_if k (or_case c (fault_if b d))) ≡ false → is_fault d ≡ false
won_by true true None d p q e = e
won_by true true (Some f) d p q e = never refl e
won_by true false c d p q e = never q refl
won_by false b c d p q e = never p refl

abbrev pub Passes : History → Type 0
Passes h = (report_of (at_last meta_at) h).verdict ≡ Pass

module _ (x : TraceRecord) (h : History) where
  names_hit : is_won x ≡ true → names (x ∷ h) ≡ name_by x ∷ names h
  unfolding names
  names_hit e = told_hit (λ (y : TraceRecord) (_ : History). when (is_won y) (name_by y)) x h (name_by x) (rw e)

  pub names_skip : is_won x ≡ false → names (x ∷ h) ≡ names h
  unfolding names
  names_skip e = told_skip (λ (y : TraceRecord) (_ : History). when (is_won y) (name_by y)) x h (rw e)

  pass_step : Passes (x ∷ h) → Passes h × (is_fault (meta_at x h) ≡ false)
  pass_step e = report_of_pass (at_last meta_at) x h e

  won_clear : is_won x ≡ true → is_fault (meta_at x h) ≡ false → is_fault (won_fault x (names h)) ≡ false
  unfolding meta_at
  won_clear e c =
      won_by (is_kind 12 x) (is_won x) (named_fault x (first_at_generation x.a x.d h)) (won_fault x (names h))
      (and_left (is_kind 12 x) (leb 2 (length x.spans))
      (and_left (is_kind 12 x && leb 2 (length x.spans)) (key_ltb (span_of 1 x).start (span_of 1 x).end) e)) e c

names_nil : names [] ≡ []
unfolding names
names_nil = told_nil (λ (y : TraceRecord) (_ : History). when (is_won y) (name_by y))

highest : (h : History) → Passes h → (k : Key) → Highest k (names h) (standing_name (names h) k)
highest [] p k = rw (names_nil, standing_nil k) (λ m j. mem_nil j)
highest (x ∷ h) p k = go (is_won x) refl (highest h (pass_step x h p).0 k)
  where
    go : (b : Bool) → is_won x ≡ b → Highest k (names h) (standing_name (names h) k) → Highest k (names (x ∷ h)) (standing_name (names (x ∷ h)) k)
    go true e w = rw (names_hit x h e) (highest_more x (names h) k (won_clear x h e (pass_step x h p).1) w)
    go false e w = rw (names_skip x h e) w

-- ---- a new name whose keys an earlier one has all, with an index and a generation that are not lower

module _ (x : TraceRecord) (h : History) (p : Passes h) {o : Name} (i : Mem o (names h)) (index : x.b ≤ o.index) (generation : x.d ≤ o.generation)
    (starts : Le o.start (span_of 1 x).start) (ends : Le (span_of 1 x).end o.end) where
  has_key : (k : Key) → Le (span_of 1 x).start k → Lt k (span_of 1 x).end → covers k o ≡ true
  has_key k a b = rw ((le_le_le starts a).is, (lt_le_lt b ends).is)

  clear_of : (k : Key) → covers k o ≡ true → (s : Option Name) → Highest k (names h) s → is_fault (case_of (name_fault x) s) ≡ false
  clear_of k c None w = never c (w o i)
  clear_of k c (Some n) w = let y = w o i c in not_against x n (omega (arith, y.0, index)) (omega (arith, y.1, generation))

  clear_key : (k : Key) → Le (span_of 1 x).start k → Lt k (span_of 1 x).end → is_fault (key_fault x (names h) k) ≡ false
  unfolding key_fault
  clear_key k a b = clear_of k (has_key k a b) (standing_name (names h) k) (highest h p k)

  pub covered_clear : won_fault x (names h) ≡ None
  covered_clear = won_fault_found x (names h) (clean clear_key refl)
