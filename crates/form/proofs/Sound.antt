-- What a record that draws no refusal has, by its kind.
use Rattle.std.specs.Prelude.{Some, None}
use mathlib.Core.Path.{◌≡◌, refl, sym, subst, ◌∙◌}
use mathlib.Core.Bool.{Bool, true, false, cond, ◌&&◌}
use mathlib.Core.List.{List}
use Prim.Native.Nat.{ℕ, ◌≤◌}
use native.Mathlib.Omega.{arith}
use lib.ListN.{length}
use lib.Dec.{leb, eqb}
use borrow.Author.Tests.{leb-true, eqb-true, eqb-false, eq-eqb, ne_eqb}
use Rattle.form.specs.declared.kind.Values.{Values}
use Rattle.form.specs.declared.kind.Shape.{Shape}
use Rattle.record.specs.Limits.{record_size, voter_limit, span_limit}
use Rattle.record.specs.Numbers.{byte_at}
use Rattle.form.specs.KindTable.{shape_of, Shaped}
use Rattle.form.specs.Form.{every, key_places, length_fits, within, counts_fit, values_fit, unused_clear, shaped_refusal, refusal_of}
use Rattle.form.proofs.Shapes.{past, roomy_kind, has_spans, spanless_kind}
use Rattle.record.proofs.Booleans.{and_left, and_right}

pub record Within (v : Values) (n : ℕ) : Type 0 where
  pub low : v.low ≤ n
  pub high : n ≤ v.high

is_within : (v : Values) (n : ℕ) → within v n ≡ true → Within v n
is_within v n h = record {
  low = leb-true _ _ (and_left (leb v.low n) (leb n v.high) h);
  high = leb-true _ _ (and_right (leb v.low n) (leb n v.high) h);
}

-- the first bytes have values of the kind
pub record Counts (k : Shape) (s : List ℕ) : Type 0 where
  pub mark : byte_at 1 s ≤ 1
  pub code : Within k.codes (byte_at 2 s)
  pub flag : Within k.flags (byte_at 3 s)
  pub voters : Within k.voters (byte_at 48 s)
  pub spans : Within k.spans (byte_at 49 s)

counts_by : (k : Shape) (s : List ℕ) (m c f v : Bool) → leb (byte_at 1 s) 1 ≡ m → within k.codes (byte_at 2 s) ≡ c
    → within k.flags (byte_at 3 s) ≡ f → within k.voters (byte_at 48 s) ≡ v
    → (m && c && f && v && within k.spans (byte_at 49 s)) ≡ true → Counts k s
counts_by k s m c f v em ec ef ev h =
    let a = and_left (m && c && f) v (and_left (m && c && f && v) (within k.spans (byte_at 49 s)) h) in
    record {
      mark = leb-true _ _ (em ∙ and_left m c (and_left (m && c) f a));
      code = is_within _ _ (ec ∙ and_right m c (and_left (m && c) f a));
      flag = is_within _ _ (ef ∙ and_right (m && c) f a);
      voters = is_within _ _ (ev ∙ and_right (m && c && f) v (and_left (m && c && f && v) (within k.spans (byte_at 49 s)) h));
      spans = is_within _ _ (and_right (m && c && f && v) (within k.spans (byte_at 49 s)) h);
    }

pub counts : (k : Shape) (s : List ℕ) → counts_fit k s ≡ true → Counts k s
unfolding counts_fit
counts k s h = counts_by k s _ _ _ _ refl refl refl refl h

-- the refusal by the tests, one after the other
pub wrong_size : (s : List ℕ) → (length s ≡ record_size → ⊥) → refusal_of s ≡ 1
unfolding refusal_of
wrong_size s h = rw (ne_eqb (length s) record_size h)

pub by_shape : (s : List ℕ) → length s ≡ record_size → (k : Shaped) → shape_of (byte_at 0 s) ≡ k → refusal_of s ≡ shaped_refusal k s
unfolding refusal_of
by_shape s h k e = rw (eq-eqb (length s) record_size h, e)

-- a kind's values keep the counts of voters and spans within the limits
pub record Counted (s : List ℕ) : Type 0 where
  pub voters : byte_at 48 s ≤ voter_limit
  pub spans : byte_at 49 s ≤ span_limit

pub counted : (s : List ℕ) (k : Shape) → shape_of (byte_at 0 s) ≡ Some k → values_fit k s ≡ true → Counted s
unfolding values_fit
counted s k e h =
    let r = roomy_kind (byte_at 0 s) k e in
    let f = counts k s (and_left (counts_fit k s) (every length_fits (key_places s)) h) in
    record { voters = omega (arith, r.voters, f.voters.high); spans = omega (arith, r.spans, f.spans.high) }

-- what drawing no refusal says, test by test
pub record Passes (s : List ℕ) : Type 0 where
  pub size : length s ≡ record_size
  pub shape : Shape
  pub known : shape_of (byte_at 0 s) ≡ Some shape
  pub values : values_fit shape s ≡ true
  pub unused : unused_clear shape s ≡ true

passes_known : (s : List ℕ) → length s ≡ record_size → (k : Shape) → shape_of (byte_at 0 s) ≡ Some k → (v u : Bool)
    → values_fit k s ≡ v → unused_clear k s ≡ u → ◌≡◌ {A = ℕ} (cond v (cond u 0 4) 3) 0 → Passes s
passes_known s l k e true true ev eu h = record { size = l; shape = k; known = e; values = ev; unused = eu }
passes_known s l k e true false ev eu h = absurd (omega arith)
passes_known s l k e false u ev eu h = absurd (omega arith)

passes_shaped : (s : List ℕ) → length s ≡ record_size → (x : Shaped) → shape_of (byte_at 0 s) ≡ x → shaped_refusal x s ≡ 0 → Passes s
passes_shaped s l None e h = absurd (omega arith)
passes_shaped s l (Some k) e h = passes_known s l k e _ _ refl refl h

passes_sized : (s : List ℕ) → refusal_of s ≡ 0 → (b : Bool) → eqb (length s) record_size ≡ b → Passes s
passes_sized s h true e = let l = eqb-true _ _ e in passes_shaped s l _ refl (sym (by_shape s l _ refl) ∙ h)
passes_sized s h false e = let z : ◌≡◌ {A = ℕ} 1 0 = sym (wrong_size s (eqb-false _ _ e)) ∙ h in absurd (omega arith)

pub passes : (s : List ℕ) → refusal_of s ≡ 0 → Passes s
passes s h = passes_sized s h _ refl

-- the counts by the kind byte
abbrev CountsOf : Shaped → List ℕ → Type 0
CountsOf None s = ⊥
CountsOf (Some k) s = Counts k s

-- what a record that draws no refusal has
pub record Sound (s : List ℕ) : Type 0 where
  pub size : length s ≡ record_size
  pub kind_low : 1 ≤ byte_at 0 s
  pub kind_high : byte_at 0 s ≤ 12
  pub mark : byte_at 1 s ≤ 1
  pub voters : byte_at 48 s ≤ voter_limit
  pub spans : byte_at 49 s ≤ span_limit
  pub created_code : byte_at 0 s ≡ 1 → (1 ≤ byte_at 2 s) × (byte_at 2 s ≤ 3)
  pub created_flag : byte_at 0 s ≡ 1 → byte_at 3 s ≤ 1
  pub created_span : byte_at 0 s ≡ 1 → byte_at 49 s ≡ 1
  pub descriptor_code : byte_at 0 s ≡ 2 → (1 ≤ byte_at 2 s) × (byte_at 2 s ≤ 3)
  pub descriptor_span : byte_at 0 s ≡ 2 → byte_at 49 s ≡ 1
  pub apply_code : byte_at 0 s ≡ 3 → (1 ≤ byte_at 2 s) × (byte_at 2 s ≤ 7)
  pub apply_spans : byte_at 0 s ≡ 3 → byte_at 49 s ≤ 1
  pub meta_spans : byte_at 0 s ≡ 12 → (1 ≤ byte_at 49 s) × (byte_at 49 s ≤ 2)
  pub no_spans : has_spans (byte_at 0 s) ≡ false → byte_at 49 s ≡ 0

sound_by : (s : List ℕ) → Passes s → Sound s
unfolding values_fit
sound_by s p =
    let f = counts p.shape s (and_left (counts_fit p.shape s) (every length_fits (key_places s)) p.values) in
    let g : CountsOf (shape_of (byte_at 0 s)) s = subst (λ (x : Shaped). CountsOf x s) (sym p.known) f in
    let at : (n : ℕ) → byte_at 0 s ≡ n → CountsOf (shape_of n) s = λ n e. subst (λ (m : ℕ). CountsOf (shape_of m) s) e g in
    let c = counted s p.shape p.known p.values in
    let none : byte_at 0 s ≡ 0 → ⊥ = λ e. at 0 e in
    let more : 13 ≤ byte_at 0 s → ⊥ = λ h. subst (λ (x : Shaped). CountsOf x s) (past (byte_at 0 s) h) g in
    record {
      size = p.size;
      kind_low = omega (arith, none);
      kind_high = omega (arith, more);
      mark = f.mark;
      voters = c.voters;
      spans = c.spans;
      created_code = λ e. ((at 1 e).code.low, (at 1 e).code.high);
      created_flag = λ e. (at 1 e).flag.high;
      created_span = λ e. omega (arith, (at 1 e).spans.low, (at 1 e).spans.high);
      descriptor_code = λ e. ((at 2 e).code.low, (at 2 e).code.high);
      descriptor_span = λ e. omega (arith, (at 2 e).spans.low, (at 2 e).spans.high);
      apply_code = λ e. ((at 3 e).code.low, (at 3 e).code.high);
      apply_spans = λ e. (at 3 e).spans.high;
      meta_spans = λ e. ((at 12 e).spans.low, (at 12 e).spans.high);
      no_spans = λ e. omega (arith, f.spans.high, spanless_kind (byte_at 0 s) p.shape p.known e);
    }

pub sound : (s : List ℕ) → refusal_of s ≡ 0 → Sound s
sound s h = sound_by s (passes s h)
