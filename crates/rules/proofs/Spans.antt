-- Laws of a record's spans: one that it does not have, whose keys are empty; two that meet; and loops over all of them.
use Rattle.std.specs.Prelude.{None}
use mathlib.Core.Path.{◌≡◌, refl, sym, ap, ◌∙◌}
use mathlib.Core.Bool.{Bool, true, false}
use mathlib.Core.List.{List, [], ◌∷◌}
use Prim.Native.Nat.{ℕ, ◌+◌, ◌≤◌, ◌<◌}
use native.Mathlib.Numerals.{add-one}
use lib.ListN.{length, drop, drop_of_length-le, get_or-eq_default}
use lib.Seq.{drop-cons}
use Rattle.record.specs.Keys.{Key, key_in, key_ltb}
use Rattle.record.specs.Records.{Span, TraceRecord, decode}
use Rattle.rules.specs.Cases.{Case, is_fault, or_case, first_case}
use Rattle.rules.specs.History.{any_of}
use Rattle.rules.specs.Descriptors.{span_of}
use Rattle.rules.specs.OneOwnerPerKey.{meets}
use Rattle.rules.proofs.CaseLists.{clear_of, or_case_fault}

abbrev empty_span : Span
empty_span = record { start = []; end = [] }

-- ---- a span that the record does not have

key_empty : key_in [] ≡ []
unfolding key_in
key_empty = refl

module _ (s : List ℕ) (k : ℕ) (h : length (decode s).spans ≤ k) where
  lacks : span_of k (decode s) ≡ empty_span
  lacks = get_or-eq_default (decode s).spans (empty_span) h

  pub start_lacking : key_in [] ≡ (span_of k (decode s)).start
  start_lacking = key_empty ∙ sym (ap (λ (t : Span). t.start) lacks)

  pub end_lacking : key_in [] ≡ (span_of k (decode s)).end
  end_lacking = key_empty ∙ sym (ap (λ (t : Span). t.end) lacks)

-- ---- two that meet

-- "from < end and start < to", where both hold, and where the first does not
module _ (s t : Span) {from end : Key} {r : Bool} (a : from ≡ t.start) (b : end ≡ s.end) (e : r ≡ key_ltb from end) where
  pub meets_both : {start to : Key} {q : Bool} → start ≡ s.start → to ≡ t.end → r ≡ true → q ≡ key_ltb start to → q ≡ meets s t
  meets_both c d y g =
      let p : key_ltb t.start s.end ≡ true = ap (λ (k : Key). key_ltb k s.end) (sym a) ∙ ap (key_ltb _) (sym b) ∙ sym e ∙ y in
      g ∙ rw (c, d, p)

  pub meets_not : r ≡ false → false ≡ meets s t
  meets_not y =
      let p : key_ltb t.start s.end ≡ false = ap (λ (k : Key). key_ltb k s.end) (sym a) ∙ ap (key_ltb _) (sym b) ∙ sym e ∙ y in
      rw p

-- ---- loops over the spans in their order

module _ (x : TraceRecord) (i : ℕ) where
  spans_step : i < length x.spans → drop i x.spans ≡ span_of i x ∷ drop (i + 1) x.spans
  spans_step l = rw add-one (drop-cons x.spans i empty_span l)

  module _ (p : Span → Bool) where
    pub any_hit : i < length x.spans → p (span_of i x) ≡ true → any_of p (drop i x.spans) ≡ true
    unfolding any_of
    any_hit l e = rw (spans_step l, e)

    pub any_miss : i < length x.spans → p (span_of i x) ≡ false → any_of p (drop i x.spans) ≡ any_of p (drop (i + 1) x.spans)
    unfolding any_of
    any_miss l e = rw (spans_step l, e)

    pub any_end : length x.spans ≤ i → any_of p (drop i x.spans) ≡ false
    unfolding any_of
    any_end l = rw (drop_of_length-le x.spans l)

  module _ (f : Span → Case) where
    or_next : (a b : Case) → is_fault a ≡ false → or_case a b ≡ b
    or_next a b e = rw (clear_of a e)

    pub first_hit : i < length x.spans → is_fault (f (span_of i x)) ≡ true → first_case f (drop i x.spans) ≡ f (span_of i x)
    unfolding first_case
    first_hit l e = rw (spans_step l) (or_case_fault (f (span_of i x)) (first_case f (drop (i + 1) x.spans)) e)

    pub first_miss : i < length x.spans → is_fault (f (span_of i x)) ≡ false → first_case f (drop i x.spans) ≡ first_case f (drop (i + 1) x.spans)
    unfolding first_case
    first_miss l e = rw (spans_step l) (or_next (f (span_of i x)) (first_case f (drop (i + 1) x.spans)) e)

    pub first_end : length x.spans ≤ i → first_case f (drop i x.spans) ≡ None
    unfolding first_case
    first_end l = rw (drop_of_length-le x.spans l)
