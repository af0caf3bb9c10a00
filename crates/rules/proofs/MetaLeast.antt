-- The fault that a won span has is the fault at its least faulty key, of all the keys that there are: the ends of names are enough to look at.
use mathlib.Core.Path.{◌≡◌, refl, sym, ap, ◌∙◌}
use mathlib.Core.Bool.{Bool, true, false, not, ◌&&◌}
use mathlib.Core.List.{List, [], ◌∷◌}
use Rattle.std.specs.Prelude.{Option, None, Some}
use mathlib.Core.Logic.{⊎_elim}
use borrow.Author.Tests.{not-true}
use Rattle.record.specs.Keys.{Key, key_ltb, inside, Lt, Le}
use Rattle.record.specs.Records.{TraceRecord}
use Rattle.rules.specs.Cases.{Case, is_fault, case_of}
use Rattle.rules.specs.History.{greatest_of}
use Rattle.rules.specs.Descriptors.{span_of}
use Rattle.rules.specs.MetaNeverGoesBack.{Name, covers, standing_name, name_fault, key_fault, bounds, least_key, won_fault, FirstFaultyKey, FirstFaulty, at, clean}
use Rattle.record.proofs.Booleans.{decide, never, and_left, and_right}
use Rattle.record.proofs.Keys.{lt_or_le, clash, le_le_eq, lt_lt_lt, le_lt_lt, le_le_le}
use Rattle.rules.proofs.Members.{Mem, here, there, mem_nil}
use Rattle.rules.proofs.Placed.{Answer, placed_mem}
use Rattle.rules.proofs.KeyLists.{LeastKey, least_key_right, Floor, floor}
use Rattle.rules.proofs.Best.{Greatest, greatest_of_right}

-- ---- the standing name, and that between neighbouring ends of names it is the same

pub standing_name_right : (ns : List Name) (k : Key) → Answer (Greatest (λ n. n.index) (covers k) ns) (covers k) ns (standing_name ns k)
unfolding standing_name
standing_name_right ns k = greatest_of_right (λ n. n.index) (covers k) ns

same_side : {c k x : Key} → Le c k → (Lt c x → Lt k x) → key_ltb k x ≡ key_ltb c x
same_side {c} {k} {x} h g =
    ⊎_elim (λ (l : Lt c x). (g l).is ∙ sym l.is) (λ (l : Le x c). (le_le_le l h).is ∙ sym l.is) (lt_or_le c x)

standing_same : (k c : Key) (ns : List Name) → ((x : Key) → Mem x (bounds ns) → key_ltb k x ≡ key_ltb c x) → standing_name ns k ≡ standing_name ns c
unfolding standing_name greatest_of bounds
standing_same k c [] h = refl
standing_same k c (n ∷ ns) h =
    let t : standing_name ns k ≡ standing_name ns c = standing_same k c ns (λ x m. h x (there (there m))) in
    rw (h n.start here, h n.end (there here), t)

-- an end of a name is one of the first, or of the rest
pub bounds_cases : {A : Type 0} {b : Key} (v : Name) (ns : List Name) → Mem b (bounds (v ∷ ns)) → (b ≡ v.start → A) → (b ≡ v.end → A)
    → (Mem b (bounds ns) → A) → A
unfolding bounds
bounds_cases v ns here f g h = f refl
bounds_cases v ns (there here) f g h = g refl
bounds_cases v ns (there (there m)) f g h = h m

pub bounds_none : {A : Type 0} {b : Key} → Mem b (bounds []) → A
unfolding bounds
bounds_none m = mem_nil m

pub key_fault_between : (x : TraceRecord) (ns : List Name) {c k : Key} → Le c k → ((b : Key) → Mem b (bounds ns) → Lt c b → Lt k b)
    → key_fault x ns k ≡ key_fault x ns c
unfolding key_fault
key_fault_between x ns {c} {k} h g = ap (case_of (name_fault x)) (standing_same k c ns (λ b m. same_side h (g b m)))

-- ---- the least faulty key

-- there is one fault at the first faulty piece
module _ {f : Key → Case} {s e : Key} where
  key_below : {k j : Key} → FirstFaultyKey f s e k → FirstFaultyKey f s e j → Le k j
  key_below {k} {j} a b = ⊎_elim (λ (l : Lt j k). never b.faulty (a.before j b.low l)) (λ l. l) (lt_or_le j k)

  pub faulty_one : {c d : Case} → FirstFaulty f s e c → FirstFaulty f s e d → c ≡ d
  faulty_one (at k a p) (at j b q) = p ∙ ap f (le_le_eq (key_below a b) (key_below b a)) ∙ sym q
  faulty_one (at k a p) (clean h q) = never a.faulty (h k a.low a.high)
  faulty_one (clean h p) (at j b q) = never b.faulty (h j b.low b.high)
  faulty_one (clean h p) (clean g q) = p ∙ sym q

module _ (x : TraceRecord) (ns : List Name) (s e : Key) where
  abbrev is_faulty : Key → Bool
  is_faulty k = is_fault (key_fault x ns k)

  abbrev is_candidate : Key → Bool
  is_candidate k = inside s e k && is_faulty k

  candidate : {k : Key} → Le s k → Lt k e → is_faulty k ≡ true → is_candidate k ≡ true
  candidate a b p = rw (a.is, b.is, p)

  candidate_low : (k : Key) → is_candidate k ≡ true → Le s k
  candidate_low k h = record { is = not-true _ (and_left (not (key_ltb k s)) (key_ltb k e) (and_left (inside s e k) (is_faulty k) h)) }

  candidate_high : (k : Key) → is_candidate k ≡ true → Lt k e
  candidate_high k h = record { is = and_right (not (key_ltb k s)) (key_ltb k e) (and_left (inside s e k) (is_faulty k) h) }

  -- a candidate at or below a key
  record Witness (k : Key) : Type 0 where
    it : Key
    mem : Mem it (s ∷ bounds ns)
    passes : is_candidate it ≡ true
    high : Le it k

  -- a faulty key has one
  witness : (k : Key) → Le s k → Lt k e → is_faulty k ≡ true → Witness k
  witness k a b p =
      let f = floor s k (bounds ns) a in
      let l : Floor s k (bounds ns) f.0 = f.1 in
      record {
        it = f.0;
        mem = l.mem;
        passes = candidate l.low (le_lt_lt l.high b) (sym (ap is_fault (key_fault_between x ns l.high l.gap)) ∙ p);
        high = l.high;
      }

  first_key : (m : Key) → LeastKey is_candidate (s ∷ bounds ns) m → FirstFaultyKey (key_fault x ns) s e m
  first_key m h = record {
    low = candidate_low m h.passes;
    high = candidate_high m h.passes;
    faulty = and_right (inside s e m) (is_faulty m) h.passes;
    before = λ j a b. ⊎_elim
        (λ p. let w = witness j a (lt_lt_lt b (candidate_high m h.passes)) p in clash (le_lt_lt w.high b) (h.least w.it w.mem w.passes))
        (λ p. p)
        (decide (is_faulty j));
  }

  outcome : (o : Option Key) → Answer (LeastKey is_candidate (s ∷ bounds ns)) is_candidate (s ∷ bounds ns) o
      → FirstFaulty (key_fault x ns) s e (case_of (key_fault x ns) o)
  outcome None h = clean
      (λ k a b. ⊎_elim (λ p. let w = witness k a b p in never w.passes (h w.it w.mem)) (λ p. p) (decide (is_faulty k)))
      refl
  outcome (Some m) h = at m (first_key m h) refl

  by_candidates : FirstFaulty (key_fault x ns) s e (case_of (key_fault x ns) (least_key is_candidate (s ∷ bounds ns)))
  by_candidates = outcome (least_key is_candidate (s ∷ bounds ns)) (least_key_right is_candidate (s ∷ bounds ns))

-- ---- the won span

module _ (x : TraceRecord) (ns : List Name) where
  pub won_fault_right : FirstFaulty (key_fault x ns) (span_of 1 x).start (span_of 1 x).end (won_fault x ns)
  unfolding won_fault
  won_fault_right = by_candidates x ns (span_of 1 x).start (span_of 1 x).end

  -- what is shown to be that fault is `won_fault`
  pub won_fault_found : {c : Case} → FirstFaulty (key_fault x ns) (span_of 1 x).start (span_of 1 x).end c → won_fault x ns ≡ c
  won_fault_found w = faulty_one won_fault_right w

  -- where no name that covers a won key is a fault for it, there is none
  abbrev NoneFaulty : Type 0
  NoneFaulty = (k : Key) → Le (span_of 1 x).start k → Lt k (span_of 1 x).end → (n : Name) → Mem n ns → covers k n ≡ true → is_fault (name_fault x n) ≡ false

  module _ (h : NoneFaulty) where
    clear_by : (k : Key) → Le (span_of 1 x).start k → Lt k (span_of 1 x).end → (o : Option Name)
        → Answer (Greatest (λ n. n.index) (covers k) ns) (covers k) ns o → is_fault (case_of (name_fault x) o) ≡ false
    clear_by k a b None w = refl
    clear_by k a b (Some n) w = h k a b n (placed_mem w.place) w.place.passes

    clear_key : (k : Key) → Le (span_of 1 x).start k → Lt k (span_of 1 x).end → is_fault (key_fault x ns k) ≡ false
    unfolding key_fault
    clear_key k a b = clear_by k a b (standing_name ns k) (standing_name_right ns k)

    pub names_clear : won_fault x ns ≡ None
    names_clear = won_fault_found (clean clear_key refl)
