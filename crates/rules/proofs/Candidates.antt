-- Where a definition looks for a lowest number among candidates, it is the lowest of all numbers: held ranges, owed ranges, restated nodes.
use mathlib.Core.Path.{◌≡◌, refl}
use mathlib.Core.Bool.{Bool, true, false, cond, ◌&&◌, ◌||◌}
use mathlib.Core.List.{List, [], ◌∷◌}
use Rattle.std.specs.Prelude.{Option, None, Some}
use mathlib.Core.Logic.{⊎_elim}
use Prim.Native.Nat.{ℕ, ◌≤◌}
use lib.Dec.{eqb}
use borrow.Author.Tests.{eqb-true}
use Rattle.record.specs.Named.{Node}
use Rattle.record.specs.Records.{Span, TraceRecord}
use Rattle.rules.specs.History.{History, is_kind, by_node, is_by, when, or_else, Change, becomes, ends, lasting, is_some, holds, add_some, lowest_of, latest, told}
use Rattle.rules.specs.Descriptors.{span_of}
use Rattle.rules.specs.OneOwnerPerKey.{is_holding, is_ending, tells_hold, hold_of, ranges_of, meets, lowest_meeting}
use Rattle.rules.specs.RightHalf.{tells_restated, is_restated, node_number, nodes_of, Registered, lacks}
use Rattle.record.proofs.Booleans.{decide, never, and_left, and_right}
use Rattle.rules.proofs.Members.{Mem, here, there}
use Rattle.rules.proofs.Placed.{Answer}
use Rattle.rules.proofs.Firsts.{add_mem}
use Rattle.rules.proofs.Best.{Lowest, lowest_of_right}

-- the lowest number that passes, of all numbers; or none does
abbrev pub LowestOfAll : (ℕ → Bool) → Option ℕ → Type 0
LowestOfAll p None = (n : ℕ) → p n ≡ false
LowestOfAll p (Some r) = (p r ≡ true) × ((n : ℕ) → p n ≡ true → r ≤ n)

-- the candidates suffice where every number that passes is one of them
module _ (p : ℕ → Bool) (ns : List ℕ) (every : (n : ℕ) → p n ≡ true → Mem n ns) where
  of_all : (o : Option ℕ) → Answer (Lowest (λ n. n) p ns) p ns o → LowestOfAll p o
  of_all None h = λ n. ⊎_elim (λ e. never e (h n (every n e))) (λ e. e) (decide (p n))
  of_all (Some r) h = (h.place.passes, λ n e. h.most n (every n e) e)

  pub candidates_suffice : LowestOfAll p (lowest_of (λ n. n) p ns)
  candidates_suffice = of_all (lowest_of (λ n. n) p ns) (lowest_of_right (λ n. n) p ns)

pub holds_some : {A : Type 0} (p : A → Bool) (o : Option A) → holds p o ≡ true → is_some o ≡ true
holds_some p None e = e
holds_some p (Some a) e = refl

-- ---- a range that a node holds is one that it was made to hold

hold_next : (s : Span) (l : Option (Change Span)) (a r : ℕ) (rs : List ℕ) (b k e d : Bool) → (e ≡ true → a ≡ r)
    → (is_some (lasting l) ≡ true → Mem r rs)
    → is_some (lasting (or_else (cond b (cond (k && e) (Some (becomes s)) (when d ends)) None) l)) ≡ true
    → Mem r (add_some (when (b && k) a) rs)
hold_next s l a r rs true true true d f g q = rw (f refl) here
hold_next s l a r rs true true false true f g q = never q refl
hold_next s l a r rs true true false false f g q = there (g q)
hold_next s l a r rs true false e true f g q = never q refl
hold_next s l a r rs true false e false f g q = g q
hold_next s l a r rs false k e d f g q = g q

pub hold_range : (node range : ℕ) (h : History) → is_some (hold_of node range h) ≡ true → Mem range (ranges_of node h)
unfolding hold_of latest ranges_of told
hold_range node range [] q = never q refl
hold_range node range (x ∷ h) q =
    hold_next (span_of 0 x) (latest (tells_hold node range) h) x.a range (ranges_of node h) (is_by node x) (is_holding x) (eqb x.a range) (is_ending range x)
    (eqb-true x.a range)
    (hold_range node range h)
    q

pub lowest_meeting_right : (p : ℕ → Bool) (s : Span) (node : ℕ) (h : History)
    → LowestOfAll (λ r. p r && holds (meets s) (hold_of node r h)) (lowest_meeting p s node h)
unfolding lowest_meeting
lowest_meeting_right p s node h =
    candidates_suffice (λ r. p r && holds (meets s) (hold_of node r h)) (ranges_of node h)
    (λ r e. hold_range node r h (holds_some (meets s) (hold_of node r h) (and_right (p r) _ e)))

-- ---- a node that is restated has a record

marked_mem : (node : ℕ) (n : Node) (ns : List ℕ) → by_node node n ≡ true → Mem node (add_some (node_number n) ns)
marked_mem node None ns e = never e refl
marked_mem node (Some n) ns e = rw (eqb-true n.0 node e) here

restated_next : (node : ℕ) (n : Node) (ns : List ℕ) (l : Option Bool) (b k e : Bool) → by_node node n ≡ b → (holds (λ b. b) l ≡ true → Mem node ns)
    → holds (λ b. b) (or_else (when (b && k) e) l) ≡ true → Mem node (add_some (node_number n) ns)
restated_next node n ns l true k e t f q = marked_mem node n ns t
restated_next node n ns l false k e t f q = add_mem (node_number n) (f q)

pub restated_node : (node : ℕ) (h : History) → is_restated node h ≡ true → Mem node (nodes_of h)
unfolding is_restated latest nodes_of told
restated_node node [] q = never q refl
restated_node node (x ∷ h) q =
    restated_next node x.node (nodes_of h) (latest (tells_restated node) h) (is_by node x) (is_kind 5 x || is_kind 6 x) (is_kind 5 x) refl
    (restated_node node h) q

pub lacking_right : (s : Registered) (x : TraceRecord) (h : History) → LowestOfAll (lacks s x h) (lowest_of (λ n. n) (lacks s x h) (nodes_of h))
lacking_right s x h = candidates_suffice (lacks s x h) (nodes_of h) (λ n e. restated_node n h (and_left (is_restated n h) _ (and_left _ _ (and_left _ _ e))))
