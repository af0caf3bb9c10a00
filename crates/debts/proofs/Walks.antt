-- Laws of the walks along the chain of a node and a range: what a word read at a record says of its node, and that no record
-- that is looked for is left out.
use Rattle.history.specs.Buckets.{bucket_by_two}
use mathlib.Core.Path.{◌≡◌, refl, sym, ap, ◌∙◌}
use mathlib.Core.Bool.{Bool, true, false, cond, not, ◌&&◌, ◌||◌, and_assoc}
use mathlib.Core.List.{List, ◌∷◌}
use Prim.Native.Nat.{ℕ, suc, ◌+◌, ◌-◌, ◌*◌, ◌≤◌, ◌<◌, min}
use native.Mathlib.Omega.{arith}
use lib.ListN.{get_or}
use lib.Dec.{eqb, leb}
use borrow.Author.Tests.{eqb-true, lt-ltb, le-ltb}
use Rattle.record.specs.declared.named.ApplyEffect.TheVariants.{Took}
use Rattle.record.specs.Records.{TraceRecord, decode}
use Rattle.rules.specs.History.{History, is_kind, is_by, any_of}
use Rattle.rules.specs.GenerationsRise.{has_effect}
use Rattle.rules.specs.RightHalf.{is_restated}
use Rattle.history.specs.Logs.{record_at, hist}
use Rattle.history.specs.Pasts.{Indexed, IsTaken, Begins, Goes}
use Rattle.history.specs.Places.{server_at, restated_at, hold_heads, hold_links}
use Rattle.history.specs.declared.past.Past.{Past}
use Rattle.history.specs.declared.walk.Chain.{Chain}
use Rattle.history.specs.declared.walk.Taken.{Taken}
use Rattle.history.proofs.Chains.{Stands}
use Rattle.history.proofs.Pasts.{OnPast, on_first, on_next, taken_on, along_turn, along_first, along_next}
use Rattle.history.proofs.Logs.{hist_suc, record_bytes}
use Rattle.one_owner_per_key.specs.Numbers.{latest_number}
use Rattle.one_owner_per_key.specs.Columns.{is_chained, by_hold}
use Rattle.record.proofs.Booleans.{and_left, and_right, or_elim}
use Rattle.rules.proofs.Marks.{kind_apart}
use Rattle.one_owner_per_key.proofs.Latest.{passes_at, number_bound}
use Rattle.one_owner_per_key.proofs.Founds.{latest_to, to_none, to_miss, to_hit, to_top}
use Rattle.one_owner_per_key.proofs.Walks.{Within, outside, hold_within, descriptor_chained, split_chained, removed_chained, took_chained}
use Rattle.debts.specs.declared.owed.Asked.{Asked}
use Rattle.debts.specs.declared.owed.Asked.TheVariants.{Removed, Traced, Recording, Applying}
use Rattle.splits.specs.Numbers.{restated_number}
use Rattle.splits.specs.Columns.{HalfIndexed, Known}
use Rattle.debts.specs.Walk.{asks_kind, asks, applying, comes, above}
use Rattle.splits.proofs.States.{server_cell_lem, word_is, restated_step, restated_cell_lem, restated_mark}
use Rattle.rules.proofs.Servers.{server_number, server_step}

-- ---- a record that leaves the node's state as it was

either_way : (b : Bool) (n : ℕ) → cond b n n ≡ n
either_way true n = refl
either_way false n = refl

restated_keeps : (node : ℕ) (x : TraceRecord) (h : History) → is_kind 2 x ≡ true → is_restated node (x ∷ h) ≡ is_restated node h
restated_keeps node x h k =
    let e : restated_number node (x ∷ h) ≡ restated_number node h =
    restated_step node x h ∙ rw (kind_apart 2 5 x (λ q. omega arith) k, kind_apart 2 6 x (λ q. omega arith) k)
    (either_way (is_by node x) (restated_number node h)) in
    restated_mark node (x ∷ h) ∙ ap (λ (n : ℕ). not (eqb n 0)) e ∙ sym (restated_mark node h)

applying_kind : (index : ℕ) (x : TraceRecord) (m : Bool) → applying index x m ≡ true → is_kind 4 x ≡ false
applying_kind index x m e =
    or_elim ((is_kind 7 x || has_effect Took x) && eqb x.b index) (is_kind 2 x && not m && leb index x.c) e
    (λ p. or_elim (is_kind 7 x) (has_effect Took x) (and_left _ (eqb x.b index) p) (kind_apart 7 4 x (λ q. omega arith))
    (λ t. kind_apart 3 4 x (λ q. omega arith) (and_left (is_kind 3 x) _ t)))
    (λ p. kind_apart 2 4 x (λ q. omega arith) (and_left (is_kind 2 x) (not m) (and_left (is_kind 2 x && not m) _ p)))

-- ---- what is read at a record of the node

module _ (log : List ℕ) (node : ℕ) {count cap : ℕ} {work : List ℕ} (hf : HalfIndexed cap (hist log count) work) (taken : count ≤ cap) (k : ℕ)
    (l : k < count) where
  marked_at : is_by node (record_at log k) ≡ true → not (eqb (get_or work (restated_at * cap + k) 0) 0) ≡ is_restated node (record_at log k ∷ hist log k)
  marked_at b =
      ap (λ (n : ℕ). not (eqb n 0)) (word_is restated_cell_lem log node hf.restated taken k l b) ∙ sym (restated_mark node (hist log (suc k)))
      ∙ ap (is_restated node) (hist_suc log k)

  server_at_lem : is_by node (record_at log k) ≡ true → is_kind 4 (record_at log k) ≡ false → get_or work (server_at * cap + k) 0
      ≡ server_number node (hist log k)
  server_at_lem b q =
      word_is server_cell_lem log node hf.servers taken k l b ∙ ap (server_number node) (hist_suc log k) ∙ server_step node (record_at log k) (hist log k) b
      ∙ rw q

  kind_same : (q : Asked) (x : TraceRecord) (m n t : Bool) → is_kind 2 x ≡ t → (t ≡ true → m ≡ n) → asks_kind q x m ≡ asks_kind q x n
  kind_same Removed x m n t e f = refl
  kind_same (Traced i) x m n t e f = refl
  kind_same Recording x m n true e f = rw (f refl)
  kind_same Recording x m n false e f = rw e
  kind_same Applying x m n t e f = refl

  asks_cases : (q : Asked) (range : ℕ) {m : Bool} (b : Bool) → m ≡ not (eqb (get_or work (restated_at * cap + k) 0) 0) → is_by node (record_at log k) ≡ b
      → b && eqb (record_at log k).a range && asks_kind q (record_at log k) m
      ≡ b && eqb (record_at log k).a range && asks_kind q (record_at log k) (is_restated node (hist log k))
  asks_cases q range true em e =
      ap (λ (t : Bool). eqb (record_at log k).a range && t)
      (kind_same q (record_at log k) _ _ (is_kind 2 (record_at log k)) refl
      (λ t. em ∙ marked_at e ∙ restated_keeps node (record_at log k) (hist log k) t))
  asks_cases q range false em e = refl

  applying_same : (index : ℕ) (x : TraceRecord) (m n t : Bool) → is_kind 2 x ≡ t → (t ≡ true → m ≡ n) → applying index x m ≡ applying index x n
  applying_same index x m n true e f = rw (f refl)
  applying_same index x m n false e f = rw e

  voter_same : (index : ℕ) (voters : List ℕ) (m t : Bool) → is_by node (record_at log k) ≡ true → applying index (record_at log k) m ≡ t
      → t && any_of (λ v. eqb v (get_or work (server_at * cap + k) 0)) voters ≡ t && any_of (λ v. eqb v (server_number node (hist log k))) voters
  voter_same index voters m true b e =
      ap (λ (s : ℕ). any_of (λ v. eqb v s) voters) (server_at_lem b (applying_kind index (record_at log k) m e))
  voter_same index voters m false b e = refl

  comes_cases : (range index : ℕ) (voters : List ℕ) {m : Bool} (b : Bool) → m ≡ not (eqb (get_or work (restated_at * cap + k) 0) 0)
      → is_by node (record_at log k) ≡ b
      → b && eqb (record_at log k).a range && applying index (record_at log k) m && any_of (λ v. eqb v (get_or work (server_at * cap + k) 0)) voters
      ≡ b && eqb (record_at log k).a range && applying index (record_at log k) (is_restated node (hist log k)) && any_of
      (λ v. eqb v (server_number node (hist log k))) voters
  comes_cases range index voters {m} true em e =
      let n = is_restated node (hist log k) in
      let q : applying index (record_at log k) m ≡ applying index (record_at log k) n =
      applying_same index (record_at log k) m n (is_kind 2 (record_at log k)) refl
      (λ t. em ∙ marked_at e ∙ restated_keeps node (record_at log k) (hist log k) t) in
      and_assoc (eqb (record_at log k).a range) _ _
      ∙ ap (λ (t : Bool). eqb (record_at log k).a range && t)
      (ap (λ (t : Bool). t && any_of (λ v. eqb v (get_or work (server_at * cap + k) 0)) voters) q
      ∙ voter_same index voters n (applying index (record_at log k) n) e refl)
      ∙ sym (and_assoc (eqb (record_at log k).a range) _ _)
  comes_cases range index voters false em e = refl

-- restated, server: what was read there
module _ {p : Past} (ix : Indexed Known p) {old : Taken} (t : IsTaken p old) (node range : ℕ) {restated : Bool}
    (marked : restated ≡ not (eqb (get_or p.work.now (restated_at * p.cap + (old.number - 1)) 0) 0)) where
  abbrev at : ℕ
  at = old.number - 1

  abbrev x : TraceRecord
  x = decode old.record.now

  below : at < p.count
  below = omega (arith, t.some, t.within)

  here : x ≡ record_at p.log.now at
  here = record_bytes p.log.now at t.bytes

  pub asks_test : (q : Asked) {r : Bool} → r ≡ is_by node x && eqb x.a range && asks_kind q x restated
      → r ≡ asks q node range (record_at p.log.now at) (hist p.log.now at)
  unfolding asks
  asks_test q e =
      e
      ∙ ap (λ (y : TraceRecord). is_by node y && eqb y.a range && asks_kind q y restated) here
      ∙ asks_cases p.log.now node ix.1 p.within at below q range (is_by node (record_at p.log.now at)) marked refl

  pub comes_test : (index : ℕ) (voters : List ℕ) {r : Bool} {server : ℕ} → server ≡ get_or p.work.now (server_at * p.cap + at) 0
      → r ≡ is_by node x && eqb x.a range && applying index x restated && any_of (λ u. eqb u server) voters
      → r ≡ comes node range index voters (record_at p.log.now at) (hist p.log.now at)
  unfolding comes
  comes_test index voters {server = v} es e =
      e
      ∙ ap (λ (y : TraceRecord). is_by node y && eqb y.a range && applying index y restated && any_of (λ u. eqb u v) voters) here
      ∙ ap (λ (n : ℕ). is_by node (record_at p.log.now at) && eqb (record_at p.log.now at).a range && applying index (record_at p.log.now at) restated && any_of
      (λ u. eqb u n) voters) es
      ∙ comes_cases p.log.now node ix.1 p.within at below range index voters (is_by node (record_at p.log.now at)) marked refl

-- ---- what is looked for is in the chain

module _ (x : TraceRecord) where
  asked_chained : (q : Asked) (m : Bool) → asks_kind q x m ≡ true → is_chained x ≡ true
  asked_chained Removed m e = removed_chained x e
  asked_chained (Traced i) m e = split_chained x (and_left (is_kind 7 x) (eqb x.b i) e)
  asked_chained Recording m e = descriptor_chained x (and_left (is_kind 2 x) (not m) e)
  asked_chained Applying m e =
      or_elim (is_kind 2 x || is_kind 7 x) (has_effect Took x) e
      (λ p. or_elim (is_kind 2 x) (is_kind 7 x) p (descriptor_chained x) (split_chained x)) (took_chained x)

  applying_chained : (index : ℕ) (m : Bool) → applying index x m ≡ true → is_chained x ≡ true
  applying_chained index m e =
      or_elim ((is_kind 7 x || has_effect Took x) && eqb x.b index) (is_kind 2 x && not m && leb index x.c) e
      (λ p. or_elim (is_kind 7 x) (has_effect Took x) (and_left _ (eqb x.b index) p) (split_chained x) (took_chained x))
      (λ p. descriptor_chained x (and_left (is_kind 2 x) (not m) (and_left (is_kind 2 x && not m) _ p)))

pub by_asked : (cap : ℕ) (q : Asked) (node range : ℕ) → Within (asks q node range) (by_hold cap) (bucket_by_two cap node range)
unfolding asks
by_asked cap q node range = record {
  is = λ x h e.
      let u = and_left (is_by node x && eqb x.a range) (asks_kind q x (is_restated node h)) e in
      hold_within cap node range x h (and_left (is_by node x) _ u)
      (asked_chained x q (is_restated node h) (and_right (is_by node x && eqb x.a range) _ e))
      (eqb-true x.a range (and_right (is_by node x) _ u));
}

pub by_coming : (cap node range index : ℕ) (voters : List ℕ) → Within (comes node range index voters) (by_hold cap) (bucket_by_two cap node range)
unfolding comes
by_coming cap node range index voters = record {
  is = λ x h e.
      let w = and_left (is_by node x && eqb x.a range && applying index x (is_restated node h)) _ e in
      let u = and_left (is_by node x && eqb x.a range) (applying index x (is_restated node h)) w in
      hold_within cap node range x h (and_left (is_by node x) _ u)
      (applying_chained x index (is_restated node h) (and_right (is_by node x && eqb x.a range) _ w))
      (eqb-true x.a range (and_right (is_by node x) _ u));
}

-- ---- the latest of the first top that passes, where it is above a floor

above_found : {floor i n : ℕ} → i ≡ n → floor < i → i ≡ above floor n
above_found {floor} {i} {n} e l = rw (← e, lt-ltb floor i l)

above_none : {floor n : ℕ} → n ≤ floor → 0 ≡ above floor n
above_none {floor} {n} l = rw (le-ltb floor n l)

-- what is left of a walk along the chain of a node and a range
pub record Left (t : TraceRecord → History → Bool) (b : ℕ) (p : Past) (top : ℕ) (c : Chain) : Type 0 where
  pub on : OnPast p hold_links c
  pub stands : Indexed Known p → Stands (by_hold p.cap) b p.log.now (latest_to t p.log.now top) (latest_number t (hist p.log.now top)) c.next

module _ {t : TraceRecord → History → Bool} {p : Past} {b : ℕ} (s : Within t (by_hold p.cap) b) {top : ℕ} {c : Chain} where
  pub left_first : top ≤ p.count → b < p.cap → Begins p hold_heads hold_links b c → Left t b p top c
  left_first upto l e = record {
    on = on_first e;
    stands = λ k.
        along_first (latest_to t p.log.now top) (outside s p.log.now top) k.0.held refl l (sym (to_top t p.log.now top p.count upto)) e;
  }

  pub left_next : {d : Chain} {y : Taken} → Left t b p top c → Goes c y d
      → (Indexed Known p → y.number ≤ top → passes_at t p.log.now (y.number - 1) ≡ false) → Left t b p top d
  left_next w e f =
      let n = taken_on w.on e in
      record {
        on = on_next w.on e;
        stands = λ k.
            along_next (latest_to t p.log.now top) (outside s p.log.now top) k.0.held w.on e (w.stands k)
            ((along_turn e (w.stands k)).same ∙ to_miss t p.log.now top _ n.some (f k));
      }

module _ {t : TraceRecord → History → Bool} {p : Past} {b top : ℕ} {c d : Chain} {y : Taken} (w : Left t b p top c) (e : Goes c y d)
    {floor : ℕ} (ix : Indexed Known p) where
  -- at or below the floor there is none above it
  pub left_low : y.number ≤ floor → 0 ≡ above floor (latest_number t (hist p.log.now top))
  left_low l =
      above_none {floor = floor} {n = latest_number t (hist p.log.now top)}
      (omega (arith, (along_turn e (w.stands ix)).same, number_bound t p.log.now (min y.number top)))

  pub left_found : {r : Bool} → floor < y.number → y.number ≤ top → r ≡ passes_at t p.log.now (y.number - 1) → r ≡ true
      → y.number ≡ above floor (latest_number t (hist p.log.now top))
  left_found l m f q =
      above_found (to_hit t p.log.now top y.number (taken_on w.on e).some m (sym f ∙ q) ∙ sym (along_turn e (w.stands ix)).same) l

pub left_none : {t : TraceRecord → History → Bool} {p : Past} {b top : ℕ} {c : Chain} (floor : ℕ) → Left t b p top c → Indexed Known p → c.next ≡ 0
    → 0 ≡ above floor (latest_number t (hist p.log.now top))
left_none {t} {p} {top = top} floor w ix z =
    above_none {floor = floor} {n = latest_number t (hist p.log.now top)}
    (omega (arith, (w.stands ix).same ∙ ap (latest_to t p.log.now top) z ∙ to_none t p.log.now top))
