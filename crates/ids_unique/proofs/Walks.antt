-- Laws of a walk from block to block: it gives the numbered blocks, newest first, and those are the blocks of the rules.
use mathlib.Core.Path.{◌≡◌, refl, sym, ap, subst, ◌∙◌}
use mathlib.Core.List.{List, [], ◌∷◌}
use Prim.Native.Nat.{ℕ, zero, suc, ◌+◌, ◌-◌, ◌*◌, ◌≤◌, ◌<◌}
use native.Mathlib.Omega.{arith}
use lib.ListN.{length, get_or, drop}
use lib.Seq.{get_or-drop}
use borrow.Author.Tests.{lt-ltb}
use Rattle.std.specs.Prelude.{Option, None, Some}
use Rattle.std.proofs.lemmas.Iterator.{YieldsList}
use Rattle.std.proofs.lemmas.Iterator.Splits.{YieldsList-from_shown_while}
use Rattle.record.specs.Records.{TraceRecord, decode}
use Rattle.rules.specs.History.{History, Tells, number_after, given, told}
use Rattle.rules.specs.IdsUnique.{Grant, grant_by, blocks_of}
use Rattle.rules.proofs.Skips.{told_nil, told_hit, told_skip}
use Rattle.history.specs.declared.past.Past.{Past}
use Rattle.history.specs.declared.walk.Chain.{Chain}
use Rattle.history.specs.declared.walk.Taken.{Taken}
use Rattle.history.specs.Logs.{bytes_at, record_at, hist}
use Rattle.history.specs.Pasts.{taken, Indexed, Goes, Steps}
use Rattle.history.specs.Columns.{clamp}
use Rattle.history.specs.Places.{block_links}
use Rattle.history.proofs.Chains.{In, latest_bound, latest_in_lem, skip}
use Rattle.history.proofs.Logs.{hist_suc, hist_none, hist_length, record_bytes}
use Rattle.history.proofs.Walks.{look_less, look_end, look_outside}
use Rattle.ids_unique.specs.Columns.{tells_block, block_bucket, latest_block, IdsIndexed}
use Rattle.ids_unique.specs.Walks.{FromLatest}
use Rattle.ids_unique.proofs.Blocks.{block_is, in_block, not_block, blocks_more, blocks_same, blocks_end, link_is, link_none}

-- a block with its record's number; all of them, newest first
abbrev pub Numbered : Type 0
Numbered = ℕ × Grant

abbrev tells_numbered : Tells Numbered
tells_numbered x h = given (λ g. Some (number_after h, g)) (tells_block x h)

unfoldable pub numbered : History → List Numbered
numbered h = told tells_numbered h

numbered_none : numbered [] ≡ []
unfolding numbered
numbered_none = told_nil tells_numbered

module _ (x : TraceRecord) (h : History) where
  numbered_more : {g : Grant} → tells_block x h ≡ Some g → numbered (x ∷ h) ≡ (suc (length h), g) ∷ numbered h
  unfolding numbered
  numbered_more e = told_hit tells_numbered x h _ (rw e)

  numbered_same : tells_block x h ≡ None → numbered (x ∷ h) ≡ numbered h
  unfolding numbered
  numbered_same e = told_skip tells_numbered x h (rw e)

-- what a walk reads of a record
abbrev pub seen : Taken → Numbered
seen y = (y.number, grant_by (decode y.record.now))

-- ---- the walk

module _ (p : Past) where
  -- where it stands: at the record of a block, or at the end
  record OnBlocks (s : Chain) : Type 0 where
    pub log : s.log ≡ p.log
    pub links : s.links.now ≡ drop (block_links * p.cap - 1) p.work.now
    pub within : s.next ≤ p.count
    pub here : 0 < s.next → In block_bucket 0 p.log.now (s.next - 1)

  abbrev left : ℕ → List Numbered
  left n = numbered (hist p.log.now n)

  left_skip : (k : ℕ) → (In block_bucket 0 p.log.now k → ⊥) → left (suc k) ≡ left k
  left_skip = look_outside numbered block_bucket 0 p.log.now (λ x h n. numbered_same x h (not_block x h n))

  left_latest : (n : ℕ) → left n ≡ left (latest_block (hist p.log.now n))
  left_latest = skip block_bucket 0 p.log.now left left_skip

  left_turn : {i : ℕ} → 0 < i → In block_bucket 0 p.log.now (i - 1) → left i ≡ (i, grant_by (record_at p.log.now (i - 1))) ∷ left (i - 1)
  left_turn {i} l m =
      let n : suc (length (hist p.log.now (i - 1))) ≡ i = omega (arith, hist_length p.log.now (i - 1)) in
      look_less numbered p.log.now i l
      ∙ numbered_more (record_at p.log.now (i - 1)) (hist p.log.now (i - 1)) (in_block (record_at p.log.now (i - 1)) (hist p.log.now (i - 1)) m)
      ∙ ap (λ (k : ℕ). (k, grant_by (record_at p.log.now (i - 1))) ∷ left (i - 1)) n

  left_end : {i : ℕ} → i ≡ 0 → left i ≡ []
  left_end e = look_end numbered p.log.now e ∙ numbered_none

  module _ (k : Indexed IdsIndexed p) where
    -- the word that a walk goes on by is the latest block before the record
    word_is : (i : ℕ) {s : Chain} → OnBlocks s → i ≤ p.count → clamp (get_or s.links.now i 0) i ≡ latest_block (hist p.log.now i)
    word_is zero {s} o l = none (get_or s.links.now 0 0) ∙ link_none p.log.now l p.within k refl
      where
        none : (x : ℕ) → clamp x 0 ≡ 0
        none zero = refl
        none (suc x) = rw (lt-ltb 0 (suc x) (omega arith))
    word_is (suc i) {s} o l =
        let b : block_links * p.cap - 1 + suc i ≡ block_links * p.cap + (suc i - 1) = omega (arith, p.positive) in
        ap (λ (w : List ℕ). clamp (get_or w (suc i) 0) (suc i)) o.links
        ∙ ap (λ (x : ℕ). clamp x (suc i)) (get_or-drop (block_links * p.cap - 1) p.work.now (suc i) 0 ∙ ap (λ (j : ℕ). get_or p.work.now j 0) b)
        ∙ link_is p.log.now l p.within k (omega arith)

    turn : (s : Chain) (x : Taken) (t : Chain) → OnBlocks s → Goes s x t → OnBlocks t × (left s.next ≡ seen x ∷ left t.next)
    turn s x t o e =
        let n : t.next ≡ latest_block (hist p.log.now (s.next - 1)) = e.next ∙ word_is (s.next - 1) o (omega (arith, o.within)) in
        let r : grant_by (record_at p.log.now (s.next - 1)) ≡ grant_by (decode x.record.now) =
        ap grant_by (sym (record_bytes p.log.now (s.next - 1) (e.bytes ∙ ap (λ (l : _). bytes_at (s.next - 1) l.now) o.log))) in (
          record {
            log = e.log ∙ o.log;
            links = ap (λ (l : _). l.now) e.links ∙ o.links;
            within = omega (arith, n, latest_bound block_bucket 0 p.log.now (s.next - 1), o.within);
            here = rw n (latest_in_lem block_bucket 0 p.log.now (s.next - 1));
          },
          left_turn e.some (o.here e.some)
              ∙ ap (λ (g : Grant). (s.next, g) ∷ left (s.next - 1)) r
              ∙ ap (λ (m : ℕ). (m, grant_by (decode x.record.now)) ∷ left (s.next - 1)) (sym e.number)
              ∙ ap (λ (l : List Numbered). seen x ∷ l) (left_latest (s.next - 1) ∙ ap left (sym n)),
        )

    -- A WALK GIVES THE NUMBERED BLOCKS
    pub walk_yields : {s : Chain} → FromLatest p s → YieldsList Steps seen s (numbered (taken p))
    walk_yields {s} f =
        subst (YieldsList Steps seen s) (sym (left_latest p.count ∙ ap left (sym (f.latest k))))
        (YieldsList-from_shown_while Steps seen (λ (c : Chain). left c.next) OnBlocks
        (λ s t o e. ap length (left_end e.0))
        turn
        s
        (record { log = f.log; links = f.links; within = f.within; here = rw (f.latest k) (latest_in_lem block_bucket 0 p.log.now p.count) }))

-- ---- the numbered blocks are the blocks, with numbers that fall
module _ (log : List ℕ) (P : ℕ → List Numbered → List Grant → Type 0) (none : P 0 [] [])
    (more : (n : ℕ) (bs : List Numbered) (gs : List Grant) → P n bs gs → P (suc n) ((suc n, grant_by (record_at log n)) ∷ bs) (grant_by (record_at log n) ∷ gs))
    (same : (n : ℕ) (bs : List Numbered) (gs : List Grant) → P n bs gs → P (suc n) bs gs) where
  pub blocks_ind : (n : ℕ) → P n (numbered (hist log n)) (blocks_of (hist log n))
  blocks_ind zero = rw (blocks_end log refl, hist_none log, numbered_none) none
  blocks_ind (suc n) = rw (hist_suc log n) (go (tells_block (record_at log n) (hist log n)) refl (blocks_ind n))
    where
      go : (o : Option Grant) → tells_block (record_at log n) (hist log n) ≡ o → P n (numbered (hist log n)) (blocks_of (hist log n))
          → P (suc n) (numbered (record_at log n ∷ hist log n)) (blocks_of (record_at log n ∷ hist log n))
      go None e i = rw (numbered_same (record_at log n) (hist log n) e, blocks_same (record_at log n) (hist log n) e) (same n _ _ i)
      go (Some g) e i =
          rw (
            numbered_more (record_at log n) (hist log n) e,
            blocks_more (record_at log n) (hist log n) e,
            hist_length log n,
            ← block_is (record_at log n) (hist log n) e,
          )
          (more n _ _ i)
