-- Laws of noting a record: the cells are put one after the other, then the two chains are entered, and the columns say what
-- they said, with the record.
use mathlib.Core.Path.{◌≡◌, sym, ap, ◌∙◌}
use mathlib.Core.List.{List, ◌∷◌}
use Rattle.std.specs.Prelude.{IfSome}
use Prim.Native.Nat.{ℕ, ◌+◌, ◌*◌, ◌≤◌, ◌<◌}
use native.Mathlib.Omega.{arith}
use native.Mathlib.Decide.{ℕ_discrete}
use lib.ListN.{length, get_or}
use Rattle.record.specs.Records.{TraceRecord}
use Rattle.rules.specs.History.{History}
use Rattle.history.specs.Logs.{hist}
use Rattle.history.specs.Columns.{Column, cell_of, Put, EnteredIf}
use Rattle.history.proofs.Logs.{hist_length}
use Rattle.history.proofs.Cells.{cell_new, cell_old}
use Rattle.history.proofs.Chains.{chained_agrees}
use Rattle.history.proofs.Entries.{length_if, outside_if, step_if}
use Rattle.splits.specs.declared.note.Cells.{Cells}
use Rattle.splits.specs.Columns.{server_cell, restated_cell, refused_cell, pending_cell, registered_cell, Known, HalfNoted, Celled, CellsPut}

-- ---- five puts

pub puts : {cap n : ℕ} {r : Cells} {w0 w1 w2 w3 w4 w5 : List ℕ} → n < cap → Put w0 w1 (22 * cap + n) r.server → Put w1 w2 (23 * cap + n) r.restated
    → Put w2 w3 (24 * cap + n) r.refused → Put w3 w4 (25 * cap + n) r.pending → Put w4 w5 (26 * cap + n) r.registered → CellsPut w0 w5 cap n r
puts {cap} {n} l a b c d e = record {
  len = e.len ∙ d.len ∙ c.len ∙ b.len ∙ a.len;
  server = e.others _ (λ z. omega arith) ∙ d.others _ (λ z. omega arith) ∙ c.others _ (λ z. omega arith) ∙ b.others _ (λ z. omega arith) ∙ a.is;
  restated = e.others _ (λ z. omega arith) ∙ d.others _ (λ z. omega arith) ∙ c.others _ (λ z. omega arith) ∙ b.is;
  refused = e.others _ (λ z. omega arith) ∙ d.others _ (λ z. omega arith) ∙ c.is;
  pending = e.others _ (λ z. omega arith) ∙ d.is;
  registered = e.is;
  others = λ j f g h i k. e.others j k ∙ d.others j i ∙ c.others j h ∙ b.others j g ∙ a.others j f;
}

-- ---- a column with one more cell

wrote : (g : TraceRecord → History → ℕ) (h : History) (x : TraceRecord) {base cap n v : ℕ} {work work' : List ℕ} → Column (cell_of g h) base cap work
    → length h ≡ n → v ≡ g x h → get_or work' (base + n) 0 ≡ v → ((k : ℕ) → k < cap → (k ≡ n → ⊥) → get_or work' (base + k) 0 ≡ get_or work (base + k) 0)
    → Column (cell_of g (x ∷ h)) base cap work'
wrote g h x {base} {cap} {n} {v} {work} {work'} c e q p o = record {
  word = λ k l.
      elim (ℕ_discrete k (length h)) [
        | yes z ↦
            let w : base + k ≡ base + n = omega arith in
            ap (λ (j : ℕ). get_or work' j 0) w ∙ p ∙ q ∙ sym (cell_new g x h) ∙ ap (cell_of g (x ∷ h)) (sym z)
        | no z ↦ o k l (λ y. z (y ∙ sym e)) ∙ c.word k l ∙ sym (cell_old g x h k z)
      ];
}

-- ---- all of it

module _ (log : List ℕ) {cap n : ℕ} (x : TraceRecord) {r : Cells} {w0 w1 : List ℕ} (w2 w3 : List ℕ) (l : n < cap)
    (within : (IfSome r.split (λ b. b < cap)) × (IfSome r.recording (λ b. b < cap)))
    (known : Known cap (hist log n) w0 → Celled cap x (hist log n) r) (put : CellsPut w0 w1 cap n r)
    (splits : EnteredIf w1 w2 (28 * cap) (29 * cap) n r.split)
    (recordings : EnteredIf w2 w3 (30 * cap) (31 * cap) n r.recording) where
  split_leaves : (j : ℕ) → (28 * cap ≤ j → j < 30 * cap → ⊥) → get_or w2 j 0 ≡ get_or w1 j 0
  split_leaves j o = outside_if splits l (record { is = within.0 }) (omega arith) j (λ p q. o p (omega arith))

  recording_leaves : (j : ℕ) → (30 * cap ≤ j → j < 32 * cap → ⊥) → get_or w3 j 0 ≡ get_or w2 j 0
  recording_leaves j o = outside_if recordings l (record { is = within.1 }) (omega arith) j (λ p q. o p (omega arith))

  -- the entries leave a word outside the four columns
  entries : (j : ℕ) → (28 * cap ≤ j → j < 32 * cap → ⊥) → get_or w3 j 0 ≡ get_or w1 j 0
  entries j o = recording_leaves j (λ p q. o (omega arith) q) ∙ split_leaves j (λ p q. o p (omega arith))

  -- a cell's word, and those of the other records in its column
  cell_word : {v : ℕ} (c : ℕ) → c < 28 * cap → get_or w1 c 0 ≡ v → get_or w3 c 0 ≡ v
  cell_word c o e = entries c (λ p q. omega arith) ∙ e

  other_word : (j : ℕ) → j < 28 * cap → (j ≡ 22 * cap + n → ⊥) → (j ≡ 23 * cap + n → ⊥) → (j ≡ 24 * cap + n → ⊥) → (j ≡ 25 * cap + n → ⊥)
      → (j ≡ 26 * cap + n → ⊥)
      → get_or w3 j 0 ≡ get_or w0 j 0
  other_word j o a b c d e = entries j (λ p q. omega arith) ∙ put.others j a b c d e

  -- the cells leave the words of the chains
  put_leaves : (j : ℕ) → 27 * cap ≤ j → get_or w1 j 0 ≡ get_or w0 j 0
  put_leaves j m = put.others j (λ z. omega arith) (λ z. omega arith) (λ z. omega arith) (λ z. omega arith) (λ z. omega arith)

  pub noted : HalfNoted cap (hist log n) x w0 w3
  noted = record {
    len = length_if r.recording recordings ∙ length_if r.split splits ∙ put.len;
    below = λ j m. other_word j (omega arith) (λ z. omega arith) (λ z. omega arith) (λ z. omega arith) (λ z. omega arith) (λ z. omega arith);
    names = λ j m o. other_word j (omega arith) (λ z. omega arith) (λ z. omega arith) (λ z. omega arith) (λ z. omega arith) (λ z. omega arith);
    above = λ j m. entries j (λ p q. omega arith) ∙ put_leaves j (omega arith);
    indexed = λ ow hf.
        let cs = known (ow, hf) in
        let len = hist_length log n in
        record {
          servers = wrote server_cell (hist log n) x hf.servers len cs.server (cell_word (22 * cap + n) (omega arith) put.server)
              (λ k m d. other_word (22 * cap + k) (omega arith) (λ z. d (omega arith)) (λ z. omega arith) (λ z. omega arith) (λ z. omega arith)
              (λ z. omega arith));
          restated = wrote restated_cell (hist log n) x hf.restated len cs.restated (cell_word (23 * cap + n) (omega arith) put.restated)
              (λ k m d. other_word (23 * cap + k) (omega arith) (λ z. omega arith) (λ z. d (omega arith)) (λ z. omega arith) (λ z. omega arith)
              (λ z. omega arith));
          refused = wrote refused_cell (hist log n) x hf.refused len cs.refused (cell_word (24 * cap + n) (omega arith) put.refused)
              (λ k m d. other_word (24 * cap + k) (omega arith) (λ z. omega arith) (λ z. omega arith) (λ z. d (omega arith)) (λ z. omega arith)
              (λ z. omega arith));
          pendings = wrote pending_cell (hist log n) x hf.pendings len cs.pending (cell_word (25 * cap + n) (omega arith) put.pending)
              (λ k m d. other_word (25 * cap + k) (omega arith) (λ z. omega arith) (λ z. omega arith) (λ z. omega arith) (λ z. d (omega arith))
              (λ z. omega arith));
          registered = wrote registered_cell (hist log n) x hf.registered len cs.registered (cell_word (26 * cap + n) (omega arith) put.registered)
              (λ k m d. other_word (26 * cap + k) (omega arith) (λ z. omega arith) (λ z. omega arith) (λ z. omega arith) (λ z. omega arith)
              (λ z. d (omega arith)));
          splits = chained_agrees
              (record { word = λ k m. recording_leaves _ (λ p q. omega arith) })
              (record { word = λ k m. recording_leaves _ (λ p q. omega arith) })
              (step_if r.split (sym cs.split) len l (record { is = within.0 }) (omega arith) splits
              (chained_agrees (record { word = λ k m. put_leaves _ (omega arith) }) (record { word = λ k m. put_leaves _ (omega arith) }) hf.splits));
          recordings = step_if r.recording (sym cs.recording) len l (record { is = within.1 }) (omega arith) recordings
              (chained_agrees
              (record { word = λ k m. split_leaves _ (λ p q. omega arith) ∙ put_leaves _ (omega arith) })
              (record { word = λ k m. split_leaves _ (λ p q. omega arith) ∙ put_leaves _ (omega arith) })
              hf.recordings);
        };
  }
