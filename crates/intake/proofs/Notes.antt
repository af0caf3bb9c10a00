-- A record noted by every check: each note leaves the columns of the others, so that all are one record on. Assumes nothing.
use mathlib.Core.Path.{◌≡◌, ◌∙◌}
use mathlib.Core.List.{List, ◌∷◌}
use Prim.Native.Nat.{ℕ, ◌+◌, ◌*◌, ◌≤◌, ◌<◌}
use native.Mathlib.Omega.{arith}
use lib.ListN.{length, get_or}
use Rattle.record.specs.Records.{TraceRecord}
use Rattle.rules.specs.History.{History}
use Rattle.history.specs.Bounds.{Bounds}
use Rattle.history.proofs.Cells.{Same, column_agrees}
use Rattle.history.proofs.Chains.{chained_agrees}
use Rattle.one_owner_per_key.specs.Columns.{OwnersIndexed, OwnersNoted}
use Rattle.firsts.specs.Columns.{FirstsIndexed}
use Rattle.ids_unique.specs.Columns.{IdsIndexed, IdsNoted}
use Rattle.descriptors.specs.Columns.{DescriptorsIndexed}
use Rattle.descriptors.proofs.Noting.{indexed_agrees}
use Rattle.generations_rise.specs.Columns.{GenerationsIndexed, GenerationsTaken}
use Rattle.generations_rise.proofs.Notes.{firsts_noted}
use Rattle.ids_unique.proofs.Notes.{firsts_between}
use Rattle.splits.specs.Columns.{HalfIndexed, HalfNoted}
use Rattle.meta_never_goes_back.specs.Columns.{MetaIndexed, MetaNoted}
use Rattle.splits.proofs.Openings.{half_agrees}
use Rattle.meta_never_goes_back.proofs.Naming as naming
use Rattle.intake.specs.Words.{Indexed, Noted}

-- ---- what is kept

-- two work areas have the same words from one place to another
record SameIn (low high : ℕ) (work work' : List ℕ) : Type 0 where
  word : (j : ℕ) → low ≤ j → j < high → get_or work' j 0 ≡ get_or work j 0

same_column : {low high base cap : ℕ} {work work' : List ℕ} → SameIn low high work work' → low ≤ base → base + cap ≤ high → Same base cap work work'
same_column {base = base} s l m = record { word = λ k n. s.word (base + k) (omega arith) (omega arith) }

module _ {cap : ℕ} {h : History} {work work' : List ℕ} where
  firsts_kept : SameIn (9 * cap) (11 * cap) work work' → FirstsIndexed cap h work → FirstsIndexed cap h work'
  firsts_kept s i = chained_agrees (same_column s (omega arith) (omega arith)) (same_column s (omega arith) (omega arith)) i

  generations_kept : SameIn (11 * cap) (14 * cap) work work' → GenerationsIndexed cap h work → GenerationsIndexed cap h work'
  generations_kept s i = record {
    keys = chained_agrees (same_column s (omega arith) (omega arith)) (same_column s (omega arith) (omega arith)) i.keys;
    written = column_agrees (same_column s (omega arith) (omega arith)) i.written;
  }

  ids_kept : SameIn (14 * cap) (16 * cap) work work' → IdsIndexed cap h work → IdsIndexed cap h work'
  ids_kept s i = record {
    links = column_agrees (same_column s (omega arith) (omega arith)) i.links;
    lasts = column_agrees (same_column s (omega arith) (omega arith)) i.lasts;
  }

  owners_kept : SameIn (16 * cap) (22 * cap) work work' → OwnersIndexed cap h work → OwnersIndexed cap h work'
  owners_kept s i = record {
    held = chained_agrees (same_column s (omega arith) (omega arith)) (same_column s (omega arith) (omega arith)) i.held;
    nodes = chained_agrees (same_column s (omega arith) (omega arith)) (same_column s (omega arith) (omega arith)) i.nodes;
    newly = column_agrees (same_column s (omega arith) (omega arith)) i.newly;
    ended = column_agrees (same_column s (omega arith) (omega arith)) i.ended;
  }

  descriptors_kept : SameIn 0 (9 * cap) work work' → DescriptorsIndexed cap h work → DescriptorsIndexed cap h work'
  descriptors_kept s i = indexed_agrees (λ j l. s.word j (omega arith) l) i

  -- the names' column lies between the right half's
  half_kept : SameIn (22 * cap) (27 * cap) work work' → SameIn (28 * cap) (32 * cap) work work' → HalfIndexed cap h work → HalfIndexed cap h work'
  half_kept s t i = half_agrees s.word t.word i

  meta_kept : SameIn (27 * cap) (28 * cap) work work' → MetaIndexed cap h work → MetaIndexed cap h work'
  meta_kept s i = naming.indexed_agrees (same_column s (omega arith) (omega arith)) i

-- what a note asks still holds after another has written
pub bounds_kept : {log work work' : List ℕ} {count cap : ℕ} → length work' ≡ length work → Bounds log work count cap → Bounds log work' count cap
bounds_kept e b =
    let m = b.work_holds in
    record { log_holds = b.log_holds; work_holds = omega arith; within = b.within; positive = b.positive; small = b.small }

-- ---- the notes, one after the other

module _ {cap n : ℕ} {h : History} {x : TraceRecord} {work₀ work₁ work₂ work₃ work₄ work₅ work₆ : List ℕ} (size : length h ≡ n) (room : n < cap)
    (f : HalfNoted cap h x work₀ work₁) (m : MetaNoted cap h x work₁ work₂) (a : IdsNoted cap h x work₂ work₃)
    (g : GenerationsTaken cap h x work₃ work₄) (b : OwnersNoted cap h x work₄ work₅) (len : length work₆ ≡ length work₅)
    (others : (j : ℕ) → 9 * cap ≤ j → get_or work₆ j 0 ≡ get_or work₅ j 0)
    (indexed : DescriptorsIndexed cap h work₅ → DescriptorsIndexed cap (x ∷ h) work₆) where
  -- below the right half's columns nothing is changed by its note and the names'; from there on nothing by those after them
  before : (j : ℕ) → j < 22 * cap → get_or work₂ j 0 ≡ get_or work₀ j 0
  before j l = m.others j (λ e. omega arith) ∙ f.below j (omega arith)

  after : (j : ℕ) → 22 * cap ≤ j → get_or work₆ j 0 ≡ get_or work₂ j 0
  after j l = others j (omega arith) ∙ b.above j (omega arith) ∙ g.above j (omega arith) ∙ a.above j (omega arith)

  firsts_before : Indexed cap h work₀ → FirstsIndexed cap h work₂
  firsts_before i = firsts_kept (record { word = λ j l k. before j (omega arith) }) i.firsts

  descriptors_before : Indexed cap h work₀ → DescriptorsIndexed cap h work₃
  descriptors_before i = descriptors_kept (record { word = λ j l k. a.below j (omega arith) ∙ before j (omega arith) }) i.descriptors

  half_noted : Indexed cap h work₀ → HalfIndexed cap (x ∷ h) work₁
  half_noted i = f.indexed i.owners i.half

  meta_noted : Indexed cap h work₀ → MetaIndexed cap (x ∷ h) work₂
  meta_noted i = m.indexed (meta_kept (record { word = λ j l k. f.names j (omega arith) (omega arith) }) i.meta)

  ids_noted : Indexed cap h work₀ → IdsIndexed cap (x ∷ h) work₃
  ids_noted i = a.ids (λ k. firsts_before i) (ids_kept (record { word = λ j l k. before j (omega arith) }) i.ids)

  generations_noted : Indexed cap h work₀ → GenerationsIndexed cap (x ∷ h) work₄
  generations_noted i =
      g.generations (λ k. (firsts_between a k (firsts_before i), descriptors_before i))
      (generations_kept (record { word = λ j l k. a.between j (omega arith) (omega arith) ∙ before j (omega arith) }) i.generations)

  owners_noted : Indexed cap h work₀ → OwnersIndexed cap (x ∷ h) work₅
  owners_noted i =
      b.indexed (owners_kept (record { word = λ j l k. g.above j (omega arith) ∙ a.above j (omega arith) ∙ before j (omega arith) }) i.owners)

  descriptors_noted : Indexed cap h work₀ → DescriptorsIndexed cap (x ∷ h) work₆
  descriptors_noted i =
      indexed (descriptors_kept (record { word = λ j l k. b.below j (omega arith) ∙ g.below j (omega arith) }) (descriptors_before i))

  pub noted_all : Noted cap h x work₀ work₆
  noted_all = record {
    len = len ∙ b.len ∙ g.len ∙ a.len ∙ m.len ∙ f.len;
    indexed = λ i. record {
      descriptors = descriptors_noted i;
      firsts = firsts_kept (record { word = λ j l k. others j (omega arith) ∙ b.below j (omega arith) })
          (firsts_noted (λ k. firsts_between a k (firsts_before i)) (λ k. a.firsts k (firsts_before i)) g (descriptors_before i));
      generations = generations_kept (record { word = λ j l k. others j (omega arith) ∙ b.below j (omega arith) }) (generations_noted i);
      ids = ids_kept (record { word = λ j l k. others j (omega arith) ∙ b.below j (omega arith) ∙ g.above j (omega arith) }) (ids_noted i);
      owners = owners_kept (record { word = λ j l k. others j (omega arith) }) (owners_noted i);
      half = half_kept
          (record { word = λ j l k. after j (omega arith) ∙ m.others j (λ e. omega arith) })
          (record { word = λ j l k. after j (omega arith) ∙ m.others j (λ e. omega arith) })
          (half_noted i);
      meta = meta_kept (record { word = λ j l k. after j (omega arith) }) (meta_noted i);
    };
  }
