-- One more record in the columns of `Descriptors`: the chains that it belongs to, and the counts. Assumes nothing.
use mathlib.Core.Path.{◌≡◌, refl, sym, ap, ◌∙◌}
use mathlib.Core.Bool.{Bool, true, false, cond, not, ◌&&◌, ◌||◌}
use mathlib.Core.List.{List, [], ◌∷◌}
use Rattle.std.specs.Prelude.{Option, None, Some}
use Rattle.std.specs.Bool.{then_some}
use mathlib.Core.Logic.{inl, inr}
use Prim.Native.Nat.{ℕ, suc, ◌+◌, ◌-◌, ◌*◌, ◌/◌, ◌%◌, ◌≤◌, ◌<◌}
use native.Mathlib.Omega.{arith}
use lib.Dec.{eqb, leb}
use lib.ListN.{length, get_or}
use borrow.Author.Tests.{eq-eqb, ne_eqb}
use Rattle.record.specs.Named.{Node}
use Rattle.record.specs.Records.{TraceRecord}
use Rattle.record.proofs.Booleans.{never}
use Rattle.rules.specs.History.{History, Tells, is_kind, is_some, when, given, holds, any_of, latest_of, add_some, add_first, told, firsts}
use Rattle.rules.specs.Descriptors.{Entry, Role, puts, states, neither, held_by, role_of, entry_at, put_by, stated_by, tells_put, tells_stated, same_place, standing, stated, statements, is_empty, first_at_generation_in, first_at_generation}
use Rattle.rules.proofs.Placed.{any_earliest, any_latest}
use Rattle.rules.proofs.Roles.{puts_entry, states_entry, put_generation}
use Rattle.rules.proofs.Standing.{standing_cons, stated_cons}
use Rattle.history.specs.Places.{applied_heads, applied_links, standing_heads, standing_links, stated_heads, stated_links, generation_heads, generation_links, counts}
use Rattle.history.specs.Columns.{Column, cell_of, Chained, Put, clamp}
use Rattle.history.specs.declared.walk.Taken.{Taken}
use Rattle.history.proofs.Cells.{cell_new, Same, put_apart, column_agrees, column_put, Zeros, column_clear}
use Rattle.history.proofs.Chains.{chained_agrees, chained_clear, clamped}
use Rattle.history.proofs.Entries.{Below, length_if, word_if, same_if, chain_if, step_if}
use Rattle.history.proofs.Mixing.{one_below, two_below}
use Rattle.history.specs.Buckets.{bucket_by, bucket_by_two}
use Rattle.descriptors.specs.declared.note.Told.{Told}
use Rattle.descriptors.specs.declared.note.Told.TheVariants.{Puts, States, Neither}
use Rattle.descriptors.specs.Columns.{new_value, first_value, same_generation, applied_at, applied_bucket, standing_bucket, stated_bucket, generation_bucket, not_below, is_rising, counts_of, counts_after, DescriptorsIndexed, put, AllEntered, puts_value, states_value, added, adds_first, adds_rising, Telling, counts_next, own_columns}
use Rattle.descriptors.specs.Answers.{at_place, greatest_up_to}
use Rattle.descriptors.proofs.Rising.{counts_by, counts_bound, top_reaches}
use Rattle.descriptors.proofs.Roles.{new_puts, first_new}
use Rattle.descriptors.proofs.Judged.{put_is_some, place_is}

-- ---- what a record is told to be

module _ (x : TraceRecord) (h : History) (i : ℕ) (role : role_of x h ≡ puts i) where
  tells_put_lem : tells_put x h ≡ Some (entry_at i x h)
  tells_put_lem = rw role

  tells_no : tells_stated x h ≡ None
  tells_no = rw role

  new_by : new_value x h ≡ cond (any_of (same_place (entry_at i x h)) (standing h)) None (Some (entry_at i x h))
  unfolding new_value
  new_by = rw tells_put_lem

  first_by : any_of (same_place (entry_at i x h)) (standing h) ≡ false
      → first_value x h ≡ cond (any_of (same_generation (entry_at i x h)) (standing h)) None (Some (entry_at i x h))
  unfolding first_value
  first_by f = rw (new_by, f)

  new_no : any_of (same_place (entry_at i x h)) (standing h) ≡ true → new_value x h ≡ None
  new_no f = new_by ∙ rw f

  new_yes : any_of (same_place (entry_at i x h)) (standing h) ≡ false → new_value x h ≡ Some (entry_at i x h)
  new_yes f = new_by ∙ rw f

  first_no : any_of (same_place (entry_at i x h)) (standing h) ≡ true → first_value x h ≡ None
  unfolding first_value
  first_no f = rw (new_by, f)

  rising_no : any_of (same_place (entry_at i x h)) (standing h) ≡ true → is_rising x h ≡ false
  unfolding is_rising
  rising_no f = rw (new_no f)

  rising_by : any_of (same_place (entry_at i x h)) (standing h) ≡ false → is_rising x h ≡ not (any_of (not_below (entry_at i x h)) (standing h))
  unfolding is_rising
  rising_by f = rw (new_yes f)

  -- a put at a place that is taken
  pub told_taken : {t : Told} → t ≡ Puts None
      → any_of (same_place (entry_at i x h)) (standing h) ≡ true → Telling x h t
  told_taken e f = rw e (record {
    puts = sym (ap is_some tells_put_lem);
    states = sym (ap is_some tells_no);
    stands = sym (ap is_some (new_no f));
    first = sym (ap is_some (first_no f));
    rises = sym (rising_no f);
  })

  not_some : (b : Bool) → is_some (cond b None (Some (entry_at i x h))) ≡ not b
  not_some true = refl
  not_some false = refl

  -- and at one that is free
  pub told_free : {t : Told} {b r : Bool} → t ≡ Puts (Some (record { first = b; rises = r }))
      → any_of (same_place (entry_at i x h)) (standing h) ≡ false → b ≡ not (any_of (same_generation (entry_at i x h)) (standing h))
      → r ≡ not (any_of (not_below (entry_at i x h)) (standing h)) → Telling x h t
  told_free e f b r = rw e (record {
    puts = sym (ap is_some tells_put_lem);
    states = sym (ap is_some tells_no);
    stands = sym (ap is_some (new_yes f));
    first = b ∙ sym (ap is_some (first_by f) ∙ not_some (any_of (same_generation (entry_at i x h)) (standing h)));
    rises = r ∙ sym (rising_by f);
  })

-- whether a first value of the generation was found
pub first_free : (x : TraceRecord) (h : History) (i : ℕ) {range generation : ℕ} (o : Option Taken) → range ≡ x.a → generation ≡ x.d
    → put o ≡ first_at_generation range generation h → is_some o ≡ any_of (same_generation (entry_at i x h)) (standing h)
unfolding first_at_generation first_at_generation_in held_by
first_free x h i o a d e = put_is_some o e ∙ rw (a, d) (sym (any_earliest (λ v. eqb v.range x.a && eqb v.held.generation x.d) (standing h)))

-- whether the greatest of the range is below
pub top_below : (x : TraceRecord) (h : History) (i : ℕ) {range : ℕ} {o : Option Entry} → range ≡ x.a → o ≡ greatest_up_to range None None (standing h)
    → holds (λ v. leb i v.index) o ≡ any_of (not_below (entry_at i x h)) (standing h)
top_below x h i a e = rw (e, a) (top_reaches (entry_at i x h) (standing h))

module _ (x : TraceRecord) (h : History) where
  pub told_states : (i : ℕ) → role_of x h ≡ states i → Telling x h States
  unfolding new_value first_value is_rising
  told_states i role = record { puts = rw role; states = rw role; stands = rw role; first = rw role; rises = rw role }

  pub told_neither : role_of x h ≡ neither → Telling x h Neither
  unfolding new_value first_value is_rising
  told_neither role = record { puts = rw role; states = rw role; stands = rw role; first = rw role; rises = rw role }

-- ---- the buckets of a record, by what it is told to be

module _ (x : TraceRecord) (h : History) {v : Entry} where
  put_range : tells_put x h ≡ Some v → v.range ≡ x.a
  put_range e = ap (λ (u : Entry). u.range) (puts_entry x h e)

  stated_range : tells_stated x h ≡ Some v → v.range ≡ x.a
  stated_range e = ap (λ (u : Entry). u.range) (states_entry x h e)

when_go : (o : Option Entry) (f : Entry → ℕ) (b : ℕ) → ((v : Entry) → o ≡ Some v → f v ≡ b) → given (λ v. Some (f v)) o ≡ then_some (is_some o) b
when_go None f b e = refl
when_go (Some v) f b e = ap Some (e v refl)

module _ (cap : ℕ) (x : TraceRecord) (h : History) where
  standing_when : standing_bucket cap x h ≡ then_some (is_some (new_value x h)) (bucket_by cap x.a)
  unfolding standing_bucket
  standing_when =
      when_go (new_value x h) (λ v. bucket_by cap v.range) (bucket_by cap x.a)
      (λ v e. ap (bucket_by cap) (put_range x h (new_puts x h e)))

  stated_when : stated_bucket cap x h ≡ then_some (is_some (tells_stated x h)) (bucket_by cap x.a)
  unfolding stated_bucket
  stated_when =
      when_go (tells_stated x h) (λ v. bucket_by cap v.range) (bucket_by cap x.a)
      (λ v e. ap (bucket_by cap) (stated_range x h e))

  generation_when : generation_bucket cap x h ≡ then_some (is_some (first_value x h)) (bucket_by_two cap x.a x.d)
  unfolding generation_bucket
  generation_when =
      when_go (first_value x h) (λ v. bucket_by_two cap v.range v.held.generation) (bucket_by_two cap x.a x.d)
      (λ v e.
      let p : tells_put x h ≡ Some v = new_puts x h (first_new x h e) in
      let a : v.range ≡ x.a = put_range x h p in
      let d : v.held.generation ≡ x.d = put_generation x h p in
      rw (a, d))

-- ---- the counts

one_go : (L : ℕ) (b : Bool) → 2 * L + 1 ≡ (2 * L + cond b 0 1) / 2 * 2 + 1
one_go L true = omega arith
one_go L false = omega arith

put_go : (L : ℕ) (p : Entry) (vs : List Entry) (b : Bool) → any_of (same_place p) vs ≡ b
    → 2 * L + cond (eqb (length (cond b vs (p ∷ vs))) 0) 0 1 ≡ (2 * L + cond (eqb (length vs) 0) 0 1) / 2 * 2 + 1
unfolding any_of
put_go L p [] true e = never e refl
put_go L p (v ∷ vs) true e = rw (ne_eqb (suc (length vs)) 0 (λ z. omega arith)) (one_go L false)
put_go L p vs false e = rw (ne_eqb (suc (length vs)) 0 (λ z. omega arith)) (one_go L (eqb (length vs) 0))

counts_go : (role : Role) (x : TraceRecord) (h : History) (ss vs : List Entry)
    → 2 * length (add_some (stated_by role x h) ss) + cond (eqb (length (add_first same_place (put_by role x h) vs)) 0) 0 1
    ≡ counts_next (2 * length ss + cond (eqb (length vs) 0) 0 1) (is_some (put_by role x h)) (is_some (stated_by role x h))
counts_go (puts i) x h ss vs = put_go (length ss) (entry_at i x h) vs (any_of (same_place (entry_at i x h)) vs) refl
counts_go (states i) x h ss vs = omega arith
counts_go neither x h ss vs = refl

counts_more : (x : TraceRecord) (h : History) → counts_of (x ∷ h) ≡ counts_next (counts_of h) (is_some (tells_put x h)) (is_some (tells_stated x h))
counts_more x h =
    counts_by (x ∷ h) ∙ rw (stated_cons x h, standing_cons x h) (counts_go (role_of x h) x h (stated h) (standing h))
    ∙ ap (λ (n : ℕ). counts_next n (is_some (tells_put x h)) (is_some (tells_stated x h))) (sym (counts_by h))

pub counts_none : (h : History) (n : ℕ) → length h ≡ n → n ≡ 0 → 0 ≡ counts_of h
unfolding counts_of statements is_empty stated standing told firsts
counts_none [] n e z = refl
counts_none (x ∷ h) n e z = absurd (omega (arith, e))

-- a word without its mark
word_rest : (c : ℕ) (b : Bool) → c ≤ 8193 → (c + cond b 16384 0) % 16384 ≡ c
word_rest c true l = omega arith
word_rest c false l = omega arith

-- a word is no greater than the mark with the counts of 4096 statements and a value
word_bound : (c : ℕ) (b : Bool) → c ≤ 8193 → c + cond b 16384 0 ≤ 24577
word_bound c true l = omega arith
word_bound c false l = omega arith

pub counts_some : {cap : ℕ} {work : List ℕ} (h : History) (n : ℕ) {r : ℕ} → length h ≡ n → (n ≡ 0 → ⊥) → n ≤ cap → cap ≤ 4096 → DescriptorsIndexed cap h work
    → r ≡ clamp (get_or work (counts * cap + (n - 1)) 0) 24577 → r % 16384 ≡ counts_of h
counts_some [] n e z l m k q = absurd (z (omega (arith, e)))
counts_some {cap} {work} (x ∷ h) n e z l m k q =
    let p : length h ≡ n - 1 = omega (arith, e) in
    let w : counts_of (x ∷ h) ≤ 8193 = omega (arith, counts_bound (x ∷ h), e) in
    ap (λ (v : ℕ). v % 16384)
    (q ∙ clamped (get_or work (counts * cap + (n - 1)) 0) (counts_after x h) 24577
    (k.counts.word (n - 1) (omega arith) ∙ ap (cell_of counts_after (x ∷ h)) (sym p) ∙ cell_new counts_after x h)
    (word_bound (counts_of (x ∷ h)) (is_rising x h) w))
    ∙ word_rest (counts_of (x ∷ h)) (is_rising x h) w

half_go : (L : ℕ) (b : Bool) → (2 * L + cond b 0 1) / 2 ≡ L
half_go L true = omega arith
half_go L false = omega arith

rest_go : (L : ℕ) (b : Bool) → eqb ((2 * L + cond b 0 1) % 2) 0 ≡ b
rest_go L true = eq-eqb ((2 * L + 0) % 2) 0 (omega arith)
rest_go L false = ne_eqb ((2 * L + 1) % 2) 0 (λ e. omega arith)

pub counts_statements : (h : History) {r : ℕ} → r ≡ counts_of h → r / 2 ≡ statements h
unfolding statements
counts_statements h e = rw (e, counts_by h) (half_go (length (stated h)) (eqb (length (standing h)) 0))

pub counts_empty : (h : History) {r : ℕ} → r ≡ counts_of h → eqb (r % 2) 0 ≡ is_empty h
unfolding is_empty
counts_empty h e = rw (e, counts_by h) (rest_go (length (stated h)) (eqb (length (standing h)) 0))

-- ---- the chains

pub some_below : {cap b : ℕ} (yes : Bool) → b < cap → Below cap (then_some yes b)
some_below true l = record { is = l }
some_below false l = record { is = tt }

when_below : {cap b : ℕ} (yes : Bool) → b < cap → Below cap (when yes b)
when_below true l = record { is = l }
when_below false l = record { is = tt }

applied_below : (cap : ℕ) (x : TraceRecord) → 0 < cap → (n : Node) → Below cap (applied_at cap x n)
applied_below cap x z None = record { is = tt }
applied_below cap x z (Some n) = when_below (is_kind 1 x || is_kind 3 x || is_kind 4 x) (two_below n.0 x.a z)

-- ---- the columns with the record

module _ {work work' w4 : List ℕ} {count cap after : ℕ} {x : TraceRecord} {t : Told} (l : count < cap) (z : 0 < cap) (s : cap ≤ 4096)
    (a : AllEntered work w4 count cap x t) (p : Put w4 work' (counts * cap + count) after) where
  by_node : Below cap (applied_at cap x x.node)
  by_node = applied_below cap x z x.node

  by_range : (t : Bool) → Below cap (then_some t (bucket_by cap x.a))
  by_range t = some_below t (one_below x.a z)

  by_both : (t : Bool) → Below cap (then_some t (bucket_by_two cap x.a x.d))
  by_both t = some_below t (two_below x.a x.d z)

  pub words : (j : ℕ) → own_columns * cap ≤ j → get_or work' j 0 ≡ get_or work j 0
  words j h =
      p.others j (λ z. omega arith)
      ∙ word_if a.entered_by_generation l (by_both (adds_first t)) j (λ z. omega arith) (inr (omega arith))
      ∙ word_if a.entered_by_statement l (by_range (states_value t)) j (λ z. omega arith) (inr (omega arith))
      ∙ word_if a.entered_by_range l (by_range (is_some (added t))) j (λ z. omega arith) (inr (omega arith))
      ∙ word_if a.entered_by_node l by_node j (λ z. omega arith) (inr (omega arith))

  pub size : length work' ≡ length work
  size = p.len ∙ length_if _ a.entered_by_generation ∙ length_if _ a.entered_by_statement ∙ length_if _ a.entered_by_range ∙ length_if _ a.entered_by_node

  put_chain : {f : Tells ℕ} {h : History} (heads links : ℕ) → heads + cap ≤ counts * cap → links + cap ≤ counts * cap → Chained f heads links cap h w4
      → Chained f heads links cap h work'
  put_chain heads links u v c = chained_agrees (put_apart p (λ k w z. omega arith)) (put_apart p (λ k w z. omega arith)) c

  module _ {old : ℕ} (ce : after ≡ counts_next old (puts_value t) (states_value t) + cond (adds_rising t) 16384 0)
      (h : History) (n : length h ≡ count) (oe : old ≡ counts_of h) (k : Telling x h t) (d : DescriptorsIndexed cap h work) where
    counts_at : after ≡ counts_after x h
    counts_at = ce ∙ rw (oe, k.puts, k.states, k.rises) (ap (λ (c : ℕ). c + cond (is_rising x h) 16384 0) (sym (counts_more x h)))

    entered_by_node : Chained (applied_bucket cap) (applied_heads * cap) (applied_links * cap) cap (x ∷ h) work'
    unfolding applied_bucket
    entered_by_node =
        put_chain (applied_heads * cap) (applied_links * cap) (omega arith) (omega arith)
        (chain_if a.entered_by_generation l (by_both _) (applied_heads * cap) (applied_links * cap) (omega arith) (omega arith) (inl (omega arith))
        (chain_if a.entered_by_statement l (by_range _) (applied_heads * cap) (applied_links * cap) (omega arith) (omega arith) (inl (omega arith))
        (chain_if a.entered_by_range l (by_range _) (applied_heads * cap) (applied_links * cap) (omega arith) (omega arith) (inl (omega arith))
        (step_if _ refl n l by_node (omega arith) a.entered_by_node d.applied))))

    entered_by_range : Chained (standing_bucket cap) (standing_heads * cap) (standing_links * cap) cap (x ∷ h) work'
    entered_by_range =
        put_chain (standing_heads * cap) (standing_links * cap) (omega arith) (omega arith)
        (chain_if a.entered_by_generation l (by_both _) (standing_heads * cap) (standing_links * cap) (omega arith) (omega arith) (inl (omega arith))
        (chain_if a.entered_by_statement l (by_range _) (standing_heads * cap) (standing_links * cap) (omega arith) (omega arith) (inl (omega arith))
        (step_if _ (standing_when cap x h ∙ rw k.stands) n l (by_range _) (omega arith) a.entered_by_range
        (chain_if a.entered_by_node l by_node (standing_heads * cap) (standing_links * cap) (omega arith) (omega arith) (inr (omega arith)) d.standing))))

    entered_by_statement : Chained (stated_bucket cap) (stated_heads * cap) (stated_links * cap) cap (x ∷ h) work'
    entered_by_statement =
        put_chain (stated_heads * cap) (stated_links * cap) (omega arith) (omega arith)
        (chain_if a.entered_by_generation l (by_both _) (stated_heads * cap) (stated_links * cap) (omega arith) (omega arith) (inl (omega arith))
        (step_if _ (stated_when cap x h ∙ rw k.states) n l (by_range _) (omega arith) a.entered_by_statement
        (chain_if a.entered_by_range l (by_range _) (stated_heads * cap) (stated_links * cap) (omega arith) (omega arith) (inr (omega arith))
        (chain_if a.entered_by_node l by_node (stated_heads * cap) (stated_links * cap) (omega arith) (omega arith) (inr (omega arith)) d.stated))))

    entered_by_generation : Chained (generation_bucket cap) (generation_heads * cap) (generation_links * cap) cap (x ∷ h) work'
    entered_by_generation =
        put_chain (generation_heads * cap) (generation_links * cap) (omega arith) (omega arith)
        (step_if _ (generation_when cap x h ∙ rw k.first) n l (by_both _) (omega arith) a.entered_by_generation
        (chain_if a.entered_by_statement l (by_range _) (generation_heads * cap) (generation_links * cap) (omega arith) (omega arith) (inr (omega arith))
        (chain_if a.entered_by_range l (by_range _) (generation_heads * cap) (generation_links * cap) (omega arith) (omega arith) (inr (omega arith))
        (chain_if a.entered_by_node l by_node (generation_heads * cap) (generation_links * cap) (omega arith) (omega arith)
        (inr (omega arith)) d.generation))))

    by_counts : Column (cell_of counts_after (x ∷ h)) (counts * cap) cap work'
    by_counts =
        column_put counts_after h x
        (column_agrees (same_if a.entered_by_generation l (by_both _) (counts * cap) (omega arith) (inr (omega arith)))
        (column_agrees (same_if a.entered_by_statement l (by_range _) (counts * cap) (omega arith) (inr (omega arith)))
        (column_agrees (same_if a.entered_by_range l (by_range _) (counts * cap) (omega arith) (inr (omega arith)))
        (column_agrees (same_if a.entered_by_node l by_node (counts * cap) (omega arith) (inr (omega arith))) d.counts))))
        n refl counts_at p

    pub noted : DescriptorsIndexed cap (x ∷ h) work'
    noted = record { applied = entered_by_node; standing = entered_by_range; stated = entered_by_statement; generation = entered_by_generation; counts = by_counts }

-- whether a value was found at the place of a put
pub place_is_taken : (x : TraceRecord) (h : History) (i : ℕ) {range : ℕ} (o : Option Taken) → range ≡ x.a
    → put o ≡ latest_of (at_place range i) (standing h) → is_some o ≡ any_of (same_place (entry_at i x h)) (standing h)
place_is_taken x h i o a e = put_is_some o (place_is x h i a e) ∙ sym (any_latest (same_place (entry_at i x h)) (standing h))

-- ---- the columns at the opening, and where other columns are written

pub indexed_clear : {cap : ℕ} {work : List ℕ} → Zeros work → DescriptorsIndexed cap [] work
indexed_clear z = record {
  applied = chained_clear z;
  standing = chained_clear z;
  stated = chained_clear z;
  generation = chained_clear z;
  counts = column_clear counts_after z;
}

module _ {cap : ℕ} {work work' : List ℕ} (s : (j : ℕ) → j < own_columns * cap → get_or work' j 0 ≡ get_or work j 0) where
  own : (base : ℕ) → base + cap ≤ own_columns * cap → Same base cap work work'
  own base l = record { word = λ k w. s (base + k) (omega arith) }

  own_chain : {f : Tells ℕ} {h : History} (heads links : ℕ) → heads + cap ≤ own_columns * cap → links + cap ≤ own_columns * cap
      → Chained f heads links cap h work → Chained f heads links cap h work'
  own_chain heads links l m c = chained_agrees (own heads l) (own links m) c

  pub indexed_agrees : {h : History} → DescriptorsIndexed cap h work → DescriptorsIndexed cap h work'
  indexed_agrees d = record {
    applied = own_chain (applied_heads * cap) (applied_links * cap) (omega arith) (omega arith) d.applied;
    standing = own_chain (standing_heads * cap) (standing_links * cap) (omega arith) (omega arith) d.standing;
    stated = own_chain (stated_heads * cap) (stated_links * cap) (omega arith) (omega arith) d.stated;
    generation = own_chain (generation_heads * cap) (generation_links * cap) (omega arith) (omega arith) d.generation;
    counts = column_agrees (own (counts * cap) (omega arith)) d.counts;
  }
