-- Numbers stored one after the other, for any width: they read back, what is read is stored back, and a number written to its place is
-- stored there. Assumes nothing.
use mathlib.Core.Path.{◌≡◌, refl, sym, ap, ◌∙◌}
use mathlib.Core.Bool.{Bool, true, false, cond}
use mathlib.Core.List.{List, ◌++◌}
use Prim.Native.Nat.{ℕ, zero, suc, ◌+◌, ◌-◌, ◌*◌, ◌^◌, ◌≤◌, ◌<◌}
use native.Mathlib.Omega.{arith}
use native.Mathlib.Nat.{mul-suc, mul-zero, mul-le-mul_left}
use native.Mathlib.Decide.{dec_lt}
use lib.ListN.{length, take, drop, replicate, length-append, length-drop, replicate-append-replicate}
use lib.Seq.{sets, take-append-le, drop-append-le, drop_at, take_all, take-add}
use lib.Dec.{eqb}
use borrow.Author.Tests.{eq-eqb, ne_eqb}
use Rattle.record.specs.Numbers.{part, little_endian, bytes_of}
use Rattle.record.proofs.Lists.{sets_left, sets_end}
use Rattle.record.proofs.Numbers.{Bytes, length_part, bytes_part, number_below}
use Rattle.record.proofs.Written.{bytes_length, bytes_read, read_bytes, zero_bytes}
use Rattle.tally.specs.Stored.{stored, number_in}

-- ---- numbers one after the other

module _ (w : ℕ) where
  pub stored_length : (f : ℕ → ℕ) (n : ℕ) → length (stored w f n) ≡ w * n
  unfolding stored
  stored_length f zero = let z = mul-zero w in omega arith
  stored_length f (suc n) =
      let e = length-append (stored w f n) (bytes_of w (f n)) in
      let i = stored_length f n in
      let b = bytes_length w (f n) in
      let m = mul-suc w n in
      omega arith

  -- the same numbers are stored as the same bytes
  pub stored_same : (f g : ℕ → ℕ) (n : ℕ) → ((i : ℕ) → i < n → f i ≡ g i) → stored w f n ≡ stored w g n
  unfolding stored
  stored_same f g zero h = refl
  stored_same f g (suc n) h =
      let i : stored w f n ≡ stored w g n = stored_same f g n (λ i l. h i (omega arith)) in
      let e : f n ≡ g n = h n (omega arith) in
      λ k. i k ++ bytes_of w (e k)

  -- a place among n ends before the n-th begins
  stride : (p n : ℕ) → p < n → w * p + w ≤ w * n
  stride p n l =
      let a = mul-suc w p in
      let b : w * suc p ≤ w * n = mul-le-mul_left w l in
      omega arith

  -- the bytes of number p
  part_stored : (f : ℕ → ℕ) (p n : ℕ) → p < n → part (w * p) (w * p + w) (stored w f n) ≡ bytes_of w (f p)
  unfolding stored
  part_stored f p zero l = absurd (omega arith)
  part_stored f p (suc n) l = elim (dec_lt p n) [
    | yes h ↦ inside h (part_stored f p n h)
    | no h ↦ last (omega arith)
  ]
    where
      width : (w * p + w) - w * p ≡ w
      width = omega arith

      inside : p < n → part (w * p) (w * p + w) (stored w f n) ≡ bytes_of w (f p)
          → part (w * p) (w * p + w) (stored w f n ++ bytes_of w (f n)) ≡ bytes_of w (f p)
      inside h before =
          let s = stride p n h in
          let e = stored_length f n in
          let d : length (drop (w * p) (stored w f n)) ≡ length (stored w f n) - w * p = length-drop (w * p) (stored w f n) in
          ap (take ((w * p + w) - w * p)) (drop-append-le (w * p) (stored w f n) (bytes_of w (f n)) (omega arith))
          ∙ take-append-le ((w * p + w) - w * p) (drop (w * p) (stored w f n)) (bytes_of w (f n)) (omega arith)
          ∙ before

      last : p ≡ n → part (w * p) (w * p + w) (stored w f n ++ bytes_of w (f n)) ≡ bytes_of w (f p)
      last q =
          let a : length (stored w f n) ≡ w * p = stored_length f n ∙ ap (λ (k : ℕ). w * k) (sym q) in
          ap (λ (k : ℕ). take k (drop (w * p) (stored w f n ++ bytes_of w (f n)))) width
          ∙ ap (take w) (drop_at (stored w f n) (bytes_of w (f n)) (w * p) a)
          ∙ take_all w (bytes_of w (f n)) (let b = bytes_length w (f n) in omega arith)
          ∙ ap (λ (k : ℕ). bytes_of w (f k)) (sym q)

  -- a number that fits reads back
  pub number_stored : (f : ℕ → ℕ) (p n : ℕ) → p < n → f p < 256 ^ w → number_in w (stored w f n) p ≡ f p
  unfolding number_in
  number_stored f p n l h = ap little_endian (part_stored f p n l) ∙ bytes_read w (f p) h

  pub number_fits : (s : List ℕ) (p : ℕ) → Bytes s → number_in w s p < 256 ^ w
  unfolding number_in
  number_fits s p b = number_below w (w * p) s b

  -- bytes are those of the numbers that they hold
  stored_front : (s : List ℕ) (n : ℕ) → Bytes s → w * n ≤ length s → stored w (number_in w s) n ≡ take (w * n) s
  unfolding stored number_in
  stored_front s zero b h = ap (λ (k : ℕ). take k s) (sym (mul-zero w))
  stored_front s (suc n) b h =
      let m = mul-suc w n in
      let q : part (w * n) (w * n + w) s ≡ take w (drop (w * n) s) =
      ap (λ (k : ℕ). take k (drop (w * n) s)) (let z : (w * n + w) - w * n ≡ w = omega arith in z) in
      let l : length (part (w * n) (w * n + w) s) ≡ w = length_part (w * n) (w * n + w) s (omega arith) ∙ omega arith in
      let c : bytes_of w (little_endian (part (w * n) (w * n + w) s)) ≡ part (w * n) (w * n + w) s =
      ap (λ (k : ℕ). bytes_of k (little_endian (part (w * n) (w * n + w) s))) (sym l)
      ∙ read_bytes (part (w * n) (w * n + w) s) (bytes_part (w * n) (w * n + w) s b) in
      ap (λ (t : List ℕ). t ++ bytes_of w (little_endian (part (w * n) (w * n + w) s))) (stored_front s n b (omega arith))
      ∙ ap (λ (t : List ℕ). take (w * n) s ++ t) (c ∙ q)
      ∙ sym (take-add (w * n) w s)
      ∙ ap (λ (k : ℕ). take k s) (sym m)

  pub stored_back : (s : List ℕ) (n : ℕ) → Bytes s → length s ≡ w * n → stored w (number_in w s) n ≡ s
  stored_back s n b e = stored_front s n b (omega arith) ∙ take_all (w * n) s (omega arith)

  -- ---- a number written to its place

  -- the numbers with m at place p
  abbrev pub placed : ℕ → ℕ → (ℕ → ℕ) → ℕ → ℕ
  placed p m f i = cond (eqb i p) m (f i)

  pub write_stored : (f : ℕ → ℕ) (p m n : ℕ) → p < n → sets (stored w f n) (w * p) (bytes_of w m) ≡ stored w (placed p m f) n
  unfolding stored
  write_stored f p m zero l = absurd (omega arith)
  write_stored f p m (suc n) l = elim (dec_lt p n) [
    | yes h ↦ inside h (write_stored f p m n h)
    | no h ↦ last (omega arith)
  ]
    where
      b : length (bytes_of w m) ≡ w
      b = bytes_length w m

      inside : p < n → sets (stored w f n) (w * p) (bytes_of w m) ≡ stored w (placed p m f) n
          → sets (stored w f n ++ bytes_of w (f n)) (w * p) (bytes_of w m) ≡ stored w (placed p m f) n ++ bytes_of w (placed p m f n)
      inside h before =
          let s = stride p n h in
          let e = stored_length f n in
          let a : eqb n p ≡ false = ne_eqb n p (λ q. omega arith) in
          sets_left (stored w f n) (bytes_of w (f n)) (w * p) (bytes_of w m) (omega (arith, b))
          ∙ ap (λ (t : List ℕ). t ++ bytes_of w (f n)) before
          ∙ ap (λ (t : Bool). stored w (placed p m f) n ++ bytes_of w (cond t m (f n))) (sym a)

      last : p ≡ n → sets (stored w f n ++ bytes_of w (f n)) (w * p) (bytes_of w m) ≡ stored w (placed p m f) n ++ bytes_of w (placed p m f n)
      last q =
          let e : length (stored w f n) ≡ w * p = stored_length f n ∙ ap (λ (k : ℕ). w * k) (sym q) in
          let a : eqb n p ≡ true = eq-eqb n p (sym q) in
          let same : stored w f n ≡ stored w (placed p m f) n =
          stored_same f (placed p m f) n (λ i h. let z : eqb i p ≡ false = ne_eqb i p (λ x. omega arith) in sym (ap (λ (t : Bool). cond t m (f i)) z)) in
          sets_end (stored w f n) (bytes_of w (f n)) (bytes_of w m) (w * p) e (bytes_length w (f n) ∙ sym b)
          ∙ ap (λ (t : List ℕ). t ++ bytes_of w m) same
          ∙ ap (λ (t : Bool). stored w (placed p m f) n ++ bytes_of w (cond t m (f n))) (sym a)

  -- ---- zeros

  pub stored_zeros : (n : ℕ) → stored w (λ i. 0) n ≡ replicate (w * n) 0
  unfolding stored
  stored_zeros zero = ap (λ (k : ℕ). replicate k 0) (sym (mul-zero w))
  stored_zeros (suc n) =
      ap (λ (t : List ℕ). t ++ bytes_of w 0) (stored_zeros n)
      ∙ ap (λ (t : List ℕ). replicate (w * n) 0 ++ t) (zero_bytes w)
      ∙ replicate-append-replicate (w * n) w 0
      ∙ ap (λ (k : ℕ). replicate k 0) (sym (mul-suc w n))
