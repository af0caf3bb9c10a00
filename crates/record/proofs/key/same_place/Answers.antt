-- Two lists of another length are no places; of two places the four words decide.
use mathlib.Core.Path.{◌≡◌}
use mathlib.Core.Bool.{◌&&◌}
use mathlib.Core.List.{List}
use Prim.Native.Nat.{ℕ}
use lib.Dec.{eqb}
use lib.ListN.{length}
use borrow.Author.Tests.{eq-eqb, ne_eqb}
use Rattle.record.specs.Keys.{list_eqb}
use Rattle.record.specs.Limits.{key_size}
use Rattle.record.specs.Numbers.{number64}
use Rattle.record.proofs.Numbers.{Bytes}
use Rattle.record.proofs.Keys.{places_same}
use Rattle.record.proofs.key.same_place.Goals as goal

-- eight words that are those of two places
of_places : (xs ys : List ℕ) {p q r s t u v w : ℕ} → length xs ≡ key_size → length ys ≡ key_size → Bytes xs → Bytes ys
    → p ≡ number64 0 xs → q ≡ number64 0 ys → r ≡ number64 8 xs → s ≡ number64 8 ys
    → t ≡ number64 16 xs → u ≡ number64 16 ys → v ≡ number64 24 xs → w ≡ number64 24 ys
    → eqb p q && eqb r s && eqb t u && eqb v w ≡ eqb (length xs) key_size && eqb (length ys) key_size && list_eqb xs ys
of_places xs ys l m b c e f g h i j k n =
    rw (e, f, g, h, i, j, k, n, eq-eqb (length xs) key_size l, eq-eqb (length ys) key_size m) (places_same xs ys l m b c)

pub returns-then-a-ne-KEY_SIZE : goal.returns-then-a-ne-KEY_SIZE
returns-then-a-ne-KEY_SIZE c = let a = c.args in rw (ne_eqb (length a.a.now) key_size c.if-a-ne-KEY_SIZE.true)

pub returns-then-b-ne-KEY_SIZE : goal.returns-then-b-ne-KEY_SIZE
returns-then-b-ne-KEY_SIZE c =
    let a = c.args in
    rw (eq-eqb (length a.a.now) key_size c.if-a-ne-KEY_SIZE.false, ne_eqb (length a.b.now) key_size c.if-b-ne-KEY_SIZE.true)

pub returns : goal.returns
returns c =
    let a = c.args in
    of_places a.a.now a.b.now c.if-a-ne-KEY_SIZE.false c.if-b-ne-KEY_SIZE.false
    (record { below = λ k. (c.type_inv.a k).fits })
    (record { below = λ k. (c.type_inv.b k).fits })
    c.u64_at.ensures c.u64_at-2.ensures c.u64_at-3.ensures c.u64_at-4.ensures
    c.u64_at-5.ensures c.u64_at-6.ensures c.u64_at-7.ensures c.u64_at-8.ensures
