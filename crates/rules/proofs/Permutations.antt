-- Laws of permutations, which are the library's: what a list in another order has, which of its elements pass, and how many there are.
use mathlib.Core.Path.{◌≡◌, refl, sym, ◌∙◌, subst}
use mathlib.Core.Bool.{Bool, true, false, cond}
use mathlib.Core.List.Permᴰ
use mathlib.Core.List.{List, ◌∷◌, Permᴰ}
use lib.ListN.{length}
use Rattle.rules.specs.History.{those}
use Rattle.rules.proofs.Members.{Mem, here, there}

module _ {A : Type 0} where
  mem_as : {x y : A} (xs : List A) → x ≡ y → Mem x (y ∷ xs)
  mem_as {y = y} xs e = subst (λ (z : A). Mem z (y ∷ xs)) (sym e) here

  -- it has the same elements
  pub perm_mem : {x : A} {xs ys : List A} → Permᴰ xs ys → Mem x xs → Mem x ys
  perm_mem Permᴰ.nil m = m
  perm_mem (Permᴰ.cons {l₂ = ys} e d) here = mem_as ys e
  perm_mem (Permᴰ.cons e d) (there m) = there (perm_mem d m)
  perm_mem (Permᴰ.swap {l = l} e f) here = there (mem_as l e)
  perm_mem (Permᴰ.swap {b' = b} {l = l} e f) (there here) = mem_as (b ∷ l) f
  perm_mem (Permᴰ.swap e f) (there (there m)) = there (there m)
  perm_mem (Permᴰ.trans c d) m = perm_mem d (perm_mem c m)

  -- .. and as many
  pub perm_length : {xs ys : List A} → Permᴰ xs ys → length xs ≡ length ys
  perm_length Permᴰ.nil = refl
  perm_length (Permᴰ.cons e d) = rw (perm_length d)
  perm_length (Permᴰ.swap e f) = refl
  perm_length (Permᴰ.trans c d) = perm_length c ∙ perm_length d

  -- .. and so have those that pass
  module _ (p : A → Bool) where
    cons_by : (a : A) {xs ys : List A} (s : Bool) → Permᴰ xs ys → Permᴰ (cond s (a ∷ xs) xs) (cond s (a ∷ ys) ys)
    cons_by a true d = Permᴰ.cons refl d
    cons_by a false d = d

    swap_by : (a b : A) (xs : List A) (s t : Bool)
        → Permᴰ (cond s (a ∷ cond t (b ∷ xs) xs) (cond t (b ∷ xs) xs)) (cond t (b ∷ cond s (a ∷ xs) xs) (cond s (a ∷ xs) xs))
    swap_by a b xs true true = Permᴰ.swap refl refl
    swap_by a b xs true false = Permᴰ.refl (a ∷ xs)
    swap_by a b xs false true = Permᴰ.refl (b ∷ xs)
    swap_by a b xs false false = Permᴰ.refl xs

    pub perm_those : {xs ys : List A} → Permᴰ xs ys → Permᴰ (those p xs) (those p ys)
    unfolding those
    perm_those Permᴰ.nil = Permᴰ.nil
    perm_those (Permᴰ.cons {a = a} {l₁ = xs} {l₂ = ys} e d) =
        subst (λ (z : A). Permᴰ (those p (a ∷ xs)) (those p (z ∷ ys))) e (cons_by a (p a) (perm_those d))
    perm_those (Permᴰ.swap {a = a} {b = b} {b' = c} {l = l} e f) =
        let from = those p (a ∷ b ∷ l) in
        subst (λ (y : A). Permᴰ from (those p (y ∷ c ∷ l))) f
        (subst (λ (z : A). Permᴰ from (those p (b ∷ z ∷ l))) e (swap_by a b (those p l) (p a) (p b)))
    perm_those (Permᴰ.trans c d) = Permᴰ.trans (perm_those c) (perm_those d)
