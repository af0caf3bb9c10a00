-- Laws of the chains: what a walk along the records of one bucket leaves out does not matter, and one more record is entered.
use mathlib.Core.Path.{◌≡◌, refl, sym, ap, ◌∙◌}
use mathlib.Core.List.{List, [], ◌∷◌}
use Rattle.std.specs.Prelude.{Option, None, Some}
use mathlib.Core.Logic.{◌⊎◌, inl, inr}
use Prim.Native.Nat.{ℕ, zero, suc, ◌+◌, ◌-◌, ◌≤◌, ◌<◌}
use native.Mathlib.Omega.{arith}
use native.Mathlib.Decide.{ℕ_discrete}
use lib.ListN.{length, get_or}
use borrow.Author.Tests.{eq-eqb, ne_eqb, le-ltb}
use Rattle.record.specs.Records.{TraceRecord}
use Rattle.rules.specs.History.{History, Tells}
use Rattle.history.specs.Logs.{record_at, hist}
use Rattle.history.specs.Columns.{Column, cell_of, latest_in, link_of, Chained, clamp, Entered}
use Rattle.history.proofs.Logs.{hist_length}
use Rattle.history.proofs.Cells.{cell_at, cell_new, cell_old, Same, column_agrees, column_none, Zeros, column_clear}

-- the record at place k of the log is in the bucket b
abbrev pub In : Tells ℕ → ℕ → List ℕ → ℕ → Type 0
In f b log k = f (record_at log k) (hist log k) ≡ Some b

-- the latest of a bucket, one record on: that record, or the latest before it
pub latest_here : (f : Tells ℕ) (b : ℕ) (x : TraceRecord) (h : History) → f x h ≡ Some b → latest_in f (x ∷ h) b ≡ suc (length h)
unfolding latest_in
latest_here f b x h e = rw (e, eq-eqb b b refl)

latest_pass : (f : Tells ℕ) (b : ℕ) (x : TraceRecord) (h : History) (o : Option ℕ) → f x h ≡ o → (o ≡ Some b → ⊥) → latest_in f (x ∷ h) b ≡ latest_in f h b
unfolding latest_in
latest_pass f b x h None e n = rw e
latest_pass f b x h (Some d) e n = rw (e, ne_eqb b d (λ q. n (ap Some (sym q))))

pub latest_else : (f : Tells ℕ) (b : ℕ) (x : TraceRecord) (h : History) → (f x h ≡ Some b → ⊥) → latest_in f (x ∷ h) b ≡ latest_in f h b
latest_else f b x h n = latest_pass f b x h (f x h) refl n

in_or_out : (o : Option ℕ) (b : ℕ) → (o ≡ Some b) ⊎ (o ≡ Some b → ⊥)
in_or_out None b = inr (λ e. let z : ◌≡◌ {A = ℕ} 0 1 = cc in omega arith)
in_or_out (Some d) b =
    elim (ℕ_discrete d b) [
      | yes e ↦ inl (ap Some e)
      | no n ↦ inr (λ e. n (cc))
    ]

module _ (f : Tells ℕ) (b : ℕ) (log : List ℕ) where
  -- what holds of no record, of a record of the bucket, and is kept by any other, holds of the latest of the bucket
  latest_ind : (P : ℕ → ℕ → Type 0) → P 0 0 → ((n : ℕ) → In f b log n → P (suc n) (suc n))
      → ((n m : ℕ) → (In f b log n → ⊥) → P n m → P (suc n) m) → (n : ℕ) → P n (latest_in f (hist log n) b)
  unfolding latest_in hist
  latest_ind P z s k zero = z
  latest_ind P z s k (suc n) =
      elim (in_or_out (f (record_at log n) (hist log n)) b) [
        | inl e ↦ rw (latest_here f b (record_at log n) (hist log n) e, hist_length) (s n e)
        | inr e ↦ rw (latest_else f b (record_at log n) (hist log n) e) (k n (latest_in f (hist log n) b) e (latest_ind P z s k n))
      ]

  pub latest_bound : (n : ℕ) → latest_in f (hist log n) b ≤ n
  latest_bound = latest_ind (λ n m. m ≤ n) (omega arith) (λ n e. omega arith) (λ n m e h. omega arith)

  -- the record found is in the bucket
  pub latest_in_lem : (n : ℕ) → 0 < latest_in f (hist log n) b → In f b log (latest_in f (hist log n) b - 1)
  latest_in_lem =
      latest_ind (λ n m. 0 < m → In f b log (m - 1))
      (λ l. absurd (omega arith))
      (λ n e l. let q : suc n - 1 ≡ n = omega arith in rw q e)
      (λ n m e h. h)

  -- between it and n there is none of the bucket
  pub latest_gap : (n j : ℕ) → latest_in f (hist log n) b ≤ j → j < n → In f b log j → ⊥
  latest_gap =
      latest_ind (λ n m. (j : ℕ) → m ≤ j → j < n → In f b log j → ⊥)
      (λ j l k e. omega arith)
      (λ n e j l k q. omega arith)
      (λ n m e h j l k q.
      elim (ℕ_discrete j n) [
        | yes z ↦ e (rw z at q)
        | no z ↦ h j l (omega arith) q
      ])

  -- THE SKIP LEMMA, once for every kind of walk: what records outside the bucket do not change
  pub skip : {A : Type 0} (g : ℕ → A) → ((k : ℕ) → (In f b log k → ⊥) → g (suc k) ≡ g k) → (n : ℕ) → g n ≡ g (latest_in f (hist log n) b)
  skip g s = latest_ind (λ n m. g n ≡ g m) refl (λ n e. refl) (λ n m e h. s n e ∙ h)

-- the link of a record of the bucket
pub link_of_lem : (f : Tells ℕ) {b : ℕ} (x : TraceRecord) (h : History) → f x h ≡ Some b → link_of f x h ≡ latest_in f h b
unfolding link_of
link_of_lem f x h e = rw e

pub link_at : (f : Tells ℕ) (log : List ℕ) {b n k links cap : ℕ} {work : List ℕ} → Column (cell_of (link_of f) (hist log n)) links cap work
    → k < n → n ≤ cap → In f b log k → get_or work (links + k) 0 ≡ latest_in f (hist log k) b
link_at f log {b} {n} {k} c l m e = c.word k (omega arith) ∙ cell_at (link_of f) log n k l ∙ link_of_lem f (record_at log k) (hist log k) e

pub clamped : (x y top : ℕ) → x ≡ y → y ≤ top → clamp x top ≡ y
clamped x y top e l = rw (e, le-ltb top y l)

-- where a walk along the chain of b stands: the record before i, if there is one, is of the bucket, and x is still g i
pub record Stands {A : Type 0} (f : Tells ℕ) (b : ℕ) (log : List ℕ) (g : ℕ → A) (x : A) (i : ℕ) : Type 0 where
  pub here : 0 < i → In f b log (i - 1)
  pub same : x ≡ g i

module _ {A : Type 0} {f : Tells ℕ} {b : ℕ} {log work : List ℕ} {heads links cap n : ℕ} (g : ℕ → A)
    (s : (k : ℕ) → (In f b log k → ⊥) → g (suc k) ≡ g k) (c : Chained f heads links cap (hist log n) work) where
  -- at the start, at the head of the bucket
  pub stands_first : {x : A} {at i : ℕ} → b < cap → x ≡ g n → at ≡ heads + b → i ≡ clamp (get_or work at 0) n → Stands f b log g x i
  stands_first {x} {at} {i} l y a e =
      let q : i ≡ latest_in f (hist log n) b =
      e ∙ clamped (get_or work at 0) (latest_in f (hist log n) b) n (rw a (c.tops.word b l)) (latest_bound f b log n) in
      rw q (record { here = latest_in_lem f b log n; same = y ∙ skip f b log g s n })

  -- after a turn, at the record of place k
  pub stands_next : {x : A} {at k i : ℕ} → k < n → n ≤ cap → In f b log k → x ≡ g k → at ≡ links + k → i ≡ clamp (get_or work at 0) k
      → Stands f b log g x i
  stands_next {x} {at} {k} {i} l w m y a e =
      let p : get_or work at 0 ≡ latest_in f (hist log k) b = rw a (link_at f log c.downs l w m) in
      let q : i ≡ latest_in f (hist log k) b = e ∙ clamped (get_or work at 0) (latest_in f (hist log k) b) k p (latest_bound f b log k) in
      rw q (record { here = latest_in_lem f b log k; same = y ∙ skip f b log g s k })

-- chains are told by their own two columns
pub chained_agrees : {f : Tells ℕ} {heads links cap : ℕ} {h : History} {work work' : List ℕ} → Same heads cap work work' → Same links cap work work'
    → Chained f heads links cap h work → Chained f heads links cap h work'
chained_agrees p q c = record { tops = column_agrees p c.tops; downs = column_agrees q c.downs }

-- THE ENTRY LAW
pub entered : {f : Tells ℕ} {heads links cap n b : ℕ} {h : History} {x : TraceRecord} {work work' : List ℕ} → length h ≡ n → n < cap → b < cap
    → heads + cap ≤ links → f x h ≡ Some b → Entered work work' heads links n b → Chained f heads links cap h work → Chained f heads links cap (x ∷ h) work'
entered {f} {heads} {links} {cap} {n} {b} {h} {x} {work} {work'} len l m a e p c = record {
  tops = record {
    word = λ d k.
        elim (ℕ_discrete d b) [
          | yes q ↦
              let t : get_or work' (heads + b) 0 ≡ latest_in f (x ∷ h) b = p.head_is ∙ omega (arith, latest_here f b x h e) in
              rw q t
          | no q ↦
              p.others (heads + d) (λ z. omega arith) (λ z. omega arith) ∙ c.tops.word d k
              ∙ sym (latest_else f d x h (λ z. q (let y : Some b ≡ Some d = sym e ∙ z in cc)))
        ];
  };
  downs = record {
    word = λ d k.
        elim (ℕ_discrete d (length h)) [
          | yes q ↦
              let w : links + d ≡ links + n = omega arith in
              ap (λ (j : ℕ). get_or work' j 0) w ∙ p.link_is ∙ c.tops.word b m ∙ sym (link_of_lem f x h e)
              ∙ sym (cell_new (link_of f) x h) ∙ ap (cell_of (link_of f) (x ∷ h)) (sym q)
          | no q ↦
              p.others (links + d) (λ z. q (omega arith)) (λ z. omega arith) ∙ c.downs.word d k
              ∙ sym (cell_old (link_of f) x h d q)
        ];
  };
}

-- a record in no bucket leaves the chains as they are
pub not_entered : {f : Tells ℕ} {heads links cap : ℕ} {h : History} {x : TraceRecord} {work : List ℕ} → f x h ≡ None
    → Chained f heads links cap h work → Chained f heads links cap (x ∷ h) work
unfolding link_of
not_entered {f} {h = h} {x = x} e c = record {
  tops = record { word = λ d k. c.tops.word d k ∙ sym (latest_pass f d x h None e (λ z. let y : ◌≡◌ {A = ℕ} 0 1 = cc in omega arith)) };
  downs = column_none (link_of f) h x (rw e) c.downs;
}

-- no chain holds anything where the work area is 0
pub chained_clear : {f : Tells ℕ} {heads links cap : ℕ} {work : List ℕ} → Zeros work → Chained f heads links cap [] work
unfolding latest_in
chained_clear {f} z = record { tops = record { word = λ k l. z.word _ }; downs = column_clear (link_of f) z }
