-- Laws of the functions that write: a record copied into the log, a word or an entry stored, the work area cleared.
use mathlib.Core.Path.{◌≡◌, ap, ◌∙◌}
use mathlib.Core.List.{List, ◌++◌}
use Prim.Native.Nat.{ℕ, ◌+◌, ◌-◌, ◌*◌, ◌≤◌, ◌<◌}
use mathlib.Core.Logic.{⊎_elim}
use native.Mathlib.Omega.{arith}
use native.Mathlib.Decide.{dec_lt}
use lib.ListN.{length, get_or, set, take, drop, get_or-append, length-set, length-drop, length-append}
use lib.Seq.{length-take-le, get_or-take, get_or-drop, get_or-set_same, get_or-set_other}
use borrow.Rule.Slice.PartMut.{put_mid}
use Rattle.std.proofs.lemmas.Slice.{between-put_mid}
use Rattle.std.proofs.lemmas.Bool.{cases_lt}
use Rattle.std.proofs.lemmas.List.{get_or-append-add}
use Rattle.history.specs.Logs.{bytes_at, Appended}
use Rattle.history.specs.Columns.{Put, Entered}

-- a record put in its place of the log
pub appended : (log ys : List ℕ) (n k : ℕ) (rec : List ℕ) → 368 * n + 368 ≤ length log → length rec ≡ 368 → k ≡ 368 → ys ≡ rec
    → Appended log (put_mid (368 * n) k log ys) n rec
unfolding bytes_at
appended log ys n k rec h e d q = rw (d, q) (record {
  len = rw (length-append, length-append, length-take-le (368 * n) log (omega arith), e, length-drop, length-drop) (omega arith);
  here = between-put_mid (368 * n) 368 log rec (368 * n + 368) (omega arith) (e ∙ omega arith);
  others = λ j f. elim (dec_lt j (368 * n)) [
    | yes l ↦ get_or-append (take (368 * n) log) (rec ++ drop 368 (drop (368 * n) log)) 0 j (rw front (omega arith)) ∙ get_or-take (368 * n) log j 0 l
    | no l ↦
        let m = j - (368 * n + 368) in
        let past : 368 * n + 368 ≤ j = ⊎_elim (λ b. absurd (f (omega arith) b)) (λ b. b) (cases_lt j (368 * n + 368)) in
        let at : j ≡ length (take (368 * n) log) + (length rec + m) = rw (front, e) (omega arith) in
        ap (λ (i : ℕ). get_or (take (368 * n) log ++ (rec ++ drop 368 (drop (368 * n) log))) i 0) at
        ∙ get_or-append-add (take (368 * n) log) (rec ++ drop 368 (drop (368 * n) log)) (length rec + m) 0
        ∙ get_or-append-add rec (drop 368 (drop (368 * n) log)) m 0
        ∙ get_or-drop 368 (drop (368 * n) log) m 0
        ∙ get_or-drop (368 * n) log (368 + m) 0
        ∙ ap (λ (i : ℕ). get_or log i 0) (omega arith)
  ];
})
  where
    front : length (take (368 * n) log) ≡ 368 * n
    front = length-take-le (368 * n) log (omega arith)

pub put_store : (work : List ℕ) (at v : ℕ) → at < length work → Put work (set work at v) at v
put_store work at v l = record { len = length-set work at v; is = get_or-set_same work at v 0 l; others = λ j n. get_or-set_other work at j v 0 n }

pub entered_stores : (work : List ℕ) (heads links n b : ℕ) → heads + b < links → links + n < length work
    → Entered work (set (set work (links + n) (get_or work (heads + b) 0)) (heads + b) (n + 1)) heads links n b
entered_stores work heads links n b h l =
    let v = get_or work (heads + b) 0 in
    let mid = set work (links + n) v in
    let w : length mid ≡ length work = length-set work (links + n) v in
    record {
      len = length-set mid (heads + b) (n + 1) ∙ w;
      link_is = get_or-set_other mid (heads + b) (links + n) (n + 1) 0 (λ z. omega arith) ∙ get_or-set_same work (links + n) v 0 l;
      head_is = get_or-set_same mid (heads + b) (n + 1) 0 (omega (arith, w));
      others = λ j p q. get_or-set_other mid (heads + b) j (n + 1) 0 q ∙ get_or-set_other work (links + n) j v 0 p;
    }
