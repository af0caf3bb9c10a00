-- A record of a kind that does not concern a check leaves the check's report as it is. Assumes nothing.
use mathlib.Core.Path.{◌≡◌, refl, sym, ap, ◌∙◌}
use mathlib.Core.Bool.{true, false}
use mathlib.Core.List.{List, [], ◌∷◌}
use Rattle.std.specs.Prelude.{Option, None, Some}
use Prim.Native.Nat.{ℕ}
use native.Mathlib.Omega.{arith}
use lib.Dec.{eqb}
use borrow.Author.Tests.{eqb-true, ne_eqb}
use Rattle.record.specs.Records.{TraceRecord}
use Rattle.record.specs.Named.{Node}
use Rattle.rules.specs.Cases.{Case, earliest_case}
use Rattle.rules.specs.declared.Opening.{Opening}
use Rattle.rules.specs.declared.Report.{Report}
use Rattle.rules.specs.declared.Verdict.{Verdict}
use Rattle.rules.specs.declared.Verdict.TheVariants.{Pass, Faulted}
use Rattle.rules.specs.History.{History, is_kind, any_of, told, firsts}
use Rattle.rules.specs.Descriptors.{neither, role_of, put_fault, puts_differ, standing, stated, agreement}
use Rattle.rules.specs.OneOwnerPerKey.{by_marked, overlap_at, install_at, twice_at}
use Rattle.rules.specs.RightHalf.{Pending, pending, pending_split, split_by, registers, half_at}
use Rattle.rules.specs.GenerationsRise.{generations_at}
use Rattle.rules.specs.IdsUnique.{ids_at}
use Rattle.rules.specs.MetaNeverGoesBack.{meta_at}
use Rattle.rules.specs.Events.{continues, position}
use Rattle.rules.specs.Reports.{at_first, at_last, Steady, report_of}
use Rattle.rules.specs.Checks.{Check, checks, check_at, report_by, concerned_by, Every}
use Rattle.record.proofs.Booleans.{and_left, or_neither}
use Rattle.rules.proofs.CaseLists.{clear_of, or_clear}
use Rattle.rules.proofs.Reports.{report_of_step, report_of_pass}

-- ---- a report that is not moved

at_clear : (v : Verdict) (r : Report) (n : ℕ) → at_first v r None n ≡ r
at_clear Pass r n = refl
at_clear (Faulted kind) r n = refl

module _ (f : History → Case) where
  -- a pass says that the check is clear
  pub pass_clear : f [] ≡ None → (h : History) → (report_of f h).verdict ≡ Pass → f h ≡ None
  pass_clear z [] e = z
  pass_clear z (x ∷ h) e = clear_of (f (x ∷ h)) (report_of_pass f x h e).1

  -- a record at which the check is clear leaves the report
  pub unmoved : (x : TraceRecord) (h : History) → f (x ∷ h) ≡ None → report_of f (x ∷ h) ≡ report_of f h
  unmoved x h e =
      report_of_step f x h
      ∙ ap (λ (c : Case). at_first (report_of f h).verdict (report_of f h) c (position (x ∷ h))) e
      ∙ at_clear (report_of f h).verdict (report_of f h) (position (x ∷ h))

  steady_by : (x : TraceRecord) (h : History) → f (x ∷ h) ≡ f h → (v : Verdict) → (report_of f h).verdict ≡ v
      → ((report_of f h).verdict ≡ Pass → f h ≡ None) → at_first v (report_of f h) (f (x ∷ h)) (position (x ∷ h)) ≡ report_of f h
  steady_by x h e Pass q z = ap (λ (c : Case). at_first Pass (report_of f h) c (position (x ∷ h))) (e ∙ z q)
  steady_by x h e (Faulted kind) q z = refl

  -- .. and so does one with which the beginning as a whole is judged as before
  pub steady : f [] ≡ None → (x : TraceRecord) (h : History) → f (x ∷ h) ≡ f h → report_of f (x ∷ h) ≡ report_of f h
  steady z x h e = report_of_step f x h ∙ steady_by x h e (report_of f h).verdict refl (pass_clear z h)

-- ---- the kinds

-- what a test of several kinds says of each of them
module _ (x : TraceRecord) where
  not_in : (k : ℕ) (ks : List ℕ) → any_of (λ j. is_kind j x) (k ∷ ks) ≡ false → (is_kind k x ≡ false) × (any_of (λ j. is_kind j x) ks ≡ false)
  unfolding any_of
  not_in k ks e = or_neither _ _ e

-- ---- each check

pub agreement_none : agreement [] ≡ None
unfolding agreement puts_differ stated told earliest_case
agreement_none = refl

marked_clear : (f : ℕ → Case) (n : Node) → ((k : ℕ) → f k ≡ None) → by_marked f n ≡ None
marked_clear f None p = refl
marked_clear f (Some n) p = p n.0

module _ (x : TraceRecord) (h : History) where
  -- neither a put nor a statement
  role_neither : is_kind 1 x ≡ false → is_kind 2 x ≡ false → role_of x h ≡ neither
  unfolding role_of
  role_neither p q = rw (p, q)

  agreement_same : is_kind 1 x ≡ false → is_kind 2 x ≡ false → agreement (x ∷ h) ≡ agreement h
  unfolding agreement puts_differ put_fault standing stated told firsts
  agreement_same p q = rw (role_neither p q) (rw (or_clear (puts_differ h)))

  overlap_clear : is_kind 1 x ≡ false → is_kind 2 x ≡ false → overlap_at x h ≡ None
  unfolding overlap_at
  overlap_clear p q = marked_clear _ x.node (λ n. rw (p, q))

  install_clear : (tenant : ℕ) → is_kind 8 x ≡ false → install_at tenant x h ≡ None
  unfolding install_at
  install_clear tenant p = marked_clear _ x.node (λ n. rw p)

  twice_clear : is_kind 1 x ≡ false → twice_at x h ≡ None
  unfolding twice_at
  twice_clear p = marked_clear _ x.node (λ n. rw p)

  pending_none : is_kind 2 x ≡ false → (p : Option Pending) → pending_split x p ≡ None
  pending_none q None = refl
  pending_none q (Some p) = rw q

  split_none : is_kind 1 x ≡ false → is_kind 2 x ≡ false → (n : Node) → split_by x h n ≡ None
  split_none p q None = refl
  split_none p q (Some n) = rw (p, pending_none q (pending n.0 h))

  half_clear : is_kind 1 x ≡ false → is_kind 2 x ≡ false → is_kind 3 x ≡ false → is_kind 5 x ≡ false → half_at x h ≡ None
  unfolding half_at registers
  half_clear p q r s = marked_clear _ x.node (λ n. rw (r, s, split_none p q x.node))

  generations_clear : is_kind 3 x ≡ false → generations_at x h ≡ None
  unfolding generations_at
  generations_clear p = rw p

  ids_clear : is_kind 11 x ≡ false → ids_at x h ≡ None
  unfolding ids_at
  ids_clear p = rw p

  meta_clear : is_kind 12 x ≡ false → meta_at x h ≡ None
  unfolding meta_at
  meta_clear p = rw p

-- ---- along an event

-- a record that continues is of kind 12 and of no other
continues_kind : (x : TraceRecord) (k : ℕ) → continues x ≡ true → (12 ≡ k → ⊥) → is_kind k x ≡ false
continues_kind x k c d =
    let q : x.kind ≡ 12 = eqb-true x.kind 12 (and_left (is_kind 12 x) (eqb x.flag 1) c) in
    ne_eqb x.kind k (λ r. d (sym q ∙ r))

-- agreement is constant along an event: a record that continues neither puts nor states
pub agreement_steady : Steady agreement
agreement_steady x h c = agreement_same x h (continues_kind x 1 c (λ r. omega arith)) (continues_kind x 2 c (λ r. omega arith))

-- ---- the table

-- A LAW OF THE TABLE: a record of a kind that does not concern a check leaves its report
abbrev pub Unconcerned : Check → Type 0
Unconcerned c = (o : Opening) (x : TraceRecord) (h : History) → concerned_by x.kind c ≡ false → report_by o (x ∷ h) c ≡ report_by o h c

agreement_left : Unconcerned (check_at 0)
agreement_left o x h e =
    let a = not_in x 1 (2 ∷ []) e in
    let b = not_in x 2 [] a.1 in
    steady agreement agreement_none x h (agreement_same x h a.0 b.0)

overlap_left : Unconcerned (check_at 1)
overlap_left o x h e =
    let a = not_in x 1 (2 ∷ []) e in
    let b = not_in x 2 [] a.1 in
    unmoved (at_last overlap_at) x h (overlap_clear x h a.0 b.0)

half_left : Unconcerned (check_at 4)
half_left o x h e =
    let a = not_in x 1 (2 ∷ 3 ∷ 5 ∷ []) e in
    let b = not_in x 2 (3 ∷ 5 ∷ []) a.1 in
    let c = not_in x 3 (5 ∷ []) b.1 in
    let d = not_in x 5 [] c.1 in
    unmoved (at_last half_at) x h (half_clear x h a.0 b.0 c.0 d.0)

pub unconcerned : Every Unconcerned checks
unconcerned = (
  agreement_left,
  (
    overlap_left,
    (
      λ o x h e. unmoved (at_last (install_at o.tenant)) x h (install_clear x h o.tenant (not_in x 8 [] e).0),
      (
        λ o x h e. unmoved (at_last twice_at) x h (twice_clear x h (not_in x 1 [] e).0),
        (
          half_left,
          (
            λ o x h e. unmoved (at_last generations_at) x h (generations_clear x h (not_in x 3 [] e).0),
            (
              λ o x h e. unmoved (at_last ids_at) x h (ids_clear x h (not_in x 11 [] e).0),
              (λ o x h e. unmoved (at_last meta_at) x h (meta_clear x h (not_in x 12 [] e).0), tt),
            ),
          ),
        ),
      ),
    ),
  ),
)
