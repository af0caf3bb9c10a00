-- Every case of a check has one of its kinds, as the table of checks says. Assumes nothing.
use mathlib.Core.Path.{ap, ◌≡◌, refl}
use mathlib.Core.Bool.{Bool, true, false, cond, not, ◌&&◌}
use mathlib.Core.List.{List, [], ◌∷◌, map}
use Rattle.std.specs.Prelude.{Option, None, Some}
use Prim.Native.Nat.{ℕ, suc, ◌≤◌}
use native.Mathlib.Omega.{arith}
use lib.Dec.{eqb, ltb, leb}
use Rattle.record.specs.Records.{Span, TraceRecord}
use Rattle.record.specs.Named.{Node}
use Rattle.record.specs.Keys.{Key, key_eqb, inside}
use Rattle.record.specs.declared.named.ApplyEffect.TheVariants.{Took}
use Rattle.rules.specs.Cases.{Case, fault_with, is_fault, fault_if, or_case, case_of, earliest_case, first_case, KindWithin}
use Rattle.rules.specs.declared.Evidence.{Evidence}
use Rattle.rules.specs.declared.Opening.{Opening}
use Rattle.rules.specs.declared.Report.{Report}
use Rattle.rules.specs.declared.Verdict.{Verdict}
use Rattle.rules.specs.declared.Verdict.TheVariants.{Pass, Faulted}
use Rattle.rules.specs.History.{History, is_kind, is_some, any_of, latest_of, greatest_of, lowest_of}
use Rattle.rules.specs.Descriptors.{Entry, span_of, held_eqb, same_place, tells_put, standing, stated, at_in, first_at_generation, put_fault, puts_differ, ahead_fault, differs_fault, statement_fault, agreement}
use Rattle.rules.specs.OneOwnerPerKey.{by_marked, is_holding, has_hold, lowest_meeting, group_of, is_named, overlap_at, install_fault, install_at, twice_at}
use Rattle.rules.specs.RightHalf.{Registered, registered, registers, is_registered, owes, is_missing, nodes_of, lacks, missing_fault, registering_fault, half_at}
use Rattle.rules.specs.GenerationsRise.{Write, has_effect, tells_write, same_write, writes, opposes, is_earlier, write_fault, generations_at}
use Rattle.rules.specs.IdsUnique.{Grant, grant_eqb, nonempty, shares, tells_grant, same_index, first_grants, blocks_of, grant_fault, ids_at}
use Rattle.rules.specs.MetaNeverGoesBack.{Name, differs_from, names, is_won, standing_name, bounds, least_key, named_fault, name_fault, key_fault, won_fault, meta_at}
use Rattle.rules.specs.Reports.{at_first, AtRecord, at_last, report_of}
use Rattle.rules.specs.Checks.{Check, checks, case_at, Every}

-- the kind of a fault
abbrev kind_in : Case → ℕ
kind_in None = 0
kind_in (Some f) = f.kind

module _ {most : ℕ} where
  within_clear : KindWithin most None
  within_clear = record { kind = λ k e x. absurd (let z : ◌≡◌ {A = ℕ} 0 1 = cc in omega arith) }

  within_fault : (n : ℕ) {f : Evidence} → 1 ≤ n → n ≤ most → KindWithin most (fault_with n f)
  within_fault n {f} p q = record { kind = λ k e x. let z : n ≡ k = ap (λ (c : Case). kind_in c) x in (omega arith, omega arith) }

  within_if : (b : Bool) {c : Case} → KindWithin most c → KindWithin most (fault_if b c)
  within_if true p = p
  within_if false p = within_clear

  or_by : (c : Case) {d : Case} → KindWithin most c → KindWithin most d → KindWithin most (or_case c d)
  or_by None p q = q
  or_by (Some f) p q = p

  within_or : {c d : Case} → KindWithin most c → KindWithin most d → KindWithin most (or_case c d)
  within_or {c} p q = or_by c p q

  within_cond : (b : Bool) {c d : Case} → KindWithin most c → KindWithin most d → KindWithin most (cond b c d)
  within_cond true p q = p
  within_cond false p q = q

  module _ {A : Type 0} where
    within_of : {f : A → Case} (o : Option A) → ((a : A) → KindWithin most (f a)) → KindWithin most (case_of f o)
    within_of None p = within_clear
    within_of (Some a) p = p a

    within_earliest : {f : A → Case} (xs : List A) → ((a : A) → KindWithin most (f a)) → KindWithin most (earliest_case f xs)
    unfolding earliest_case
    within_earliest [] p = within_clear
    within_earliest (x ∷ xs) p = within_or (within_earliest xs p) (p x)

    within_first : {f : A → Case} (xs : List A) → ((a : A) → KindWithin most (f a)) → KindWithin most (first_case f xs)
    unfolding first_case
    within_first [] p = within_clear
    within_first (x ∷ xs) p = within_or (p x) (within_first xs p)

  within_marked : {f : ℕ → Case} (n : Node) → ((k : ℕ) → KindWithin most (f k)) → KindWithin most (by_marked f n)
  within_marked None p = within_clear
  within_marked (Some k) p = p k.0

-- ---- each check

-- a fault by the place of its kind among the check's own
module _ {most : ℕ} {f : Evidence} where
  first_kind : KindWithin (suc most) (fault_with 1 f)
  first_kind = within_fault 1 (omega arith) (omega arith)

  second_kind : KindWithin (suc (suc most)) (fault_with 2 f)
  second_kind = within_fault 2 (omega arith) (omega arith)

  third_kind : KindWithin (suc (suc (suc most))) (fault_with 3 f)
  third_kind = within_fault 3 (omega arith) (omega arith)

  fourth_kind : KindWithin (suc (suc (suc (suc most)))) (fault_with 4 f)
  fourth_kind = within_fault 4 (omega arith) (omega arith)

put_kinds : (o : Option Entry) (vs : List Entry) → KindWithin 3 (put_fault o vs)
unfolding put_fault
put_kinds None vs = within_clear
put_kinds (Some p) vs = within_of (latest_of (same_place p) vs) (λ v. within_if (not (held_eqb v.held p.held)) first_kind)

puts_kinds : (h : History) → KindWithin 3 (puts_differ h)
unfolding puts_differ
puts_kinds [] = within_clear
puts_kinds (x ∷ h) = within_or (puts_kinds h) (put_kinds (tells_put x h) (standing h))

ahead_kinds : (s : Entry) (vs : List Entry) → KindWithin 3 (ahead_fault s vs)
unfolding ahead_fault
ahead_kinds s vs =
    within_of (lowest_of (λ v. v.index) (λ v. eqb v.range s.range && ltb s.index v.index && eqb v.held.generation s.held.generation) vs)
    (λ v. second_kind)

differs_kinds : (s : Entry) (vs : List Entry) (v : Entry) → KindWithin 3 (differs_fault s vs v)
unfolding differs_fault
differs_kinds s vs v =
    within_if (not (held_eqb v.held s.held)) (within_cond (ltb v.held.generation s.held.generation) (ahead_kinds s vs) third_kind)

statement_kinds : (vs : List Entry) (s : Entry) → KindWithin 3 (statement_fault vs s)
unfolding statement_fault
statement_kinds vs s = within_of (at_in s.range s.index vs) (differs_kinds s vs)

agreement_kinds : (h : History) → KindWithin 3 (agreement h)
unfolding agreement
agreement_kinds h = within_or (puts_kinds h) (within_earliest (stated h) (statement_kinds (standing h)))

overlap_kinds : (x : TraceRecord) (h : History) → KindWithin 1 (overlap_at x h)
unfolding overlap_at
overlap_kinds x h =
    within_marked x.node
    (λ n. within_if (is_holding x) (within_of (lowest_meeting (λ r. not (eqb r x.a)) (span_of 0 x) n h) (λ o. first_kind)))

span_kinds : (tenant : ℕ) (x : TraceRecord) (h : History) (n : ℕ) (s : Span) → KindWithin 1 (install_fault tenant x h n s)
span_kinds tenant x h n s =
    within_if (not (is_some (group_of tenant s.start))) (within_of (lowest_meeting (λ r. not (is_named tenant x.spans r)) s n h) (λ r. first_kind))

install_kinds : (tenant : ℕ) (x : TraceRecord) (h : History) → KindWithin 1 (install_at tenant x h)
unfolding install_at
install_kinds tenant x h = within_marked x.node (λ n. within_if (is_kind 8 x) (within_first x.spans (span_kinds tenant x h n)))

twice_kinds : (x : TraceRecord) (h : History) → KindWithin 1 (twice_at x h)
unfolding twice_at
twice_kinds x h = within_marked x.node (λ n. within_if (is_kind 1 x && has_hold n x.a h) first_kind)

missing_kinds : (kind node : ℕ) (h : History) → 1 ≤ kind → kind ≤ 2 → KindWithin 2 (missing_fault kind node h)
unfolding missing_fault
missing_kinds kind node h p q =
    within_of (lowest_of (λ right. right) (is_missing node h) (map (λ s. s.right) (registered h)))
    (λ right. within_of (owes node right h) (λ s. within_fault kind p q))

registering_kinds : (x : TraceRecord) (h : History) (s : Registered) → KindWithin 2 (registering_fault x h s)
unfolding registering_fault
registering_kinds x h s = within_of (lowest_of (λ node. node) (lacks s x h) (nodes_of h)) (λ node. second_kind)

half_kinds : (x : TraceRecord) (h : History) → KindWithin 2 (half_at x h)
unfolding half_at
half_kinds x h =
    within_marked x.node
    (λ n. within_or (within_if (has_effect Took x && is_registered x.a x.b h) (missing_kinds 1 n (x ∷ h) (omega arith) (omega arith)))
    (within_or (within_if (is_kind 5 x) (missing_kinds 2 n (x ∷ h) (omega arith) (omega arith))) (within_of (registers x h) (registering_kinds x h))))

write_kinds : (w : Write) (o : Option ℕ) (ws : List Write) → KindWithin 2 (write_fault w o ws)
write_kinds w None ws = first_kind
write_kinds w (Some g) ws =
    within_if (any_of (λ o. key_eqb o.key w.key && opposes w.range g o) ws) (within_of (latest_of (is_earlier w.key) ws) (λ o. second_kind))

generations_kinds : (x : TraceRecord) (h : History) → KindWithin 2 (generations_at x h)
unfolding generations_at
generations_kinds x h = within_of (tells_write x h) (λ w. within_if (not (any_of (same_write w) (writes h))) (write_kinds w w.generation (writes h)))

grant_kinds : (g : Grant) (o : Option Grant) (bs : List Grant) → KindWithin 3 (grant_fault g o bs)
grant_kinds g (Some o) bs = within_if (not (grant_eqb g o)) first_kind
grant_kinds g None bs = within_cond (nonempty g) (within_if (any_of (shares g) bs) (within_of nearest (λ o. third_kind))) second_kind
  where
    nearest : Option Grant
    nearest = greatest_of (λ o. o.first) (λ o. leb o.first g.last) bs

ids_kinds : (x : TraceRecord) (h : History) → KindWithin 3 (ids_at x h)
unfolding ids_at
ids_kinds x h = within_of (tells_grant x h) (λ g. grant_kinds g (latest_of (same_index g) (first_grants h)) (blocks_of h))

named_kinds : (x : TraceRecord) (o : Option Entry) → KindWithin 4 (named_fault x o)
named_kinds x None = first_kind
named_kinds x (Some v) = within_if (differs_from x v.held) second_kind

name_kinds : (x : TraceRecord) (n : Name) → KindWithin 4 (name_fault x n)
name_kinds x n =
    within_cond (ltb n.index x.b) (within_if (ltb x.d n.generation) third_kind) (within_if (ltb n.generation x.d) fourth_kind)

key_kinds : (x : TraceRecord) (ns : List Name) (k : Key) → KindWithin 4 (key_fault x ns k)
unfolding key_fault
key_kinds x ns k = within_of (standing_name ns k) (name_kinds x)

won_kinds : (x : TraceRecord) (ns : List Name) → KindWithin 4 (won_fault x ns)
unfolding won_fault
won_kinds x ns =
    within_of (least_key (λ k. inside (span_of 1 x).start (span_of 1 x).end k && is_fault (key_fault x ns k)) ((span_of 1 x).start ∷ bounds ns))
    (key_kinds x ns)

meta_kinds : (x : TraceRecord) (h : History) → KindWithin 4 (meta_at x h)
unfolding meta_at
meta_kinds x h =
    within_if (is_kind 12 x) (within_or (named_kinds x (first_at_generation x.a x.d h)) (within_if (is_won x) (won_kinds x (names h))))

-- ---- the table

last_kinds : {most : ℕ} (f : AtRecord) → ((x : TraceRecord) (h : History) → KindWithin most (f x h)) → (h : History) → KindWithin most (at_last f h)
last_kinds f p [] = within_clear
last_kinds f p (x ∷ h) = p x h

-- A LAW OF THE TABLE: every case of a check has one of its kinds
abbrev pub CaseKinds : Check → Type 0
CaseKinds c = (o : Opening) (h : History) → KindWithin c.kinds (case_at o c h)

pub case_kinds : Every CaseKinds checks
case_kinds = (
  λ o. agreement_kinds,
  (
    λ o. last_kinds overlap_at overlap_kinds,
    (
      λ o. last_kinds (install_at o.tenant) (install_kinds o.tenant),
      (
        λ o. last_kinds twice_at twice_kinds,
        (
          λ o. last_kinds half_at half_kinds,
          (
            λ o. last_kinds generations_at generations_kinds,
            (
              λ o. last_kinds ids_at ids_kinds,
              (λ o. last_kinds meta_at meta_kinds, tt),
            ),
          ),
        ),
      ),
    ),
  ),
)

-- ---- so has every report

abbrev pub VerdictWithin : ℕ → Verdict → Type 0
VerdictWithin most Pass = Unit {0}
VerdictWithin most (Faulted kind) = (1 ≤ kind) × (kind ≤ most)

next_kinds : {most : ℕ} (v : Verdict) (r : Report) (c : Case) (n : ℕ) → VerdictWithin most r.verdict → KindWithin most c
    → VerdictWithin most (at_first v r c n).verdict
next_kinds (Faulted kind) r c n p q = p
next_kinds Pass r None n p q = p
next_kinds Pass r (Some f) n p q = q.kind f.kind f.evidence refl

pub report_kinds : {most : ℕ} (f : History → Case) → ((h : History) → KindWithin most (f h)) → (h : History)
    → VerdictWithin most (report_of f h).verdict
unfolding report_of
report_kinds f p [] = tt
report_kinds f p (x ∷ h) = next_kinds (report_of f h).verdict (report_of f h) (f (x ∷ h)) _ (report_kinds f p h) (p (x ∷ h))

-- no check has more than four kinds
wider : (m n : ℕ) → m ≤ n → (v : Verdict) → VerdictWithin m v → VerdictWithin n v
wider m n l Pass p = tt
wider m n l (Faulted kind) p = (p.0, omega arith)
