-- Laws of the generations case: which way it goes, by what the record's write counts as and by the key's last write.
use mathlib.Core.Path.{◌≡◌, refl, sym, ap, ◌∙◌}
use mathlib.Core.Bool.{Bool, true, false, ◌&&◌}
use mathlib.Core.List.{List, [], ◌∷◌}
use Rattle.std.specs.Prelude.{Option, None, Some}
use Prim.Native.Nat.{ℕ, suc, ◌-◌}
use native.Mathlib.Omega.{arith}
use Rattle.record.specs.Keys.{Key, key_eqb}
use Rattle.record.specs.Records.{TraceRecord, decode}
use Rattle.rules.specs.Cases.{Case, fault, fault_if, case_of}
use Rattle.rules.specs.declared.Verdict.TheVariants.{Pass}
use Rattle.rules.specs.History.{History, holds, any_of, latest_of}
use Rattle.rules.specs.Descriptors.{span_of}
use Rattle.rules.specs.GenerationsRise.{Write, tells_write, same_write, writes, is_earlier, opposes, last_generation, rise_fault, write_fault, generations_at}
use Rattle.rules.specs.Reports.{at_last, report_of}
use Rattle.record.proofs.Booleans.{none_some}
use Rattle.history.specs.declared.past.Past.{Past}
use Rattle.history.specs.declared.walk.Taken.{Taken}
use Rattle.history.specs.Logs.{record_at, hist}
use Rattle.history.specs.Pasts.{taken, IsTaken}
use Rattle.history.proofs.Logs.{record_bytes}
use Rattle.firsts.specs.Columns.{first_write, write_of}
use Rattle.generations_rise.specs.declared.write.Written.TheVariants.{Not, Unrated, Rated}
use Rattle.generations_rise.specs.Columns.{generation_by, last_write_at}
use Rattle.generations_rise.specs.Answers.{rated_as, written_of, written_as, against}
use Rattle.rules.proofs.Rising.{last_write_decides}
use Rattle.firsts.proofs.Writes.{write_told, write_is}
use Rattle.generations_rise.proofs.KeyWrites.{LastIs, last_is}

-- what a record's write is, by what it counts as
module _ (x : TraceRecord) (h : History) where
  pub not_is : Not ≡ written_as x h → first_write x h ≡ None
  unfolding written_as
  not_is e = go (first_write x h) e
    where
      pick : (b : Option ℕ) → Not ≡ rated_as b → ⊥
      pick None q = let z : ◌≡◌ {A = ℕ} 0 1 = cc in omega arith
      pick (Some g) q = let z : ◌≡◌ {A = ℕ} 0 1 = cc in omega arith

      go : (o : Option Write) → Not ≡ written_of o → o ≡ None
      go None q = refl
      go (Some w) q = absurd (pick w.generation q)

  pub unrated_is : Unrated ≡ written_as x h → (w : Write) × (first_write x h ≡ Some w) × (w.generation ≡ None)
  unfolding written_as
  unrated_is e = go (first_write x h) refl e
    where
      pick : (w : Write) (b : Option ℕ) → first_write x h ≡ Some w → w.generation ≡ b → Unrated ≡ rated_as b
          → (v : Write) × (first_write x h ≡ Some v) × (v.generation ≡ None)
      pick w None f d q = (w, f, d)
      pick w (Some g) f d q = let z : ◌≡◌ {A = ℕ} 0 1 = cc in absurd (omega arith)

      go : (o : Option Write) → first_write x h ≡ o → Unrated ≡ written_of o → (v : Write) × (first_write x h ≡ Some v) × (v.generation ≡ None)
      go None f q = let z : ◌≡◌ {A = ℕ} 0 1 = cc in absurd (omega arith)
      go (Some w) f q = pick w w.generation f refl q

  pub rated_is : {g : ℕ} → Rated g ≡ written_as x h → (w : Write) × (first_write x h ≡ Some w) × (w.generation ≡ Some g)
  unfolding written_as
  rated_is {g} e = go (first_write x h) refl e
    where
      pick : (w : Write) (b : Option ℕ) → first_write x h ≡ Some w → w.generation ≡ b → Rated g ≡ rated_as b
          → (v : Write) × (first_write x h ≡ Some v) × (v.generation ≡ Some g)
      pick w None f d q = let z : ◌≡◌ {A = ℕ} 0 1 = cc in absurd (omega arith)
      pick w (Some u) f d q = let z : u ≡ g = cc in (w, f, d ∙ ap Some z)

      go : (o : Option Write) → first_write x h ≡ o → Rated g ≡ written_of o → (v : Write) × (first_write x h ≡ Some v) × (v.generation ≡ Some g)
      go None f q = let z : ◌≡◌ {A = ℕ} 0 1 = cc in absurd (omega arith)
      go (Some w) f q = pick w w.generation f refl q

  -- the case of a write that counts
  first_case : {w : Write} → first_write x h ≡ Some w → generations_at x h ≡ write_fault w w.generation (writes h)
  unfolding generations_at first_write
  first_case {w} e = go (any_of (same_write w) (writes h)) refl
    where
      go : (t : Bool) → any_of (same_write w) (writes h) ≡ t → generations_at x h ≡ write_fault w w.generation (writes h)
      go true k = none_some (sym (rw (write_told x h e, k)) ∙ e)
      go false k = rw (write_told x h e, k)

  -- and of any other record
  none_case : first_write x h ≡ None → None ≡ generations_at x h
  unfolding generations_at first_write
  none_case e = go (tells_write x h) refl
    where
      pick : (w : Write) (t : Bool) → tells_write x h ≡ Some w → any_of (same_write w) (writes h) ≡ t → None ≡ generations_at x h
      pick w true f k = rw (f, k)
      pick w false f k = none_some {a = w} (sym e ∙ rw (f, k))

      go : (o : Option Write) → tells_write x h ≡ o → None ≡ generations_at x h
      go None f = rw f
      go (Some w) f = pick w (any_of (same_write w) (writes h)) f refl

  pub case_not : Not ≡ written_as x h → None ≡ generations_at x h
  case_not e = none_case (not_is e)

  pub case_unrated : {range index : ℕ} {r : Case} → range ≡ x.a → index ≡ x.b → r ≡ fault 1 (range ∷ index ∷ [])
      → Unrated ≡ written_as x h → r ≡ generations_at x h
  case_unrated {range} {index} p q d e =
      let w = unrated_is e in
      let v : write_of x h ≡ w.0 = write_is x h w.1 in
      d ∙ ap (λ (n : ℕ). fault 1 (n ∷ index ∷ [])) p ∙ ap (λ (n : ℕ). fault 1 (x.a ∷ n ∷ [])) q
      ∙ ap (λ (o : Write). fault 1 (o.range ∷ o.index ∷ [])) v
      ∙ sym (first_case w.1 ∙ ap (λ (b : Option ℕ). write_fault w.0 b (writes h)) w.2)

  pub case_rated : {g : ℕ} {r : Case} → r ≡ rise_fault (write_of x h) g (writes h) → Rated g ≡ written_as x h → r ≡ generations_at x h
  case_rated {g} d e =
      let w = rated_is e in
      d ∙ ap (λ (o : Write). rise_fault o g (writes h)) (write_is x h w.1)
      ∙ sym (first_case w.1 ∙ ap (λ (b : Option ℕ). write_fault w.0 b (writes h)) w.2)

-- the key's last write decides
module _ (x : TraceRecord) (g : ℕ) (log : List ℕ) (count : ℕ) (pass : (report_of (at_last generations_at) (hist log count)).verdict ≡ Pass) {n : ℕ}
    (f : n ≡ last_write_at (span_of 0 x).start (hist log count)) where
  abbrev W : Write
  W = write_of x (hist log count)

  abbrev last : Option Write
  last = latest_of (is_earlier W.key) (writes (hist log count))

  decided : any_of (λ o. key_eqb o.key W.key && opposes W.range g o) (writes (hist log count)) ≡ holds (opposes W.range g) last
  decided = last_write_decides (hist log count) pass W.key W.range g

  last_of : LastIs log last n
  last_of = rw f (last_is W.key log count)

  none_rises : n ≡ 0 → None ≡ rise_fault W g (writes (hist log count))
  none_rises z =
      let e : last ≡ None = rw z at last_of in
      let d : holds (opposes W.range g) last ≡ false = ap (holds (opposes W.range g)) e in
      rw (decided ∙ d)

  rise_found : (k : ℕ) → n ≡ suc k
      → fault_if (against x.a g (record_at log k).a (generation_by (record_at log k) (hist log k)))
      (fault 2 (x.a ∷ x.b ∷ g ∷ generation_by (record_at log k) (hist log k) ∷ (record_at log k).a ∷ []))
      ≡ rise_fault W g (writes (hist log count))
  rise_found k z =
      let l : LastIs log last (suc k) = rw z at last_of in
      sym (ap (λ (t : Bool). fault_if t (case_of told last)) decided
      ∙ ap (λ (o : Option Write). fault_if (holds (opposes W.range g) o) (case_of told o)) l.1
      ∙ weighed l.0 l.2 l.3)
    where
      told : Write → Case
      told o = fault 2 (x.a ∷ x.b ∷ g ∷ last_generation o.generation ∷ o.range ∷ [])

      weighed : (w : Write) {by v : ℕ} → w.range ≡ by → w.generation ≡ Some v
          → fault_if (opposes x.a g w) (told w) ≡ fault_if (against x.a g by v) (fault 2 (x.a ∷ x.b ∷ g ∷ v ∷ by ∷ []))
      weighed w r u = rw (u, r)

-- by the record that was found
module _ (x : TraceRecord) (g : ℕ) (p : Past) {key : Key} (s : key ≡ (span_of 0 x).start) (pass : (report_of (at_last generations_at) (taken p)).verdict ≡ Pass) where
  of_key : {n : ℕ} → n ≡ last_write_at key (taken p) → n ≡ last_write_at (span_of 0 x).start (taken p)
  of_key f = f ∙ ap (λ (k : Key). last_write_at k (taken p)) s

  pub rise_none : 0 ≡ last_write_at key (taken p) → None ≡ rise_fault (write_of x (taken p)) g (writes (taken p))
  rise_none f = none_rises x g p.log.now p.count pass (of_key f) refl

  module _ {y : Taken} (t : IsTaken p y) (f : y.number ≡ last_write_at key (taken p)) {range by v : ℕ} (r : range ≡ x.a) (b : by ≡ (decode y.record.now).a)
      (u : v ≡ generation_by (record_at p.log.now (y.number - 1)) (hist p.log.now (y.number - 1))) where
    weighed : (index : ℕ) → index ≡ x.b
        → fault_if (against range g by v) (fault 2 (range ∷ index ∷ g ∷ v ∷ by ∷ [])) ≡ rise_fault (write_of x (taken p)) g (writes (taken p))
    weighed index q =
        let a : by ≡ (record_at p.log.now (y.number - 1)).a =
        b ∙ ap (λ (z : TraceRecord). z.a) (record_bytes p.log.now (y.number - 1) t.bytes) in
        rw (r, q, a, u) (rise_found x g p.log.now p.count pass (of_key f) (y.number - 1) (omega (arith, t.some)))

    pub rise_against : {index : ℕ} {c : Case} → against range g by v ≡ true → index ≡ x.b → c ≡ fault 2 (range ∷ index ∷ g ∷ v ∷ by ∷ [])
        → c ≡ rise_fault (write_of x (taken p)) g (writes (taken p))
    rise_against {index} t q e = e ∙ sym (ap (λ (s : Bool). fault_if s (fault 2 (range ∷ index ∷ g ∷ v ∷ by ∷ []))) t) ∙ weighed index q

    pub rise_clear : against range g by v ≡ false → None ≡ rise_fault (write_of x (taken p)) g (writes (taken p))
    rise_clear t = sym (ap (λ (s : Bool). fault_if s (fault 2 (range ∷ x.b ∷ g ∷ v ∷ by ∷ []))) t) ∙ weighed x.b refl
