-- The inner loop of the walk: over the names, which one stands at the cursor and where the piece ends.
use mathlib.Core.Path.{◌≡◌, sym, ap, ◌∙◌}
use mathlib.Core.Bool.{true}
use mathlib.Core.List.{List, ◌∷◌}
use mathlib.Core.Logic.{◌⊎◌, inl, inr, ⊎_elim}
use Rattle.std.specs.Prelude.{Option, None}
use Prim.Native.Nat.{ℕ, ◌-◌, ◌<◌}
use native.Mathlib.Omega.{arith}
use Rattle.record.specs.Keys.{Key, key_in, Lt, Le}
use Rattle.record.specs.Records.{TraceRecord, decode}
use Rattle.record.proofs.Keys.{le_le_le}
use Rattle.rules.specs.Descriptors.{span_of}
use Rattle.rules.specs.MetaNeverGoesBack.{Name, is_won, names, standing_name, bounds}
use Rattle.rules.proofs.Members.{Mem, here, there}
use Rattle.rules.proofs.MetaLeast.{bounds_cases, bounds_none}
use Rattle.rules.proofs.MetaWalks.{ends}
use Rattle.history.specs.declared.past.Past.{Past}
use Rattle.history.specs.declared.walk.Taken.{Taken}
use Rattle.history.specs.Logs.{record_at, hist}
use Rattle.history.proofs.Logs.{record_bytes}
use Rattle.history.specs.Weighing.{greater_of}
use Rattle.history.proofs.Queries.{greater_none}
use Rattle.meta_never_goes_back.specs.Columns.{MetaIndexed, name_before}
use Rattle.meta_never_goes_back.specs.declared.names.Names.{Names}
use Rattle.meta_never_goes_back.specs.Walk.{named, named_by, NameGoes, stood_with, pull}
use Rattle.meta_never_goes_back.proofs.Naming.{Down, first_down, next_down, next_past, name_taken, name_left, names_end}
use Rattle.meta_never_goes_back.proofs.Pieces.{Pulled, pull_is, start_of, end_of}
use Rattle.meta_never_goes_back.proofs.Stood.{index_of, stood_turn, stood_end}

-- ---- the inner loop: of the names of the first n records, those before place i are left

pub record Seen (log : List ℕ) (n : ℕ) (c : Key) (best : Option Name) (next : Key) (i : ℕ) : Type 0 where
  pub here : 0 < i → is_won (record_at log (i - 1)) ≡ true
  pub stand : standing_name (names (hist log n)) c ≡ greater_of index_of best (standing_name (names (hist log i)) c)
  pub gap : (b : Key) → Mem b (bounds (names (hist log n))) → Lt c b → Le next b ⊎ Mem b (bounds (names (hist log i)))

seen_first : {log : List ℕ} {n i : ℕ} (c next : Key) → Down log n i → Seen log n c None next i
seen_first {log} c next d = record {
  here = d.here;
  stand = ap (λ (ns : List Name). standing_name ns c) d.same ∙ sym (greater_none index_of _);
  gap = λ b m l. inr (rw (ap bounds d.same) at m);
}

-- a turn: the name y, which begins at x and ends at z; near and far are what the calls gave
module _ {p : Past} {s t : Names} {y : Taken} (o : s.past ≡ p) (g : NameGoes s y t) {c next : Key} {best : Option Name}
    (w : Seen p.log.now p.count c best next s.next) where
  seen_more : {best' : Option Name} {x z near far : Key} → best' ≡ stood_with c best (named_by y)
      → x ≡ (named_by y).start → z ≡ (named_by y).end → near ≡ pull c x next → far ≡ pull c z near
      → MetaIndexed p.cap (hist p.log.now p.count) p.work.now → Seen p.log.now p.count c best' far t.next
  seen_more {best'} {x} {z} {near} {far} u h q a b m =
      let d = next_down o g m in
      let older = names (hist p.log.now (s.next - 1)) in
      let e : names (hist p.log.now s.next) ≡ named_by y ∷ older = name_left o g (w.here g.some) in
      let k : Pulled c x next near = rw a (pull_is c x next) in
      let f : Pulled c z near far = rw b (pull_is c z near) in
      record {
        here = d.here;
        stand = w.stand
            ∙ ap (λ (ns : List Name). greater_of index_of best (standing_name ns c)) e
            ∙ stood_turn c (named_by y) older best
            ∙ ap (λ (v : Option Name). greater_of index_of v (standing_name older c)) (sym u)
            ∙ ap (λ (ns : List Name). greater_of index_of best' (standing_name ns c)) d.same;
        gap = λ v m u.
            ⊎_elim
            (λ l. inl (le_le_le f.kept (le_le_le k.kept l)))
            (λ l. bounds_cases (named_by y) older (rw (ap bounds e) at l)
            (λ r. let e : v ≡ x = r ∙ sym h in inl (le_le_le f.kept (rw e (k.new (rw e at u)))))
            (λ r. let e : v ≡ z = r ∙ sym q in inl (rw e (f.new (rw e at u))))
            (λ r. inr (rw (ap bounds d.same) at r)))
            (w.gap v m u);
      }

-- all names are seen
module _ {log : List ℕ} {n : ℕ} {c next : Key} {best : Option Name} {i : ℕ} (e : i ≡ 0) (s : Seen log n c best next i) where
  pub seen_stand : standing_name (names (hist log n)) c ≡ best
  seen_stand = s.stand ∙ ap (λ (ns : List Name). greater_of index_of best (standing_name ns c)) (names_end log e) ∙ stood_end c best

  pub seen_gap : (b : Key) → Mem b (bounds (names (hist log n))) → Lt c b → Le next b
  seen_gap b m u = ⊎_elim (λ w. w) (λ w. bounds_none (rw (ap bounds (names_end log e)) at w)) (s.gap b m u)

-- the inner loop as the code has it; what needs no column stands first: the next end is above the cursor, and is one of finitely
-- many keys
pub record Turn (p : Past) (end cur : List ℕ) (standing : Option Taken) (next : List ℕ) (s : Names) : Type 0 where
  pub past : s.past ≡ p
  pub up : Lt (key_in cur) (key_in next)
  pub mem : Mem (key_in next) (key_in end ∷ ends (hist p.log.now p.count))
  pub seen : MetaIndexed p.cap (hist p.log.now p.count) p.work.now → Seen p.log.now p.count (key_in cur) (named standing) (key_in next) s.next

module _ {p : Past} {end cur : List ℕ} where
  pub turn_first : {s : Names} → Lt (key_in cur) (key_in end) → s.past ≡ p → s.next ≡ name_before p.cap p.work.now p.count → Turn p end cur None end s
  turn_first l o e = record { past = o; up = l; mem = here; seen = λ c. seen_first (key_in cur) (key_in end) (first_down p c e) }

  pub turn_more : {s t : Names} {y : Taken} {standing standing' : Option Taken} {next far : List ℕ} {x z near : Key} → Turn p end cur standing next s
      → NameGoes s y t → named standing' ≡ stood_with (key_in cur) (named standing) (named_by y)
      → x ≡ (named_by y).start → near ≡ pull (key_in cur) x (key_in next)
      → z ≡ (named_by y).end → key_in far ≡ pull (key_in cur) z near → Turn p end cur standing' far t
  turn_more {s} {t} {y} {next = next} {far} {x} {z} {near} w g u h a q b =
      let i = name_taken w.past g in
      let k = y.number - 1 in
      let l : k < p.count = omega (arith, i.some, i.within) in
      let r : decode y.record.now ≡ record_at p.log.now k = record_bytes p.log.now k i.bytes in
      let h' : x ≡ (span_of 1 (record_at p.log.now k)).start = h ∙ ap (λ (v : TraceRecord). (span_of 1 v).start) r in
      let q' : z ≡ (span_of 1 (record_at p.log.now k)).end = q ∙ ap (λ (v : TraceRecord). (span_of 1 v).end) r in
      let m : Pulled (key_in cur) x (key_in next) near = rw a (pull_is (key_in cur) x (key_in next)) in
      let f : Pulled (key_in cur) z near (key_in far) = rw b (pull_is (key_in cur) z near) in
      record {
        past = next_past w.past g;
        up = f.up (m.up w.up);
        mem = f.mem (there (rw q' (end_of p.log.now p.count k l))) (m.mem (there (rw h' (start_of p.log.now p.count k l))) w.mem);
        seen = λ c. seen_more w.past g (w.seen c) u h q a b c;
      }
