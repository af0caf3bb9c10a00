-- What a record puts and states: its value, at the index that its kind says.
use mathlib.Core.Path.{◌≡◌, refl, sym, ap, ◌∙◌}
use mathlib.Core.Bool.{Bool, true, false, cond}
use Rattle.std.proofs.lemmas.Option.{same_Some}
use Rattle.std.specs.Prelude.{Some}
use Prim.Native.Nat.{ℕ}
use native.Mathlib.Omega.{arith}
use Rattle.record.specs.declared.named.RangeCause.{RangeCause}
use Rattle.record.specs.declared.named.RangeCause.TheVariants.{Bootstrap, Split, Snapshot}
use Rattle.record.specs.Named.{cause_of}
use Rattle.record.specs.Records.{TraceRecord}
use Rattle.record.proofs.Booleans.{none_some}
use Rattle.rules.specs.History.{History, is_kind}
use Rattle.rules.specs.Descriptors.{Entry, Role, puts, states, neither, created_role, descriptor_role, reached, role_of, entry_at, put_by, stated_by, held_by, tells_put, tells_stated}

-- two different roles
puts_states : {A : Type 0} {i j : ℕ} → puts i ≡ states j → A
puts_states e = let z : ◌≡◌ {A = ℕ} 0 1 = cc in absurd (omega arith)

-- the role of a record, by its kind
role_by : TraceRecord → Bool → Bool → Bool → Role
role_by x one two reach = cond one (created_role (cause_of x.code) x.b) (cond two (descriptor_role reach x) neither)

created_puts : (k : RangeCause) (b i : ℕ) → created_role k b ≡ puts i → i ≡ b
created_puts Bootstrap b i e = cc
created_puts Split b i e = cc
created_puts Snapshot b i e = puts_states (sym e)

created_states : (k : RangeCause) (b i : ℕ) → created_role k b ≡ states i → i ≡ b
created_states Bootstrap b i e = puts_states e
created_states Split b i e = puts_states e
created_states Snapshot b i e = cc

by_puts : (x : TraceRecord) (one two reach : Bool) (i : ℕ) → role_by x one two reach ≡ puts i → i ≡ x.b
unfolding role_by
by_puts x true two reach i e = created_puts (cause_of x.code) x.b i e
by_puts x false true true i e = puts_states (sym e)
by_puts x false true false i e = cc
by_puts x false false reach i e = let z : ◌≡◌ {A = ℕ} 0 1 = cc in absurd (omega arith)

by_states : (x : TraceRecord) (one two reach : Bool) (i : ℕ) → role_by x one two reach ≡ states i → i ≡ cond one x.b x.c
unfolding role_by
by_states x true two reach i e = created_states (cause_of x.code) x.b i e
by_states x false true true i e = cc
by_states x false true false i e = puts_states e
by_states x false false reach i e = let z : ◌≡◌ {A = ℕ} 0 1 = cc in absurd (omega arith)

module _ (x : TraceRecord) (h : History) where
  -- a put is at B; a statement is at the floor of a RangeCreated, at the applied index of a RangeDescriptor
  puts_index : (i : ℕ) → role_of x h ≡ puts i → i ≡ x.b
  unfolding role_of role_by
  puts_index i e = by_puts x (is_kind 1 x) (is_kind 2 x) (reached x h x.node) i e

  states_index : (i : ℕ) → role_of x h ≡ states i → i ≡ cond (is_kind 1 x) x.b x.c
  unfolding role_of role_by
  states_index i e = by_states x (is_kind 1 x) (is_kind 2 x) (reached x h x.node) i e

  put_entry : (role : Role) {v : Entry} → role_of x h ≡ role → put_by role x h ≡ Some v → v ≡ entry_at x.b x h
  put_entry (puts i) {v} r e = sym (same_Some (entry_at i x h) v e) ∙ ap (λ (j : ℕ). entry_at j x h) (puts_index i r)
  put_entry (states i) r e = none_some e
  put_entry neither r e = none_some e

  stated_entry : (role : Role) {v : Entry} → role_of x h ≡ role → stated_by role x h ≡ Some v → v ≡ entry_at (cond (is_kind 1 x) x.b x.c) x h
  stated_entry (puts i) r e = none_some e
  stated_entry (states i) {v} r e = sym (same_Some (entry_at i x h) v e) ∙ ap (λ (j : ℕ). entry_at j x h) (states_index i r)
  stated_entry neither r e = none_some e

  -- so is what it tells
  pub puts_entry : {v : Entry} → tells_put x h ≡ Some v → v ≡ entry_at x.b x h
  puts_entry e = put_entry (role_of x h) refl e

  pub states_entry : {v : Entry} → tells_stated x h ≡ Some v → v ≡ entry_at (cond (is_kind 1 x) x.b x.c) x h
  states_entry e = stated_entry (role_of x h) refl e

  pub put_generation : {v : Entry} → tells_put x h ≡ Some v → v.held.generation ≡ x.d
  unfolding held_by
  put_generation e = ap (λ (u : Entry). u.held.generation) (puts_entry e)
