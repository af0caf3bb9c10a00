-- What a record's kind and node tell: a record has one kind, and what is said by cases of its node is said of the node that marks it.
use Rattle.std.specs.Prelude.{Some, None}
use mathlib.Core.Path.{◌≡◌, refl, sym, ap, ◌∙◌}
use mathlib.Core.Bool.{true, false}
use Prim.Native.Nat.{ℕ}
use borrow.Author.Tests.{eqb-true, eq-eqb, ne_eqb}
use Rattle.record.specs.Named.{Node}
use Rattle.record.specs.declared.named.NodeId.{NodeId}
use Rattle.record.specs.Records.{TraceRecord}
use Rattle.record.proofs.Booleans.{never}
use Rattle.rules.specs.History.{is_kind, by_node, is_by}

-- a record has one kind
pub kind_apart : (j k : ℕ) (x : TraceRecord) → (j ≡ k → ⊥) → is_kind j x ≡ true → is_kind k x ≡ false
kind_apart j k x n e = ne_eqb x.kind k (λ q. n (sym (eqb-true x.kind j e) ∙ q))

-- what is said by cases of a record's node is said of the node that it is marked with
pub by_marked : {A : Type 0} (f : ℕ → A) (g : Node → A) → ((n : ℕ) → g (Some (record { 0 = n })) ≡ f n)
    → (node : ℕ) (m : Node) → by_node node m ≡ true → g m ≡ f node
by_marked f g e node None h = never h refl
by_marked f g e node (Some m) h = e m.0 ∙ ap f (eqb-true m.0 node h)

-- a record that is marked with a node is that node's
pub by_itself : (node : NodeId) (x : TraceRecord) → x.node ≡ Some node → is_by node.0 x ≡ true
by_itself node x e = ap (by_node node.0) e ∙ eq-eqb node.0 node.0 refl
