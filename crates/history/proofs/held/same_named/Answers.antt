-- Start, end and voters, each compared where it lies. The answer is the definition's test, which is exact.
use mathlib.Core.Path.{◌≡◌, ◌∙◌}
use mathlib.Core.Bool.{Bool, ◌&&◌}
use Rattle.record.specs.Keys.{Key, key_eqb, list_eqb}
use Rattle.record.specs.Records.{decode}
use Rattle.record.proofs.Records.{decode_voters}
use Rattle.rules.specs.Descriptors.{Held, held_by, named_eqb}
use Rattle.record.proofs.Booleans.{means}
use Rattle.rules.proofs.Same.{named_exactly}
use Rattle.history.proofs.held.same_named.Goals as goal

-- three answers about keys and voters that are those of two values
of_values : (v w : Held) {starts ends voters : Bool} {k l m n : Key}
    → starts ≡ key_eqb k l → k ≡ v.start → l ≡ w.start
    → ends ≡ key_eqb m n → m ≡ v.end → n ≡ w.end
    → voters ≡ list_eqb v.voters w.voters → starts && ends && voters ≡ named_eqb v w
of_values v w s k l e m n t = rw (s, k, l, e, m, n, t)

pub returns : goal.returns
unfolding held_by
returns c =
    let whole = (let ends = c in
    let starts = ends in
    let args = starts.args in
    let v = held_by (decode args.a.now) in
    let w = held_by (decode args.b.now) in
    means
    (of_values v w
    starts.same_key.ensures starts.start_of.ensures starts.start_of-2.ensures
    ends.same_key-2.ensures ends.end_of.ensures ends.end_of-2.ensures
    (c.same_voters.ensures ∙ rw (decode_voters args.a.now, decode_voters args.b.now)))
    (named_exactly v w)) in record { answer = whole.0; exactly = whole.1 }
