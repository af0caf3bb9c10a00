-- What is found tells the applied index, and what was passed over tells none.
use mathlib.Core.Path.{◌≡◌, refl, sym, ◌∙◌}
use mathlib.Core.Bool.{Bool}
use Prim.Native.Nat.{ℕ}
use Rattle.std.proofs.Common.{rules}
use borrow.Author.Tests.{tests}
use Rattle.record.specs.Records.{decode}
use Rattle.rules.specs.Descriptors.{applied}
use Rattle.history.specs.declared.walk.Taken.{Taken}
use Rattle.history.specs.Logs.{hist}
use Rattle.history.proofs.Finds.{find_is}
use Rattle.descriptors.proofs.Walks.{tells_of, told_index, applied_skip, applied_hit, applied_miss, applied_end}
use Rattle.descriptors.proofs.role.applied_of.Goals as goal

-- the closure's test
abbrev passes : ℕ → ℕ → Taken → Bool
passes node range old = tells_of node range (decode old.record.now)

pub returns : goal.returns
returns c = λ k.
    let a = c.args in
    let p = a.past.now in
    let found =
    find_is {test = passes a.id a.range} (λ x b q k. search (rules, tests)) (λ (n : ℕ). applied a.id a.range (hist p.log.now n))
    (rw (c.bucket_by_two-bucket.ensures.0, c.from.ensures) (applied_skip p.cap a.id a.range p.log.now)) k.applied
    (λ y t n. applied_miss a.id a.range t n)
    told_index
    (sym (applied_end a.id a.range p.log.now))
    (λ y t w n. applied_hit a.id a.range t n)
    _ _ refl c.bucket_by_two-bucket.ensures.1 c.chain.ensures c.find.ensures.ran in
    let told : c.map.result ≡ told_index c.find.result = search (rules, tests) in
    told ∙ found
