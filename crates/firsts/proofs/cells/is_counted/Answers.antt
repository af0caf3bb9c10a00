-- A write at the range and index that counted is in the bucket, and what was passed over is none.
use mathlib.Core.Path.{refl, ◌∙◌}
use mathlib.Core.Bool.{Bool}
use Prim.Native.Nat.{ℕ}
use Rattle.std.proofs.Common.{rules}
use borrow.Author.Tests.{tests}
use Rattle.record.specs.Records.{decode}
use Rattle.history.specs.declared.walk.Taken.{Taken}
use Rattle.history.proofs.Finds.{any_is}
use Rattle.firsts.proofs.Grants.{read_at}
use Rattle.firsts.proofs.Writes.{placed_at, counted_in, counted_skip, counted_hit, counted_miss, counted_end}
use Rattle.firsts.proofs.cells.is_counted.Goals as goal

-- the closure's test
abbrev passes : ℕ → ℕ → Taken → Bool
passes range index old = placed_at range index (decode old.record.now)

pub returns : goal.returns
returns c = λ k.
    let p = c.args.past.now in
    let r = c.args.range in
    let i = c.args.index in
    any_is {test = passes r i} (λ x b q k. search (rules, tests)) (counted_in r i p.log.now)
    (rw c.bucket_by_two-bucket.ensures.0 (counted_skip r i p.log.now p.cap)) k
    (λ y t n. counted_miss r i p.log.now t.some (read_at (placed_at r i) _ _ t.bytes refl ∙ n))
    (counted_end r i p.log.now refl)
    (λ y t w n. counted_hit r i p.log.now p.cap t.some w (read_at (placed_at r i) _ _ t.bytes refl ∙ n))
    _ _ refl c.bucket_by_two-bucket.ensures.1 c.chain.ensures c.any.ensures.ran
