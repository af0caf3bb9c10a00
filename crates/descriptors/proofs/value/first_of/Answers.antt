-- What is found is the first value of the range and generation; what was passed over is none.
use mathlib.Core.Path.{refl, sym}
use mathlib.Core.Bool.{Bool}
use Prim.Native.Nat.{ℕ}
use Rattle.std.proofs.Common.{rules}
use borrow.Author.Tests.{tests}
use Rattle.history.specs.declared.walk.Taken.{Taken}
use Rattle.history.specs.Logs.{hist}
use Rattle.history.proofs.Pasts.{on_first}
use Rattle.history.proofs.Finds.{find_taken, find_is}
use Rattle.rules.specs.Descriptors.{first_at_generation}
use Rattle.descriptors.specs.Columns.{put_entry, put}
use Rattle.descriptors.specs.Answers.{of_generation}
use Rattle.descriptors.proofs.Walks.{generation_skip, generation_hit, generation_miss, generation_end}
use Rattle.descriptors.proofs.value.first_of.Goals as goal

-- the closure's test
abbrev passes : ℕ → ℕ → Taken → Bool
passes range generation old = of_generation range generation (put_entry old)

pub returns-clause-found : goal.returns-clause-found
returns-clause-found c =
    find_taken {test = passes c.args.range c.args.generation} (λ x b q k. search (rules, tests)) _ _ (on_first c.chain.ensures) c.find.ensures.ran

pub returns-clause-first : goal.returns-clause-first
returns-clause-first c = λ k.
    let a = c.args in
    let p = a.past.now in
    find_is {test = passes a.range a.generation} (λ x b q k. search (rules, tests)) (λ (n : ℕ). first_at_generation a.range a.generation (hist p.log.now n))
    (rw c.bucket_by_two-bucket.ensures.0 (generation_skip p.cap a.range a.generation p.log.now)) k.generation
    (λ y t n. generation_miss p.cap a.range a.generation t n)
    put
    (sym (generation_end p.cap a.range a.generation p.log.now))
    (λ y t w n. sym (generation_hit p.cap a.range a.generation t w n))
    _ _ refl c.bucket_by_two-bucket.ensures.1 c.chain.ensures c.find.ensures.ran
