-- What is found is the newest first grant at the index; what was passed over has none.
use mathlib.Core.Path.{refl, sym, ◌∙◌}
use Rattle.std.proofs.Common.{rules}
use borrow.Author.Tests.{tests}
use Rattle.history.proofs.Pasts.{on_first}
use Rattle.history.proofs.Finds.{find_taken, find_is}
use Prim.Native.Nat.{ℕ}
use mathlib.Core.Bool.{Bool}
use Rattle.history.specs.declared.walk.Taken.{Taken}
use Rattle.history.specs.Logs.{hist}
use Rattle.history.specs.Pasts.{number_of}
use Rattle.firsts.specs.Columns.{first_grant_at}
use Rattle.record.specs.Records.{decode}
use Rattle.firsts.proofs.Grants.{read_at, grants_at, grant_skip, grant_hit, grant_miss, grant_end}
use Rattle.firsts.proofs.cells.grant_at.Goals as goal

-- the closure's test
abbrev passes : ℕ → Taken → Bool
passes index old = grants_at index (decode old.record.now)

pub returns-clause-found : goal.returns-clause-found
returns-clause-found c =
    find_taken {test = passes c.args.index} (λ x b q k. search (rules, tests)) _ _ (on_first c.chain.ensures) c.find.ensures.ran

pub returns-clause-first : goal.returns-clause-first
returns-clause-first c = λ k.
    let p = c.args.past.now in
    let i = c.args.index in
    find_is {test = passes i} (λ x b q k. search (rules, tests)) (λ (n : ℕ). first_grant_at i (hist p.log.now n))
    (rw c.bucket_by-bucket.ensures.0 (grant_skip i p.log.now p.cap)) k
    (λ y t n. grant_miss i p.log.now t.some (read_at (grants_at i) _ _ t.bytes refl ∙ n))
    number_of
    (sym (grant_end i p.log.now refl))
    (λ y t w n. sym (grant_hit i p.log.now p.cap t.some w (read_at (grants_at i) _ _ t.bytes refl ∙ n)))
    _ _ refl c.bucket_by-bucket.ensures.1 c.chain.ensures c.find.ensures.ran
