-- What is found is the key's last write; what was passed over has none.
use mathlib.Core.Path.{refl, sym}
use mathlib.Core.Bool.{Bool}
use Prim.Native.Nat.{ℕ}
use Rattle.std.proofs.Common.{rules}
use borrow.Author.Tests.{tests}
use Rattle.record.specs.Keys.{Key, key_in}
use Rattle.record.specs.Records.{decode}
use Rattle.history.specs.declared.walk.Taken.{Taken}
use Rattle.history.specs.Logs.{hist}
use Rattle.history.specs.Pasts.{number_of}
use Rattle.history.proofs.Pasts.{on_first}
use Rattle.history.proofs.Finds.{find_taken, find_is}
use Rattle.generations_rise.specs.Columns.{last_write_at}
use Rattle.generations_rise.proofs.KeyWrites.{starts_with, last_skip, last_hit, last_miss, last_end}
use Rattle.generations_rise.proofs.cells.last_write_at.Goals as goal

-- the closure's test
abbrev passes : Key → Taken → Bool
passes key old = starts_with key (decode old.record.now)

pub returns-clause-found : goal.returns-clause-found
returns-clause-found c =
    find_taken {test = passes (key_in c.args.place.now)} (λ x b q k. search (rules, tests)) _ _ (on_first c.chain.ensures) c.find.ensures.ran

pub returns-clause-last : goal.returns-clause-last
returns-clause-last c = λ k.
    let p = c.args.past.now in
    let key = key_in c.args.place.now in
    find_is {test = passes key} (λ x b q k. search (rules, tests)) (λ (n : ℕ). last_write_at key (hist p.log.now n))
    (rw c.bucket_by_key-bucket.ensures.0 (last_skip key p.log.now p.cap)) k.keys
    (λ y t n. last_miss key t n)
    number_of
    (sym (last_end key p.log.now))
    (λ y t w n. sym (last_hit key t w n))
    _ _ refl c.bucket_by_key-bucket.ensures.1 c.chain.ensures c.find.ensures.ran
