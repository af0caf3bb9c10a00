-- A walk along the range's statements, newest first: each that becomes faulty replaces the one found before, so the earliest stays.
use mathlib.Core.Path.{◌≡◌}
use Rattle.record.specs.Records.{decode}
use Rattle.rules.specs.Descriptors.{entry_at, standing, stated}
use Rattle.rules.specs.History.{earliest_of}
use Rattle.history.proofs.Chains.{Stands}
use Rattle.history.proofs.Pasts.{OnPast}
use Rattle.history.specs.Buckets.{bucket_by}
use Rattle.history.specs.Pasts.{taken, Indexed}
use Rattle.history.specs.Places.{stated_links}
use Rattle.descriptors.specs.Agreement.{next_in, last_in, new_faulty}
use Rattle.descriptors.specs.Columns.{DescriptorsIndexed, stated_bucket, put}
use Rattle.descriptors.proofs.Faulty.{Earliest}
use Rattle.descriptors.proofs.check.first_faulty.Given as goal

abbrev pub invariant-loop-old : goal.invariant-loop-old
invariant-loop-old l =
    let x = decode l.new.record.now in
    let p = entry_at l.new.index x (taken l.past) in
    let vs = standing (taken l.past) in
    (OnPast l.past stated_links l.old-iterator)
    × (Indexed DescriptorsIndexed l.past → put l.new.next ≡ next_in p vs → put l.new.last ≡ last_in p vs
    → Stands (stated_bucket l.past.cap) (bucket_by l.past.cap x.a) l.past.log.now (Earliest l.past.log.now (new_faulty p vs) l.earliest)
    (earliest_of (new_faulty p vs) (stated (taken l.past))) l.old-iterator.next)
