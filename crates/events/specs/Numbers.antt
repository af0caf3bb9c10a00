-- The number of events as a word of a judge.
use Rattle.std.specs.Prelude.{cond, ◌||◌, ℕ, ◌+◌, eqb}
use Rattle.record.specs.Records.{TraceRecord}
use Rattle.rules.specs.Events.{continues}

-- the greatest number of a word
abbrev pub most : ℕ
most = 18446744073709551615

-- how many events there are with one more record, after n of them, in a word: `event_after`, but the greatest number stays, which no
-- run reaches
abbrev pub event_in : ℕ → TraceRecord → ℕ
event_in n x = cond (continues x || eqb n most) n (n + 1)
