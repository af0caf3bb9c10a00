-- The calls of a judge, what each is refused for, and the records that a list of them takes, by the table alone.
use Rattle.std.specs.Prelude.{cond, List, [], ◌∷◌, ℕ, length, eqb}
use Rattle.record.specs.Records.{decode}
use Rattle.rules.specs.History.{History}
use Rattle.decision.specs.Refusals.{refusal_after}
use Rattle.judge.specs.declared.ticket.Ticket.{Ticket}

-- a call, with whatever bytes or ticket it is given
pub data Call : Type 0 where
  push : List ℕ → Call
  commit : Ticket → Call
  preview : List ℕ → Call

-- what the table gives a call in a judge of this capacity that has taken the records of h. A commit: "Refusal 10 .. is given where the
-- ticket's count is not the judge's; a push's other checks then follow"; a preview "refuses exactly as a push of that record would"
abbrev pub call_refusal : ℕ → History → Call → ℕ
call_refusal cap h (push bytes) = refusal_after cap h bytes
call_refusal cap h (commit k) = cond (eqb k.count (length h)) (refusal_after cap h k.rec) 10
call_refusal cap h (preview bytes) = refusal_after cap h bytes

-- the records after a call that is not refused: a commit "ends exactly as a push of that record does", a preview "alters nothing"
abbrev pub effect : History → Call → History
effect h (push bytes) = decode bytes ∷ h
effect h (commit k) = decode k.rec ∷ h
effect h (preview bytes) = h

-- the records taken after a call: "A record is taken where the table gives its push no refusal"
abbrev pub after_call : ℕ → History → Call → History
after_call cap h c = cond (eqb (call_refusal cap h c) 0) (effect h c) h

-- the records that a list of calls takes after those of h
unfoldable pub taken_of : ℕ → List Call → History → History
taken_of cap [] h = h
taken_of cap (c ∷ cs) h = taken_of cap cs (after_call cap h c)

-- a list of calls without its previews
unfoldable pub erased : List Call → List Call
erased [] = []
erased (push bytes ∷ cs) = push bytes ∷ erased cs
erased (commit k ∷ cs) = commit k ∷ erased cs
erased (preview bytes ∷ cs) = erased cs

-- a list of calls after the records of h, with a push of its record in the place of each commit: one whose count is not that of the
-- records taken by then goes
unfoldable pub as_pushes : ℕ → List Call → History → List Call
as_pushes cap [] h = []
as_pushes cap (push bytes ∷ cs) h = push bytes ∷ as_pushes cap cs (after_call cap h (push bytes))
as_pushes cap (commit k ∷ cs) h =
    cond (eqb k.count (length h)) (push k.rec ∷ as_pushes cap cs (after_call cap h (commit k))) (as_pushes cap cs (after_call cap h (commit k)))
as_pushes cap (preview bytes ∷ cs) h = preview bytes ∷ as_pushes cap cs (after_call cap h (preview bytes))
