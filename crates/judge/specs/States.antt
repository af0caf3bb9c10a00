-- The judge with its log and its work area, and which refusals a push and a commit draw.
use Rattle.std.specs.Prelude.{Bool, cond, List, ℕ, length, eqb}
use Rattle.decision.specs.Refusals.{suits_by, push_refusal_by}
use Rattle.judge.specs.declared.state.Judge.{Judge}
use Rattle.judge.specs.declared.ticket.Ticket.{Ticket}

-- a judge with the log and the work area that it is lent
pub record State : Type 0 where
  pub judge : Judge
  pub log : List ℕ
  pub work : List ℕ

unfoldable pub suits : State → Bool
suits s = suits_by s.judge.capacity s.judge.count (length s.log) (length s.work)

unfoldable pub push_refusal : State → List ℕ → ℕ
push_refusal s bytes = push_refusal_by s.judge.capacity s.judge.count s.log (length s.work) bytes

-- "A record is taken where the table gives its push no refusal"
abbrev pub takes : State → List ℕ → Bool
takes s bytes = eqb (push_refusal s bytes) 0

-- "Refusal 10 follows 5 and is given where the ticket's count is not the judge's; a push's other checks then follow"
unfoldable pub commit_refusal : State → Ticket → ℕ
commit_refusal s k = cond (suits s) (cond (eqb k.count s.judge.count) (push_refusal s k.rec) 10) 5
