-- `preview`: what is not refused has room, and is judged.
use mathlib.Core.Path.{sym}
use Rattle.decision.proofs.Decisions.{room_of, room_bounds}
use Rattle.intake.proofs.Takes.{previews_on}
use Rattle.intake.proofs.preview.preview.Goals as goal

pub invariant_of-past : goal.invariant_of-past
invariant_of-past c =
    let b = room_bounds (room_of {bytes = c.args.bytes.now} (sym c.in_ok-decided.ensures.refused)) in
    record { log_holds = b.log_holds; work_holds = b.work_holds; within = b.within; positive = b.positive; small = b.small }

pub returns-clause-judges : goal.returns-clause-judges
returns-clause-judges c =
    previews_on (record { tenant = c.args.tenant }) c.args.cap c.args.n c.args.events c.args.log.now c.args.work.now c.args.rows.now c.args.bytes.now
    c.in_ok-decided.ensures.refused c.in_ok-decided.ensures.taken.0 c.in_ok-decided.ensures.taken.1 c.judge.ensures
