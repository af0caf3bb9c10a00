-- `take`: what is not refused has room to be kept.
use mathlib.Core.Path.{refl}
use Rattle.intake.proofs.Takes.{keepable}
use Rattle.intake.proofs.take.take.Goals as goal

pub keep-requires : goal.keep-requires
keep-requires c =
    keepable (record { tenant = c.args.tenant }) c.args.cap c.args.n c.args.events c.args.log.now c.args.work.now c.args.rows.now c.args.bytes.now
    c.in_ok-rec.ensures.judges refl
