-- `judge`: each check steps its own row, one after the other.
use Prim.Native.Nat.{◌≤◌}
use native.Mathlib.Omega.{arith}
use Rattle.rules.specs.declared.Opening.{Opening}
use Rattle.rules.specs.Descriptors.{agreement}
use Rattle.rules.proofs.Concerns.{agreement_none, pass_clear}
use Rattle.history.specs.Logs.{hist}
use Rattle.intake.proofs.Steps.{stepped, judged_all}
use Rattle.intake.proofs.judge.judge.Goals as goal

pub returns : goal.returns
returns c =
    let p = c.args.past.now in
    let o : Opening = record { tenant = c.args.tenant } in
    let at = c.event_after-position.result in
    let few : p.count ≤ 4096 = omega arith in
    judged_all o p.cap p.log.now p.work.now p.count c.args.events c.args.rec.now c.args.concerned at c.event_after-position.ensures few
    (stepped 0 (omega arith) o p.cap p.log.now p.work.now p.count c.args.rec.now at _ (λ a k i v. (rw (k.2, k.3) at k.4) i.descriptors (pass_clear agreement agreement_none (hist p.log.now p.count) v)) c.step.ensures)
    (stepped 1 (omega arith) o p.cap p.log.now p.work.now p.count c.args.rec.now at _ (λ a k i v. (rw (k.2, k.3) at k.4) i.owners) c.step-2.ensures)
    (stepped 2 (omega arith) o p.cap p.log.now p.work.now p.count c.args.rec.now at _ (λ a k i v. (rw (k.2, k.3) at k.4) i.owners) c.step-3.ensures)
    (stepped 3 (omega arith) o p.cap p.log.now p.work.now p.count c.args.rec.now at _ (λ a k i v. (rw (k.2, k.3) at k.4) i.owners) c.step-4.ensures)
    (stepped 4 (omega arith) o p.cap p.log.now p.work.now p.count c.args.rec.now at _ (λ a k i v. (rw (k.2, k.3) at k.4) (i.owners, i.half)) c.step-5.ensures)
    (stepped 5 (omega arith) o p.cap p.log.now p.work.now p.count c.args.rec.now at _ (λ a k i v. (rw (k.2, k.3) at k.4) i.firsts i.descriptors i.generations v) c.step-6.ensures)
    (stepped 6 (omega arith) o p.cap p.log.now p.work.now p.count c.args.rec.now at _ (λ a k i v. (rw (k.2, k.3) at k.4) i.firsts i.ids) c.step-7.ensures)
    (stepped 7 (omega arith) o p.cap p.log.now p.work.now p.count c.args.rec.now at _ (λ a k i v. (rw (k.2, k.3) at k.4) i.descriptors i.meta v) c.step-8.ensures)
