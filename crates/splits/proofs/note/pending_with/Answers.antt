-- By the kind, and by whether the record uses the pending one up.
use mathlib.Core.Path.{◌∙◌, ap}
use native.Mathlib.Omega.{arith}
use borrow.Author.Tests.{tests}
use Rattle.std.proofs.Common.{rules}
use Rattle.record.specs.Records.{decode}
use Rattle.history.specs.Pasts.{number_of}
use Rattle.history.proofs.Options.{filtered, numbered}
use Rattle.splits.proofs.States.{pendingly_is}
use Rattle.splits.proofs.Noting.{pending_new, pending_ended, pending_left, is_left, left_is}
use Rattle.splits.proofs.note.pending_with.Goals as goal

pub returns-in-7 : goal.returns-in-7
returns-in-7 c = let p = c.args.past.now in λ ix node e b. pending_new p.log.now p.count node (decode c.args.rec.now) b c.kind.ensures c.in-7.is

pub returns-in-6 : goal.returns-in-6
returns-in-6 c = let p = c.args.past.now in λ ix node e b. pending_ended p.log.now p.count node (decode c.args.rec.now) b c.kind.ensures c.in-6.is

pub returns-in_default : goal.returns-in_default
returns-in_default c =
    let p = c.args.past.now in
    let x = decode c.args.rec.now in
    let o = c.pending_of in
    λ ix node e b.
    pending_left p.log.now p.count node x b c.kind.ensures (λ z. search rules) (λ z. search rules) (λ z. search rules)
    (pendingly_is p.log.now node p.within (omega arith) e ix.1.pendings o.ensures.is)
    (numbered (λ y g. search rules) c.filter.result c.map_or.ensures
    ∙ ap number_of (filtered {test = is_left x} (λ y t g. search (rules, tests)) o.result c.filter.result c.filter.ensures)
    ∙ left_is p x o.result o.ensures.found)
