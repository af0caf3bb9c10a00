-- The two cells, by what the node's latest record says.
use mathlib.Core.Path.{◌≡◌, ◌∙◌}
use mathlib.Core.Bool.{not, ◌&&◌}
use native.Mathlib.Omega.{arith}
use Rattle.std.proofs.Common.{rules}
use Rattle.record.specs.Records.{decode}
use Rattle.rules.specs.OneOwnerPerKey.{is_holding, has_hold}
use Rattle.history.specs.Logs.{hist}
use Rattle.history.proofs.Logs.{hist_length}
use Rattle.one_owner_per_key.specs.Columns.{bit}
use Rattle.one_owner_per_key.proofs.AsOf.{end_is, newest_is}
use Rattle.one_owner_per_key.proofs.Checks.{newly_word, ended_word}
use Rattle.one_owner_per_key.proofs.note.cells_of.Goals as goal

pub returns : goal.returns
returns c =
    let p = c.args.past.now in
    let n = c.args.node in
    let x = decode c.args.rec.now in
    let h = hist p.log.now p.count in
    λ k m.
    let l = c.latest_of-last.ensures.latest k in
    let e = c.end_by-ended.ensures.1 ∙ end_is p.log.now p.count n.0 k p.within (omega arith) l in
    let w = c.latest_newly.ensures.1 ∙ newest_is p.log.now p.count n.0 k p.within (omega arith) l in
    let b : c.is_newly_held-newly.result ≡ is_holding x && not (has_hold n.0 x.a h) = c.is_newly_held-newly.ensures k e in
    let v : c.from.result ≡ bit (is_holding x && not (has_hold n.0 x.a h)) = search rules in
    (newly_word n x h m w v, ended_word n x h m (hist_length p.log.now p.count) e c.end_with.ensures)
