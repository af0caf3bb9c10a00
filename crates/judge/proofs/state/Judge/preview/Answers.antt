-- `preview`: the reports go to rows, the record is judged or refused by the core, and the rows come back as the reports shown.
use mathlib.Core.Path.{◌≡◌, refl, ap, ◌∙◌}
use native.Mathlib.Omega.{arith}
use lib.ListN.{length}
use Rattle.decision.proofs.Decisions.{refuses}
use Rattle.judge.specs.Tickets.{ticket_of}
use Rattle.judge.proofs.Pushes.{RowsOf, written_size, written_fit, written_are}
use Rattle.judge.proofs.Previews.{ticket_would, ticket_refused, shown_would, shown_refused}
use Rattle.judge.proofs.state.Judge.preview.Goals as goal

pub returns-in-Err : goal.returns-in-Err
returns-in-Err c =
    let a = c.args in
    let rows = c.write_rows.new.out in
    let are : RowsOf a.self rows = written_are a.self c.write_rows.ensures in
    let e = c.in-Err.ensures.judges in
    let z = refuses c.in-Err.refusal in
    let none = ticket_refused a.self a.log.now a.work.now rows a.rec.now are e z in
    record {
      judge = refl;
      shows = shown_refused a.self a.log.now a.work.now rows a.rec.now are e refl (c.no_ticket.ensures ∙ none) z c.refused_reports.ensures;
    }

pub read_rows-shown-requires : goal.read_rows-shown-requires
read_rows-shown-requires c =
    let e = c.in-Ok.ensures.judges in
    let j = c.args.self in
    let n : length c.preview.new.rows ≡ 56 = e.size ∙ written_size j c.write_rows.ensures in
    (omega arith, e.fits (written_fit j c.write_rows.ensures))

pub returns-in-Ok : goal.returns-in-Ok
returns-in-Ok c =
    let a = c.args in
    let rows = c.write_rows.new.out in
    let are : RowsOf a.self rows = written_are a.self c.write_rows.ensures in
    let e = c.in-Ok.ensures.judges in
    let some = ticket_would a.self a.log.now a.work.now rows a.rec.now are e refl in
    let held = c.ticket_of.ensures ∙ ap (ticket_of a.self.count) c.in-Ok.ensures.whole in
    record {
      judge = refl;
      shows = shown_would a.self a.log.now a.work.now rows a.rec.now are e refl (held ∙ some) refl c.read_rows-shown.ensures;
    }
