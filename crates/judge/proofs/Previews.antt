-- A preview: what the core's answer shows. Assumes nothing.
use mathlib.Core.Path.{◌≡◌, refl, sym, ap, ◌∙◌}
use mathlib.Core.Bool.{Bool, false, cond}
use mathlib.Core.List.{List}
use Prim.Native.Nat.{ℕ}
use lib.Dec.{eqb}
use borrow.Author.Tests.{ne_eqb}
use Rattle.rules.specs.declared.Report.{Report}
use Rattle.record.proofs.Booleans.{never}
use Rattle.rows.specs.Rows.{reports_in}
use Rattle.intake.specs.Takes.{PreviewsIn}
use Rattle.decision.specs.declared.refusal.Refusal.{Refusal}
use Rattle.decision.specs.declared.refusal.Refusal.TheVariants.{Length, Kind, Value, Unused, Judge as Unfit, Full, Opening, Output, Ticket as Stale, Event}
use Rattle.decision.specs.Refusals.{refusal_number}
use Rattle.judge.specs.declared.state.Judge.{Judge}
use Rattle.judge.specs.declared.ticket.Ticket.{Ticket}
use Rattle.judge.specs.Tickets.{ticket_of, no_ticket}
use Rattle.judge.specs.States.{push_refusal, takes}
use Rattle.judge.specs.Pushes.{state_of}
use Rattle.judge.specs.Previews.{refused_reports, ticket_for, Previews}
use Rattle.judge.proofs.Pushes.{RowsOf, reports_more}

-- ---- what the core's answer shows

module _ (j : Judge) (log work rows bytes : List ℕ) {r : ℕ} {rows' : List ℕ} (are : RowsOf j rows)
    (p : PreviewsIn j.opening j.capacity j.count j.events log work rows bytes r rows') where
  number : r ≡ push_refusal (state_of j log work) bytes
  unfolding push_refusal
  number = p.refusal

  takes_is : takes (state_of j log work) bytes ≡ eqb r 0
  takes_is = ap (λ (n : ℕ). eqb n 0) (sym number)

  -- the ticket of a record that would be taken, and of one that is refused
  pub ticket_would : r ≡ 0 → ticket_of j.count bytes ≡ ticket_for (state_of j log work) bytes
  ticket_would z = sym (ap (λ (d : Bool). cond d (ticket_of j.count bytes) no_ticket) (takes_is ∙ ap (λ (n : ℕ). eqb n 0) z))

  pub ticket_refused : (r ≡ 0 → ⊥) → no_ticket ≡ ticket_for (state_of j log work) bytes
  ticket_refused z = sym (ap (λ (d : Bool). cond d (ticket_of j.count bytes) no_ticket) (takes_is ∙ ne_eqb r 0 z))

  module _ {n : ℕ} {rs : List Report} {k : Ticket} (q : n ≡ r) (t : k ≡ ticket_for (state_of j log work) bytes) where
    -- a record that would be taken
    pub shown_would : r ≡ 0 → rs ≡ reports_in rows' 0 → Previews (state_of j log work) bytes n rs k
    shown_would z e = record {
      refuses = q ∙ number;
      would = λ x h a. e ∙ reports_more j log work rows bytes are (p.judged z) h a;
      present = λ x. never (takes_is ∙ ap (λ (m : ℕ). eqb m 0) z) x;
      holds = t;
    }

    -- one that is refused
    pub shown_refused : (r ≡ 0 → ⊥) → rs ≡ refused_reports j.reports r → Previews (state_of j log work) bytes n rs k
    shown_refused z e = record {
      refuses = q ∙ number;
      would = λ x. never x (takes_is ∙ ne_eqb r 0 z);
      present = λ x. e ∙ ap (refused_reports j.reports) number;
      holds = t;
    }

-- only 5 is the judge's
pub other_number : (f : Refusal) → (f ≡ Unfit → ⊥) → eqb (refusal_number f) 5 ≡ false
other_number Length n = refl
other_number Kind n = refl
other_number Value n = refl
other_number Unused n = refl
other_number Unfit n = absurd (n refl)
other_number Full n = refl
other_number Opening n = refl
other_number Output n = refl
other_number Stale n = refl
other_number Event n = refl
