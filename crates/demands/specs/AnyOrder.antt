-- Grants in any order, of the judge: any run from any opening, and what a look-up of an id's holders gives where the ids report passes.
use Rattle.std.specs.Prelude.{◌≡◌, true, false, List, [], ◌∷◌, ℕ, ◌≤◌, length, drop}
use Rattle.rules.specs.declared.Opening.{Opening}
use Rattle.rules.specs.History.{History, Mem}
use Rattle.rules.specs.IdsUnique.{Grant, contains}
use Rattle.rules.specs.AnyOrder.{grants_of}
use Rattle.intake.specs.Words.{Indexed}
use Rattle.judge.specs.declared.opening.Opened.{Opened}
use Rattle.judge.specs.States.{State}
use Rattle.judge.specs.Openings.{Fits, Opens}
use Rattle.demands.specs.Calls.{Call, taken_of}
use Rattle.demands.specs.Runs.{Run}
use Rattle.judge.specs.Pushes.{state_of}

-- a run that took the records of h and left t: an opening without refusal, whatever its numbers and whatever the log held, and any list of
-- calls after it, refused ones included
pub record RunOf (h : History) (t : State) : Type 0 where
  pub opening : Opening
  pub capacity : ℕ
  pub log : List ℕ
  pub work : List ℕ
  pub work' : List ℕ
  pub opened : Opened
  pub calls : List Call
  pub fits : Fits (length log) (length work) capacity
  pub opens : Opens opening (length log) work opened work'
  pub run : Run Indexed (state_of opened.judge log work') calls t
  pub takes : taken_of capacity calls [] ≡ h

-- "`holders_of` gives at most one holder", of a look-up's refusal, its value and the list that it was lent: the value is 1 at most, no word
-- but the first is written, and a list of one word or more is never refused. Where a grant contains the id there is a holder, that grant's
-- node, be the grant the first at its index or a repeat; where none does there is none
pub record OneHolder (id : ℕ) (h : History) (out : List ℕ) (refusal value : ℕ) (out' : List ℕ) : Type 0 where
  pub most : value ≤ 1
  pub rest : drop 1 out' ≡ drop 1 out
  pub room : 1 ≤ length out → refusal ≡ 0
  pub holder : (g : Grant) → Mem g (grants_of h) → contains id g ≡ true → 1 ≤ length out → (value ≡ 1) × (out' ≡ g.node ∷ drop 1 out)
  pub nobody : ((g : Grant) → Mem g (grants_of h) → contains id g ≡ false) → (refusal ≡ 0) × (value ≡ 0) × (out' ≡ out)
