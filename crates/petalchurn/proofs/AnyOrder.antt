-- Grants in any order, of the library: the ids reports in the buffers of two hosts that took the same grants, and how many holders an id
-- has. Assumes nothing.
use mathlib.Core.Path.{◌≡◌, sym, ◌∙◌}
use mathlib.Core.List.{List, Perm}
use Prim.Native.Nat.{ℕ}
use Rattle.rules.specs.declared.Opening.{Opening}
use Rattle.rules.specs.History.{History}
use Rattle.rules.specs.Reports.{passed}
use Rattle.rules.specs.AnyOrder.{grants_of, ids_place, Alike}
use Rattle.rules.proofs.AnyOrder.{ids_passes}
use Rattle.judge.specs.declared.lookup.Question.TheVariants.{HoldersOf}
use Rattle.demands.specs.Runs.{report_at}
use Rattle.demands.specs.AnyOrder.{OneHolder}
use Rattle.demands.proofs.AnyOrder.{one_held, ids_report, demands_any_order}
use Rattle.petalchurn.specs.declared.answer.Answer.{Answer}
use Rattle.petalchurn.specs.Lookups.{LooksWords}
use Rattle.petalchurn.specs.Runs.{Buffers, state_at, LibraryDemands}

-- the buffers of two hosts, after any calls, that took the same grants with the same repeats, in whichever order
pub hosts_any_order : {o p : Opening} {c d : ℕ} {h g : History} {y z : Buffers} → LibraryDemands o c h y → LibraryDemands p d g z
    → Perm (grants_of h) (grants_of g) → Alike (report_at ids_place (state_at y)) (report_at ids_place (state_at z))
hosts_any_order l m q = demands_any_order l.demand2 m.demand2 q

-- what `petalchurn_holders_of` returns and writes where the ids report passes
pub host_one_holder : {o : Opening} {c : ℕ} {h : History} {z : Buffers} → LibraryDemands o c h z → report_at ids_place (state_at z) ≡ passed
    → (id : ℕ) (out out' : List ℕ) (r : Answer) → LooksWords (HoldersOf id) z.state z.log z.work out out' r
    → OneHolder id h out r.refusal r.value out'
host_one_holder {o} {h = h} l e id out out' r w =
    let a = l.answered (HoldersOf id) out out' r w in
    one_held id h ((ids_passes o h).0 (sym (ids_report l.demand2) ∙ e)) out a.value a.list a.refusal
