-- By the record that names the right range: where none does, nothing is registered.
use mathlib.Core.Path.{sym}
use Rattle.splits.proofs.Finding.{none_registered, split_registered}
use Rattle.splits.proofs.split.split_at.Goals as goal

pub returns-in_err-naming-clause-is : goal.returns-in_err-naming-clause-is
returns-in_err-naming-clause-is c =
    λ ix. rw c.from_residual.ensures (none_registered c.args.past.now c.requires c.named_by.ensures c.in_err-naming.ensures.is ix)

pub returns-clause-found : goal.returns-clause-found
returns-clause-found c =
    let t = c.requires in
    record {
      some = t.some;
      within = t.within;
      bytes = t.bytes;
      is = split_registered c.args.past.now t c.named_by.ensures c.in_ok-naming.ensures.found c.in_ok-naming.ensures.is c.right_of.ensures;
    }

pub returns-clause-is : goal.returns-clause-is
returns-clause-is c =
    λ ix. sym (split_registered c.args.past.now c.requires c.named_by.ensures c.in_ok-naming.ensures.found c.in_ok-naming.ensures.is c.right_of.ensures ix)
