-- The walk gives the blocks, which are weighed one after the other.
use borrow.Author.Tests.{tests}
use Rattle.std.proofs.Common.{rules}
use Rattle.std.proofs.lemmas.Iterator.Consumers.{fold_from_yields_List}
use Rattle.ids_unique.proofs.Walks.{walk_yields}
use Rattle.ids_unique.proofs.Sharing.{weigh_numbered, weighed_all}
use Rattle.ids_unique.proofs.block.shared_with.Goals as goal

pub returns : goal.returns
returns c =
    let a = c.args in
    λ k. weighed_all a.first a.last a.past.now.log.now a.past.now.count
    (fold_from_yields_List _ (weigh_numbered a.first a.last) _ _ c.fold.ensures.ran (walk_yields a.past.now k c.blocks_taken.ensures) (λ s x r q k. search (rules, tests)))
