-- Read at the latest record of the node, which alone changes it.
use Rattle.splits.proofs.States.{server_is}
use Rattle.rules.proofs.Servers.{same_server}
use Rattle.splits.proofs.state.server_of.Goals as goal

pub returns : goal.returns
returns c =
    let a = c.args in
    λ ix. same_server _ _ (server_is a.past.now.log.now a.node.0 ix.1.servers a.past.now.within c.requires (c.latest_of-last.ensures.latest ix.0)
    c.server_by.ensures)
