-- What is proved of every list of calls: the second and third demands, previews and commits, a whole trace, positions from 1 and grants
-- in any order.
pub mod Demand3
pub mod Positions
pub mod WorkAfter
pub mod Previews
pub mod Commits
pub mod Demand2
pub mod Traces
pub mod Pieces
pub mod AnyOrder
