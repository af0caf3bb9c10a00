-- The words of the second and third demands: the calls of a judge, lists of them and what is claimed of what they leave.
pub mod Calls
pub mod Runs
pub mod Demand2
pub mod Pieces
pub mod AnyOrder
