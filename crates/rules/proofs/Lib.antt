-- What is proved of the rules: the table of examples, and the laws that show what the definitions mean.
pub mod Examples
-- lists and look-backs: steps for one more record, and what each finds
pub mod Skips
pub mod Tellings
pub mod Voters
pub mod Members
pub mod Permutations
pub mod Placed
pub mod Best
pub mod Firsts
pub mod Numbered
pub mod Once
pub mod CaseLists
-- a record
pub mod Marks
pub mod Spans
-- reports
pub mod Beginnings
pub mod Events
pub mod Reports
pub mod ByEvents
-- the table of checks
pub mod CaseKinds
pub mod Concerns
pub mod Checks
-- descriptors
pub mod Same
pub mod Roles
pub mod Standing
pub mod LookUps
pub mod Answers
pub mod Agreement
-- ids
pub mod Blocks
pub mod InOrder
pub mod Grants
pub mod Disjoint
pub mod AnyOrder
-- generations
pub mod Writes
pub mod Rising
-- owners, and the right half
pub mod Groups
pub mod Holds
pub mod Owners
pub mod Servers
pub mod Registering
pub mod OwnDebts
pub mod Debts
pub mod Applied
pub mod Arising
pub mod Candidates
pub mod Lowest
pub mod Owed
pub mod Traced
pub mod Missing
pub mod Half
-- meta
pub mod KeyLists
pub mod MetaLeast
pub mod MetaCases
pub mod MetaWalks
pub mod MetaHighest
