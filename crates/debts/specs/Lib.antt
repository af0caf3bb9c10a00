-- What the walks for debts look for, and the split by which a node owes.
pub mod Walk
pub mod Debts
