-- The laws of a record's form: the shapes of kinds, stretches of zeros, what a record that draws no refusal has, and the voters.
pub mod Shapes
pub mod Zeros
pub mod Sound
pub mod Voters
