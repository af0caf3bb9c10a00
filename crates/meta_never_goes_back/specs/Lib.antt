-- What the column of `MetaNeverGoesBack` holds and what a note promises, and what the parts of the check say.
pub mod Columns
pub mod Walk
