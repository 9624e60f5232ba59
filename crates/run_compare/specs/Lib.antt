-- What a changed setup changes, as text; what the code hands on from the runs to it; worked examples.
pub mod Difference
pub mod Playing
pub mod Exactly
pub mod Examples
