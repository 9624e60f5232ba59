-- The status calls, over the kind.
pub mod Status
