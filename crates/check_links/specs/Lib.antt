-- The survey of links that may be damaged.
pub mod Survey
