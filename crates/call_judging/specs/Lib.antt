-- What of a call is judged before its own rule.
pub mod Judging
