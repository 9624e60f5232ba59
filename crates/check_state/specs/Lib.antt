-- The test that nobody waits beside what would serve him, and the whole check.
pub mod Unserved
