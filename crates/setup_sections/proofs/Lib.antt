-- The theorems about words, entries and sections.
pub mod Reading
pub mod Judging
