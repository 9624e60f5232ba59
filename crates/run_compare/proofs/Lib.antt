-- Laws of what a changed setup changes.
pub mod Words
pub mod Answers
pub mod Verdict
pub mod Exact
pub mod PlainText
pub mod Examples
