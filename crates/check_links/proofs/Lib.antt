-- Laws of the survey.
pub mod Counts
pub mod Bits
pub mod Surveys
pub mod Steps
