-- Laws of what is judged.
pub mod Tests
pub mod Refused
pub mod Judged
