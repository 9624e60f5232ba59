-- Laws of lines that may be damaged.
pub mod Walks
