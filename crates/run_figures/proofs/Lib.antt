-- Laws of counting.
pub mod Going
pub mod Division
