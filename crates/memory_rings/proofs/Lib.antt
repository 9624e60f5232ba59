-- Laws of rings.
pub mod Lists
pub mod Ways
pub mod Laws
pub mod Columns
pub mod Halves
