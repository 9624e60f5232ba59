-- Laws of sums.
pub mod Onward
pub mod Fits
pub mod Exact
