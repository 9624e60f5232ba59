-- Two setups and one run as bytes.
pub mod Compared
