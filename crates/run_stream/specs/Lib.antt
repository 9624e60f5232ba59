-- A recorder as lent numbers and bytes.
pub mod Lent
