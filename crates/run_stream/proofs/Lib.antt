-- Laws of a recorder's lent numbers and bytes.
pub mod Taking
