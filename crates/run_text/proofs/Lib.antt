-- Laws of numbers, and of text in a lent output.
pub mod Decimal
pub mod Laid
