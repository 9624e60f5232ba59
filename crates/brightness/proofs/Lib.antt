-- Laws of brightness over the kernel.
pub mod Cells
pub mod Messages
pub mod DarkRoom
