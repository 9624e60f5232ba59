-- Laws of the layout.
pub mod Tiling
pub mod OneBit
pub mod Frame
