-- What the calls on pools read.
pub mod Blocks
