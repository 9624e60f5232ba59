-- What the acts on blocks and time write.
pub mod Moves
