-- What a memory shows, the acts of the rules done on it, and a memory for every view.
pub mod Picture
pub mod Perform
pub mod Form
