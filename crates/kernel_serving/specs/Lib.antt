-- What an act of an event makes of the words.
pub mod Acting
