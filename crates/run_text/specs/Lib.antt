-- The lines of a text, the text of a recorded run, and what a lent output holds then.
pub mod Ascii
pub mod Lines
pub mod Text
pub mod Output
