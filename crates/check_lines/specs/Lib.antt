-- What stands in the lines of a memory that may be damaged.
pub mod Lists
pub mod Lines
