-- Laws of the calls on flags.
pub mod FlagCalls
