-- Laws of the walk of set_flg.
pub mod FlagSteps
pub mod FlagWalk
