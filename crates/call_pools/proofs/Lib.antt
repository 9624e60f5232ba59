-- Laws of the calls on pools.
pub mod Blocks
pub mod PoolCalls
