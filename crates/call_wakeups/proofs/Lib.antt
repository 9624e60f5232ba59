-- Laws of the calls that sleep and wake.
pub mod WakeCalls
