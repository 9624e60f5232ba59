-- `call_pools::get_blk` meets its contract. It is its rule, with its last resort. Assumes nothing.
use mathlib.Core.Path.{refl}
use Rattle.rules.specs.State.{pool}
use Rattle.call_objects.proofs.Taking.{caller_waits}
use Rattle.call_pools.proofs.PoolCalls.{none_taken, block_taken}
use Rattle.call_pools.proofs.get_blk.Goals as goal

pub returns-in-Some : goal.returns-in-Some
returns-in-Some c = let h = c.in-Some.ensures in block_taken _ h.0 _ h.1 h.2 c.gives.ensures

pub returns : goal.returns
returns c = let h = c.in_default.ensures in none_taken _ refl _ h.0 (caller_waits pool (rw h.1 at c.wait.ensures) c.waits.ensures)
