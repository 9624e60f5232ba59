-- `call_pools::pget_blk` meets its contract. It is its rule, with its last resort. Assumes nothing.
use mathlib.Core.Path.{refl}
use Rattle.rules.specs.Codes.{number}
use Rattle.call_objects.proofs.Taking.{poll_refused}
use Rattle.call_pools.proofs.PoolCalls.{none_taken, block_taken}
use Rattle.call_pools.proofs.pget_blk.Goals as goal

pub returns-in-Some : goal.returns-in-Some
returns-in-Some c = let h = c.in-Some.ensures in block_taken _ h.0 _ h.1 h.2 c.gives.ensures

pub returns-in-None : goal.returns-in-None
unfolding number
returns-in-None c = let h = c.in-None.ensures in rw h.1 (none_taken _ refl _ h.0 (poll_refused c.refuse.ensures))
