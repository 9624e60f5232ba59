-- `call_pools::rel_blk` meets its contract. It is its rule. Assumes nothing.
use Rattle.rules.specs.Codes.{number}
use Rattle.call_pools.proofs.PoolCalls.{rel_bad, rel_serves, rel_frees}
use Rattle.call_pools.proofs.rel_blk.Goals as goal

pub returns-then-is_not_out : goal.returns-then-is_not_out
unfolding number
returns-then-is_not_out c =
    rel_bad _ _ c.is_not_out.ensures c.if-is_not_out.true c.refuse.ensures

pub returns-then-x-ne0 : goal.returns-then-x-ne0
returns-then-x-ne0 c =
    rel_serves _ _ c.is_not_out.ensures c.if-is_not_out.false c.first_waiter-x.ensures c.if-x-ne0.true c.release.ensures c.releases.ensures

pub returns : goal.returns
returns c =
    rel_frees _ _ c.is_not_out.ensures c.if-is_not_out.false c.first_waiter-x.ensures c.if-x-ne0.false c.mark_block.ensures c.done.ensures
