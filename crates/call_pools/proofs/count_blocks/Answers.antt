-- `call_pools::count_blocks` meets its contract. Assumes nothing.
use Rattle.call_pools.proofs.Blocks.{ones_bits}
use Rattle.call_pools.proofs.count_blocks.Goals as goal

pub returns : goal.returns
returns c = ones_bits 32 _ c.ranges.mask.fits
