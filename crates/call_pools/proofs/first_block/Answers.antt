-- `call_pools::first_block` meets its contract. Assumes nothing.
use mathlib.Core.Path.{◌∙◌}
use Rattle.call_objects.specs.Waiting.{first_block}
use Rattle.call_pools.proofs.first_block.Goals as goal

pub returns : goal.returns
unfolding first_block
returns c = c.saturating_sub.ensures ∙ rw (c.first.ensures, c.free_anchor.ensures, c.block_node.ensures)
