-- `memory_objects::marks::list_block` meets its contract. By its test. Assumes nothing.
use Rattle.memory_objects.proofs.Steps.{block_last, block_off}
use Rattle.memory_objects.proofs.marks.list_block.Goals as goal

pub returns-then-yes : goal.returns-then-yes
returns-then-yes c =
    rw c.if-yes.true (block_last _ _ _ c.block_node-node.ensures c.unlink.ensures c.free_anchor.ensures c.link.ensures)

pub returns-else-yes : goal.returns-else-yes
returns-else-yes c = rw c.if-yes.false (block_off _ _ _ c.block_node-node.ensures c.unlink.ensures)
