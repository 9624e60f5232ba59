use native.Mathlib.Omega.{arith}
use Rattle.std.proofs.lemmas.Bool.Decides.{nat_tests}
use Rattle.memory_objects.specs.Moves.{marked}
use Rattle.memory_objects.proofs.Steps.{block_in}
use Rattle.memory_objects.proofs.marks.mark_block.Goals as goal

pub returns-then-k-le-MAX_BLOCKS : goal.returns-then-k-le-MAX_BLOCKS
returns-then-k-le-MAX_BLOCKS c =
    block_in _ _ _ _ (λ z. omega arith) c.if-k-le-MAX_BLOCKS.true c.get-mask.ensures c.with_bit.ensures c.set.ensures c.list_block.ensures

pub returns-else-k-ge1 : goal.returns-else-k-ge1
unfolding marked
returns-else-k-ge1 c = grind (arith, nat_tests)
