use native.Mathlib.Omega.{arith}
use Rattle.std.proofs.lemmas.Bool.Decides.{nat_tests}
use Rattle.memory_queues.specs.Moves.{wait_anchor}
use Rattle.memory_queues.proofs.wait_anchor.Goals as goal

pub returns-then-object-le-MAX_OBJECTS : goal.returns-then-object-le-MAX_OBJECTS
unfolding wait_anchor
returns-then-object-le-MAX_OBJECTS c = grind (arith, nat_tests)

pub returns-else-kind-le-POOL : goal.returns-else-kind-le-POOL
unfolding wait_anchor
returns-else-kind-le-POOL c = grind (arith, nat_tests)
