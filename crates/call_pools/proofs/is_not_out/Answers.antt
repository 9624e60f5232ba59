-- `call_pools::is_not_out` meets its contract. By its tests. Assumes nothing.
use native.Mathlib.Omega.{arith}
use native.Mathlib.Numerals.{sub-one}
use Rattle.std.proofs.lemmas.Bool.Decides.{nat_tests}
use Rattle.call_pools.specs.Blocks.{not_out}
use Rattle.call_pools.proofs.is_not_out.Goals as goal

pub returns-then-k-gt-MAX_BLOCKS : goal.returns-then-k-gt-MAX_BLOCKS
unfolding not_out
returns-then-k-gt-MAX_BLOCKS c = grind (arith, nat_tests, sub-one)

pub returns-else-k-gt-MAX_BLOCKS : goal.returns-else-k-gt-MAX_BLOCKS
unfolding not_out
returns-else-k-gt-MAX_BLOCKS c = grind (arith, nat_tests, sub-one)
