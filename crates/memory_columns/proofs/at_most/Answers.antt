-- `memory_columns::at_most` meets its contract. By its test. Assumes nothing.
use native.Mathlib.Omega.{arith}
use borrow.Author.Tests.{le-leb, lt-leb}
use Rattle.memory_columns.proofs.at_most.Goals as goal

pub returns-then-n-most : goal.returns-then-n-most
returns-then-n-most c = (simp (le-leb _ _ c.if-n-most.true), c.if-n-most.true)

pub returns-else-n-most : goal.returns-else-n-most
returns-else-n-most c = (simp (lt-leb _ _ c.if-n-most.false), omega arith)
