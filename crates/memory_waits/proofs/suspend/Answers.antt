use mathlib.Core.Path.{◌∙◌}
use native.Mathlib.Omega.{arith}
use borrow.Author.Tests.{ne_eqb}
use Rattle.memory_waits.specs.Waits.{halted}
use Rattle.memory_waits.proofs.suspend.Goals as goal

pub returns-in-1 : goal.returns-in-1
unfolding halted
returns-in-1 c = simp (← c.get.ensures, c.in-1.is) (c.leave.ensures ∙ rw c.set.ensures)

pub returns-in-3 : goal.returns-in-3
unfolding halted
returns-in-3 c = simp (← c.get.ensures, c.in-3.is) c.set-in-3.ensures

pub returns-in_default : goal.returns-in_default
unfolding halted
returns-in_default c = simp (← c.get.ensures, ne_eqb c.get.result 1 (omega arith), ne_eqb c.get.result 3 (omega arith))
