use mathlib.Core.Path.{◌∙◌}
use native.Mathlib.Omega.{arith}
use borrow.Author.Tests.{ne_eqb}
use Rattle.memory_waits.specs.Waits.{released}
use Rattle.memory_waits.proofs.release.Goals as goal

pub returns-in-3 : goal.returns-in-3
unfolding released
returns-in-3 c = simp (← c.get.ensures, c.in-3.is) (c.make_ready.ensures ∙ rw c.end_wait.ensures)

pub returns-in-5 : goal.returns-in-5
unfolding released
returns-in-5 c = simp (← c.get.ensures, c.in-5.is) (c.leave.ensures ∙ rw (c.set.ensures, c.end_wait-in-5.ensures))

pub returns-in_default : goal.returns-in_default
unfolding released
returns-in_default c = simp (← c.get.ensures, ne_eqb c.get.result 3 (omega arith), ne_eqb c.get.result 5 (omega arith))
