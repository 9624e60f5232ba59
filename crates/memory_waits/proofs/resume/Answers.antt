use native.Mathlib.Omega.{arith}
use borrow.Author.Tests.{ne_eqb}
use Rattle.memory_waits.specs.Waits.{resumed}
use Rattle.memory_waits.proofs.resume.Goals as goal

pub returns-in-4 : goal.returns-in-4
unfolding resumed
returns-in-4 c = simp (← c.get.ensures, c.in-4.is) c.make_ready.ensures

pub returns-in-5 : goal.returns-in-5
unfolding resumed
returns-in-5 c = simp (← c.get.ensures, c.in-5.is) c.set.ensures

pub returns-in_default : goal.returns-in_default
unfolding resumed
returns-in_default c = simp (← c.get.ensures, ne_eqb c.get.result 4 (omega arith), ne_eqb c.get.result 5 (omega arith))
