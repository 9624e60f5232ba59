use mathlib.Core.Path.{◌∙◌}
use borrow.Author.Tests.{eq-eqb, ne_eqb}
use Rattle.memory_tasks.specs.Moves.{regraded}
use Rattle.memory_tasks.proofs.regrade.Goals as goal

pub returns-then-s-eq-READY : goal.returns-then-s-eq-READY
unfolding regraded
returns-then-s-eq-READY c =
    simp (← c.get-s.ensures, eq-eqb _ _ c.if-s-eq-READY.true) (c.rotate.ensures ∙ rw c.set.ensures)

pub returns-else-s-eq-READY : goal.returns-else-s-eq-READY
unfolding regraded
returns-else-s-eq-READY c = simp (← c.get-s.ensures, ne_eqb _ _ c.if-s-eq-READY.false) c.set.ensures
