-- `memory_rings::leave` meets its contract. An id without a link is left alone, any other is pulled. Assumes nothing.
use borrow.Author.Tests.{eq-eqb, ne_eqb}
use Rattle.memory_rings.specs.Links.{left}
use Rattle.memory_rings.proofs.leave.Goals as goal

pub returns-then-next-ne0 : goal.returns-then-next-ne0
unfolding left
returns-then-next-ne0 c =
    simp (← c.next.ensures, ne_eqb _ _ c.if-next-ne0.true) c.pull.ensures

pub returns-else-next-ne0 : goal.returns-else-next-ne0
unfolding left
returns-else-next-ne0 c = simp (← c.next.ensures, eq-eqb _ _ c.if-next-ne0.false)
