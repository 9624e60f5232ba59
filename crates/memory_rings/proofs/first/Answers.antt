-- `memory_rings::first` meets its contract. An anchor that points to itself has no first. Assumes nothing.
use borrow.Author.Tests.{eq-eqb, ne_eqb}
use Rattle.memory_rings.specs.Links.{first_of}
use Rattle.memory_rings.proofs.first.Goals as goal

pub returns-then-f-a : goal.returns-then-f-a
unfolding first_of
returns-then-f-a c = simp (← c.next-f.ensures, eq-eqb _ _ c.if-f-a.true)

pub returns-else-f-a : goal.returns-else-f-a
unfolding first_of
returns-else-f-a c = simp (← c.next-f.ensures, ne_eqb _ _ c.if-f-a.false)
