-- `memory_objects::flags::meets` meets its contract. By the mode. Assumes nothing.
use borrow.Author.Tests.{eq-eqb, ne_eqb}
use Rattle.memory_objects.proofs.flags.meets.Goals as goal

pub returns-then-mode-eq1 : goal.returns-then-mode-eq1
returns-then-mode-eq1 c = simp (eq-eqb _ _ c.if-mode-eq1.true)

pub returns : goal.returns
returns c = simp (ne_eqb _ _ c.if-mode-eq1.false)
