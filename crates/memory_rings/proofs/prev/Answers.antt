-- `memory_rings::prev` meets its contract. The node is read from the second half. Assumes nothing.
use Rattle.memory_rings.proofs.Halves.{prev_at, prev_past}
use Rattle.memory_rings.proofs.prev.Goals as goal

pub returns-then-k-h : goal.returns-then-k-h
returns-then-k-h c = prev_at _ _ c.if-k-h.true

pub returns-else-k-h : goal.returns-else-k-h
returns-else-k-h c = prev_past _ _ c.if-k-h.false
