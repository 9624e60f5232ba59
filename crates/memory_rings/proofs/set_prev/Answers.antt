-- `memory_rings::set_prev` meets its contract. A store into the second half. Assumes nothing.
use Rattle.memory_rings.proofs.Halves.{set_prev_at, set_prev_past}
use Rattle.memory_rings.proofs.set_prev.Goals as goal

pub returns-then-k-h : goal.returns-then-k-h
returns-then-k-h c = set_prev_at _ _ _ c.if-k-h.true

pub returns-else-k-h : goal.returns-else-k-h
returns-else-k-h c = set_prev_past _ _ _ c.if-k-h.false
