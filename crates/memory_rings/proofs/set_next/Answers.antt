-- `memory_rings::set_next` meets its contract. A store into the first half. Assumes nothing.
use Rattle.memory_rings.proofs.Halves.{set_next_at, set_next_past}
use Rattle.memory_rings.proofs.set_next.Goals as goal

pub returns-then-k-links : goal.returns-then-k-links
returns-then-k-links c = set_next_at _ _ _ c.if-k-links.true

pub returns-else-k-links : goal.returns-else-k-links
returns-else-k-links c = set_next_past _ _ _ c.if-k-links.false
