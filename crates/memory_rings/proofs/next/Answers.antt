-- `memory_rings::next` meets its contract. The node is read from the first half. Assumes nothing.
use Rattle.memory_rings.proofs.Halves.{next_at, next_past}
use Rattle.memory_rings.proofs.next.Goals as goal

pub returns-then-k-links : goal.returns-then-k-links
returns-then-k-links c = next_at _ _ c.if-k-links.true

pub returns-else-k-links : goal.returns-else-k-links
returns-else-k-links c = next_past _ _ c.if-k-links.false
