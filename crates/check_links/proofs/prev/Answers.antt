-- `check_links::prev` meets its contract. The node is read from the second half. Assumes nothing.
use Rattle.memory_rings.proofs.Halves.{prev_at}
use Rattle.check_links.proofs.prev.Goals as goal

pub returns : goal.returns
returns c = prev_at _ _ c.requires
