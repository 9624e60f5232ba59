-- `check_links::next` meets its contract. The node is read from the first half. Assumes nothing.
use Rattle.memory_rings.proofs.Halves.{next_at}
use Rattle.check_links.proofs.next.Goals as goal

pub returns : goal.returns
returns c = next_at _ _ c.requires
