-- `memory_queues::unlink` meets its contract. In the part of the memory that has the rings. Assumes nothing.
use borrow.Author.Rules.{rules}
use Rattle.memory_rings.specs.Columns.{col}
use Rattle.memory_rings.specs.Links.{left}
use Rattle.memory_rings.proofs.Halves.{length_left}
use Rattle.memory_queues.specs.Moves.{unlinked}
use Rattle.memory_queues.proofs.Parts.{links_back}
use Rattle.memory_queues.proofs.unlink.Goals as goal

pub returns : goal.returns
unfolding unlinked col
returns c = links_back c.args.words.now (search rules) c.args.rings c.part.ensures.0 c.part.ensures.1 (left c.args.i) (length_left _) c.leave.ensures
