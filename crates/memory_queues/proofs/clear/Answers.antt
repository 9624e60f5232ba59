-- `memory_queues::clear` meets its contract. In the part of the memory that has the rings. Assumes nothing.
use borrow.Author.Rules.{rules}
use Rattle.memory_rings.specs.Columns.{col}
use Rattle.memory_rings.specs.Links.{cleared}
use Rattle.memory_rings.proofs.Halves.{length_cleared}
use Rattle.memory_queues.specs.Moves.{emptied}
use Rattle.memory_queues.proofs.Parts.{links_back}
use Rattle.memory_queues.proofs.clear.Goals as goal

pub returns : goal.returns
unfolding emptied col
returns c = links_back c.args.words.now (search rules) c.args.rings c.part.ensures.0 c.part.ensures.1 (cleared c.args.anchor) (length_cleared _) c.clear.ensures
