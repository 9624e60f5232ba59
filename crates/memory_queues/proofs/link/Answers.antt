-- `memory_queues::link` meets its contract. In the part of the memory that has the rings. Assumes nothing.
use borrow.Author.Rules.{rules}
use Rattle.memory_rings.specs.Columns.{col}
use Rattle.memory_rings.specs.Links.{pushed}
use Rattle.memory_rings.proofs.Halves.{length_pushed}
use Rattle.memory_queues.specs.Moves.{linked}
use Rattle.memory_queues.proofs.Parts.{links_back}
use Rattle.memory_queues.proofs.link.Goals as goal

pub returns : goal.returns
unfolding linked col
returns c = links_back c.args.words.now (search rules) c.args.rings c.part.ensures.0 c.part.ensures.1 (pushed c.args.anchor c.args.i) (length_pushed _ _) c.push.ensures
