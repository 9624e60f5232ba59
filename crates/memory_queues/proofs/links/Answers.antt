-- `links`: a part of the memory. Assumes nothing.
use mathlib.Core.Path.{◌∙◌, ap}
use borrow.Author.Rules.{rules}
use Rattle.memory_rings.specs.Columns.{col}
use Rattle.memory_rings.specs.Links.{nexts}
use Rattle.memory_queues.proofs.Parts.{nexts_links, links_part}
use Rattle.memory_queues.proofs.links.Goals as goal

pub returns : goal.returns
unfolding col
returns c =
    let e = links_part c.args.words.now (search rules) c.args.rings c.part.ensures.0 c.part.ensures.1 in
    (e, ap nexts e ∙ nexts_links c.args.words.now (search rules) c.args.rings)
