-- `memory_rings::clear` meets its contract. Its calls give `cleared`, step by step. Assumes nothing.
use Rattle.memory_rings.specs.Links.{cleared}
use Rattle.memory_rings.proofs.clear.Goals as goal

pub returns : goal.returns
unfolding cleared
returns c = cc
