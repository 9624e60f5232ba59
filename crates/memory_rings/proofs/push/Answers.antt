-- `memory_rings::push` meets its contract. Its calls give `pushed`, step by step. Assumes nothing.
use Rattle.memory_rings.specs.Links.{pushed}
use Rattle.memory_rings.proofs.push.Goals as goal

pub returns : goal.returns
unfolding pushed
returns c = cc
