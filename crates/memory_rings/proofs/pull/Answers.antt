-- `memory_rings::pull` meets its contract. Its calls give `pulled`, step by step. Assumes nothing.
use Rattle.memory_rings.specs.Links.{pulled}
use Rattle.memory_rings.proofs.pull.Goals as goal

pub returns : goal.returns
unfolding pulled
returns c = cc
