-- `first`: over the part of the memory that has the rings. Assumes nothing.
use mathlib.Core.List.{List}
use mathlib.Core.Path.{◌∙◌, ap}
use Prim.Native.Nat.{ℕ}
use Rattle.memory_rings.specs.Links.{first_of}
use Rattle.memory_queues.proofs.first.Goals as goal

pub returns : goal.returns
returns c = c.first.ensures ∙ ap (λ (l : List ℕ). first_of l c.args.anchor) c.links.ensures.1
