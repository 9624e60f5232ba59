-- `follow`: over the part of the memory that has the rings. Assumes nothing.
use mathlib.Core.List.{List}
use mathlib.Core.Path.{◌∙◌, ap}
use Prim.Native.Nat.{ℕ}
use lib.ListN.{get_or}
use Rattle.memory_queues.proofs.follow.Goals as goal

pub returns : goal.returns
returns c = c.follow.ensures ∙ ap (λ (l : List ℕ). get_or l c.args.x 0) c.links.ensures.1
