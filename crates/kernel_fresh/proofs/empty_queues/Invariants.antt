use Prim.Native.Nat.{◌+◌, ◌-◌}
use mathlib.Core.Path.{◌≡◌}
use Rattle.memory_queues.specs.Moves.{emptied as emptied_at}
use Rattle.kernel_fresh.specs.Laying.{in_turn}
use Rattle.kernel_fresh.proofs.empty_queues.Given as goal

abbrev pub invariant-loop-anchor : goal.invariant-loop-anchor
invariant-loop-anchor l = in_turn (emptied_at l.rings) (l.first + l.n - l.anchor) l.anchor l.words ≡ in_turn (emptied_at l.rings) l.n l.first l.initial.words
