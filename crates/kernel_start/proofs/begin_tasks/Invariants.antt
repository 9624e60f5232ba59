use Prim.Native.Nat.{◌+◌, ◌-◌}
use mathlib.Core.Path.{◌≡◌}
use Rattle.kernel_fresh.specs.Laying.{in_turn}
use Rattle.kernel_start.specs.Starting.{begun}
use Rattle.kernel_start.proofs.begin_tasks.Given as goal

abbrev pub invariant-loop-i : goal.invariant-loop-i
invariant-loop-i l = in_turn (begun l.bytes l.at) (l.n + 1 - l.i) l.i l.words ≡ in_turn (begun l.bytes l.at) l.n 1 l.initial.words
