use Prim.Native.Nat.{◌+◌, ◌-◌}
use mathlib.Core.Path.{◌≡◌}
use Rattle.kernel_fresh.specs.Laying.{in_turn}
use Rattle.kernel_start.specs.Starting.{freed}
use Rattle.kernel_start.proofs.free_blocks.Given as goal

abbrev pub invariant-loop-i : goal.invariant-loop-i
invariant-loop-i l = in_turn (freed l.p) (l.k + 1 - l.i) l.i l.words ≡ in_turn (freed l.p) l.k 1 l.initial.words
