use Prim.Native.Nat.{◌+◌, ◌-◌}
use mathlib.Core.Path.{◌≡◌}
use Rattle.kernel_fresh.specs.Laying.{in_turn}
use Rattle.kernel_start.specs.Starting.{freed_pool}
use Rattle.kernel_start.proofs.free_pools.Given as goal

abbrev pub invariant-loop-p : goal.invariant-loop-p
invariant-loop-p l = in_turn (freed_pool l.bytes l.at) (l.n + 1 - l.p) l.p l.words ≡ in_turn (freed_pool l.bytes l.at) l.n 1 l.initial.words
