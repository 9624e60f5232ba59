use mathlib.Core.Bool.{◌||◌}
use mathlib.Core.Path.{◌≡◌}
use Prim.Native.Nat.{◌+◌, ◌-◌}
use Rattle.call_tick.specs.Ticking.{any_from, has_one}
use Rattle.call_tick.proofs.any_last.Given as goal

abbrev pub invariant-loop-i : goal.invariant-loop-i
invariant-loop-i l = (l.any || any_from (has_one l.words) (l.n + 1 - l.i) l.i) ≡ any_from (has_one l.words) l.n 1
