use mathlib.Core.Bool.{not, ◌||◌}
use mathlib.Core.Path.{◌≡◌}
use Prim.Native.Nat.{◌+◌, ◌-◌}
use lib.Dec.{eqb}
use Rattle.memory_columns.specs.Layout.{max_tasks}
use Rattle.call_tick.specs.Ticking.{any_from, has_left}
use Rattle.call_tick.proofs.any_left.Given as goal

abbrev pub invariant-loop-i : goal.invariant-loop-i
invariant-loop-i l = (not (eqb l.bits 0) || any_from (has_left l.words) (max_tasks + 1 - l.i) l.i) ≡ any_from (has_left l.words) max_tasks 1
