use mathlib.Core.Path.{◌≡◌}
use Prim.Native.Nat.{◌+◌, ◌≤◌}
use Rattle.brightness_curve.specs.Curves.{judged_from, judged_of}
use Rattle.brightness_curve.proofs.Good.{left}
use Rattle.brightness_curve.proofs.judge.Given as goal

abbrev pub invariant-loop-k : goal.invariant-loop-k
invariant-loop-k l = (1 ≤ l.count) × (l.count ≤ 16) × (judged_from (l.k + 1) l.last (left l.curve l.k) ≡ judged_of l.curve)
