use mathlib.Core.Path.{◌≡◌}
use Prim.Native.Nat.{◌≤◌}
use Rattle.brightness_curve.specs.Curves.{level_from, level_on, Rises}
use Rattle.brightness_curve.proofs.Good.{left}
use Rattle.brightness_curve.proofs.level_on.Given as goal

abbrev pub invariant-loop-k : goal.invariant-loop-k
invariant-loop-k l =
    (1 ≤ l.curve.count) × (l.curve.count ≤ 16) × (l.p.lux ≤ l.lux) × Rises l.p (left l.curve l.k) × (level_from l.p (left l.curve l.k) l.lux ≡ level_on l.curve l.lux)
