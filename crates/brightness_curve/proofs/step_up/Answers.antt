-- `step_up`: the lux step and the level rise are small, so nothing wraps. Assumes nothing.
use mathlib.Core.Path.{ap}
use Prim.Native.Nat.{ℕ, ◌+◌}
use native.Mathlib.Omega.{arith}
use Rattle.brightness_curve.specs.Curves.{between}
use Rattle.brightness_curve.proofs.Levels.{product_fits, sum_fits}
use Rattle.brightness_curve.proofs.step_up.Goals as goal

pub overflow_mul-lux : goal.overflow_mul-lux
overflow_mul-lux c = omega (arith, product_fits c.requires)

pub rounded_down-requires : goal.rounded_down-requires
rounded_down-requires c = (product_fits c.requires, omega arith, omega arith)

pub overflow_add-result : goal.overflow_add-result
overflow_add-result c = rw c.rounded_down.ensures (omega (arith, sum_fits c.requires))

pub returns : goal.returns
unfolding between
returns c = ap (λ (n : ℕ). c.args.p.level + n) c.rounded_down.ensures
