-- `call_judging::is_above` meets its contract. By its test. Assumes nothing.
use mathlib.Core.Path.{◌∙◌}
use mir.Facts.{to_z-of_z}
use Rattle.call_judging.proofs.Tests.{above_low, above_high}
use Rattle.call_judging.proofs.is_above.Goals as goal

pub returns-then-a-lt0 : goal.returns-then-a-lt0
returns-then-a-lt0 c = c.if-a-lt0.true ∙ above_low c.args.a c.args.n (rw (to_z-of_z c.ranges.a) at c.if-a-lt0.true)

pub returns-else-a-lt0 : goal.returns-else-a-lt0
returns-else-a-lt0 c =
    let f = to_z-of_z c.ranges.a in rw (rw f at c.named.ensures) (above_high c.args.a c.args.n (rw f at c.if-a-lt0.false))
