-- `call_dispatch::dispatch` meets its contract. What refuses the call is answered by its code. Assumes nothing.
use mathlib.Core.Path.{◌∙◌, ap}
use mir.Facts.{to_z-of_z}
use lib.IntN.{ℤ}
use Rattle.call_words.specs.Outcomes.{outcome}
use Rattle.call_words.proofs.Signed.{signed}
use Rattle.call_dispatch.proofs.dispatch.Goals as goal

pub returns-in-Ok : goal.returns-in-Ok
returns-in-Ok c = rw (c.in-Ok.is, to_z-of_z c.ranges.a, to_z-of_z c.ranges.b, to_z-of_z c.ranges.c) at c.serve.ensures

pub returns-in-Err : goal.returns-in-Err
returns-in-Err c =
    rw (c.refuse.ensures ∙ ap (λ (z : ℤ). outcome z 0 0 0) (signed _ c.code.type_inv ∙ c.code.ensures))
    (rw (c.in-Err.is, to_z-of_z c.ranges.a, to_z-of_z c.ranges.b, to_z-of_z c.ranges.c) at c.serve.ensures)
