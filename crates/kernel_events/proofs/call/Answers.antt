-- `kernel_events::call` meets its contract: by what is known, and the context. Assumes nothing.
use mathlib.Core.Path.{sym, ◌∙◌}
use native.Mathlib.Omega.{arith}
use mir.Facts.{to_z-of_z}
use Rattle.kernel_serving.proofs.Served.{call_words, misnamed_step, named_kind}
use Rattle.kernel_events.proofs.call.Goals as goal

pub returns-then-is_above : goal.returns-then-is_above
returns-then-is_above c =
    misnamed_step c.look-known.result _ _ _ _ _ (call_words _ _ _ _ _ c.ranges.context c.ranges.number c.ranges.a c.ranges.b c.ranges.c)
    (sym (rw (to_z-of_z c.ranges.context) at c.is_above.ensures) ∙ c.if-is_above.true) (grind arith) c.look-known.ensures

pub returns : goal.returns
returns c =
    let context = rw (to_z-of_z c.ranges.context) at c.is_above.ensures in
    (rw (to_z-of_z c.ranges.context, to_z-of_z c.ranges.number, to_z-of_z c.ranges.a, to_z-of_z c.ranges.b, to_z-of_z c.ranges.c, named_kind c.args.context c.args.number c.args.a c.args.b c.args.c (sym context ∙ c.if-is_above.false)) at c.serve.ensures)
    (grind arith)
