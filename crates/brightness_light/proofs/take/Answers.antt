-- `take`: by the curve, the code and the message number. Assumes nothing.
use mathlib.Core.Path.{sym, ◌∙◌}
use Rattle.brightness_light.proofs.Words.{is_ok_lem, not_ok}
use Rattle.brightness_light.proofs.Taking.{takes_bad, takes_none, takes_no_slot, takes_slot}
use Rattle.brightness_light.proofs.take.Goals as goal

pub returns-in-Err : goal.returns-in-Err
returns-in-Err c =
    c.show.ensures ∙ takes_bad _ _ _ _ _ (rw c.lux_at-lux.ensures at c.in-Err.ensures)

pub returns-in-Ok : goal.returns-in-Ok
returns-in-Ok c =
    c.show-in-Ok.ensures ∙ takes_none _ _ _ _ _ (rw c.lux_at-lux.ensures at c.in-Ok.ensures) (not_ok c.args.code c.if-code-ne-OK.true)

pub returns-in-Ok-2 : goal.returns-in-Ok-2
returns-in-Ok-2 c =
    c.show-in-Ok-2.ensures ∙ takes_no_slot _ _ _ _ _ (rw c.lux_at-lux.ensures at c.in-Ok.ensures) (is_ok_lem c.ranges.code c.if-code-ne-OK.false) (sym c.is_slot-named.ensures ∙ c.if-not-named.true)

pub returns-in-Ok-3 : goal.returns-in-Ok-3
returns-in-Ok-3 c =
    c.show-in-Ok-3.ensures ∙ takes_slot _ _ _ _ _ (rw c.lux_at-lux.ensures at c.in-Ok.ensures) (is_ok_lem c.ranges.code c.if-code-ne-OK.false) (sym c.is_slot-named.ensures ∙ c.if-not-named.false)
