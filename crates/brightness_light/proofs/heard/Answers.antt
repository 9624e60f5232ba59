-- `heard`: by the code. Assumes nothing.
use mathlib.Core.Path.{◌∙◌}
use mir.Facts.{to_z-of_z}
use Rattle.brightness_light.proofs.Words.{is_ok_lem, not_ok, is_waits_lem, not_waits}
use Rattle.brightness_light.proofs.Taking.{hears_wait, hears_reading, hears_refusal}
use Rattle.brightness_light.proofs.heard.Goals as goal

pub returns-then-code-eq-WAITS : goal.returns-then-code-eq-WAITS
returns-then-code-eq-WAITS c =
    c.show.ensures ∙ hears_wait _ _ _ _ _ _ (is_waits_lem c.ranges.code c.if-code-eq-WAITS.true)

pub returns-then-code-eq-OK : goal.returns-then-code-eq-OK
returns-then-code-eq-OK c =
    rw (to_z-of_z c.ranges.code, c.rested.ensures) at c.take.ensures
    ∙ hears_reading _ _ _ _ _ _ (not_waits c.args.code c.if-code-eq-WAITS.false) (is_ok_lem c.ranges.code c.if-code-eq-OK.true)

pub returns-else-code-eq-OK : goal.returns-else-code-eq-OK
returns-else-code-eq-OK c =
    rw (to_z-of_z c.ranges.code) at c.take-else-code-eq-OK.ensures
    ∙ hears_refusal _ _ _ _ _ _ (not_waits c.args.code c.if-code-eq-WAITS.false) (not_ok c.args.code c.if-code-eq-OK.false)
