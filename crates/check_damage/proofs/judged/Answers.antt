-- `check_damage::judged` meets its contract. The check decides; damage is named by its rule. Assumes nothing.
use mathlib.Core.Bool.{true≢false}
use mathlib.Core.Path.{sym, ◌∙◌}
use Rattle.check_damage.proofs.judged.Goals as goal

pub returns-then-accepts : goal.returns-then-accepts
returns-then-accepts c = c.accepts.ensures.0 c.if-accepts.true

pub returns-else-accepts : goal.returns-else-accepts
returns-else-accepts c = (λ A. true≢false (sym (c.accepts.ensures.1 A) ∙ c.if-accepts.false), c.first_breach.ensures.code_value, c.first_breach.ensures.id_value)
