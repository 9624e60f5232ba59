-- `kernel_steps::misnamed` meets its contract: by what is known. Assumes nothing.
use mathlib.Core.Path.{◌∙◌, ap}
use Rattle.rules.specs.Codes.{number}
use Rattle.call_words.specs.declared.Outcome.{Outcome}
use Rattle.kernel_steps.specs.Serving.{replied}
use Rattle.kernel_steps.proofs.misnamed.Goals as goal

pub returns-in-Ok : goal.returns-in-Ok
unfolding number
returns-in-Ok c = rw c.in-Ok.is (c.answer_of.ensures ∙ ap (λ (o : Outcome). replied o c.in-Ok.me) c.refuse.ensures)
