-- `kernel_steps::look` meets its contract: by the check and the running task. Assumes nothing.
use mathlib.Core.Path.{◌≡◌}
use Rattle.std.specs.Prelude.{Err}
use borrow.Author.Rules.{rules}
use Rattle.kernel_steps.proofs.Looking.{known_sound, known_broken}
use Rattle.kernel_steps.proofs.look.Goals as goal

pub returns-in_err-judged : goal.returns-in_err-judged
returns-in_err-judged c =
    let e : c.from_residual.result ≡ Err c.in_err-judged.field-0.0 = search rules in
    known_broken _ _ c.in_err-judged.field-0.0 c.in_err-judged.ensures e

pub returns : goal.returns
returns c = known_sound _ _ c.in_ok-judged.ensures c.running_task.ensures
