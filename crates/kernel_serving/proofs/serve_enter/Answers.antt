-- `kernel_serving::serve_enter` meets its contract. By what is known, and the entry. Assumes nothing.
use mathlib.Core.Path.{refl}
use borrow.Author.Rules.{rules}
use Rattle.rules.specs.Events.{enter}
use Rattle.rules.specs.Handling.{entered}
use Rattle.rules.specs.Table.{judge}
use Rattle.call_words.specs.Naming.{Runs}
use Rattle.kernel_serving.proofs.Served.{acts_step}
use Rattle.kernel_serving.proofs.serve_enter.Goals as goal

pub returns : goal.returns
unfolding judge
returns c = acts_step enter Runs entered (λ v. refl) tt (λ me v r. r) (λ x y me o g. search rules) c.args.known c.serve_act.ensures
