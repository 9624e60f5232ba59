-- `kernel_serving::serve_leave` meets its contract. By what is known, and the return. Assumes nothing.
use mathlib.Core.Path.{refl}
use borrow.Author.Rules.{rules}
use Rattle.rules.specs.Events.{exit}
use Rattle.rules.specs.Handling.{exited}
use Rattle.rules.specs.Table.{judge}
use Rattle.call_words.specs.Doing.{Anything}
use Rattle.kernel_serving.proofs.Served.{acts_step}
use Rattle.kernel_serving.proofs.serve_leave.Goals as goal

pub returns : goal.returns
unfolding judge
returns c = acts_step exit (λ me. Anything) exited (λ v. refl) tt (λ me v r. tt) (λ x y me o g. search rules) c.args.known c.serve_act.ensures
