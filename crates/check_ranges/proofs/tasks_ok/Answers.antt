-- `check_ranges::tasks_ok` meets its contract. Assumes nothing.
use Rattle.std.proofs.Common.{refl, rules, tests}
use Rattle.check_ranges.specs.Ranges.{task_ok}
use Rattle.check_ranges.proofs.Loops.{all_is_every}
use Rattle.check_ranges.proofs.tasks_ok.Goals as goal

pub returns : goal.returns
returns c = all_is_every (task_ok c.args.words.now) c.args.n c.all.ensures.ran refl (λ x b q k. search (rules, tests))
