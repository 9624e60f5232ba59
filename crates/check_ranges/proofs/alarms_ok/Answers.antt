-- `check_ranges::alarms_ok` meets its contract. Assumes nothing.
use Rattle.std.proofs.Common.{refl, rules, tests}
use Rattle.memory_columns.specs.Layout.{max_alarms}
use Rattle.check_ranges.specs.Ranges.{alarm_ok}
use Rattle.check_ranges.proofs.Loops.{fold_is_every}
use Rattle.check_ranges.proofs.alarms_ok.Goals as goal

pub returns : goal.returns
returns c = fold_is_every (alarm_ok c.args.words.now c.args.size) max_alarms c.fold.ensures.ran refl (λ a x b q k. search (rules, tests))
