-- `check_lines::pools_known` meets its contract. Assumes nothing.
use Rattle.std.proofs.Common.{refl, rules, tests}
use Rattle.check_ranges.proofs.Loops.{all_is_every}
use Rattle.check_lines.specs.Lines.{pool_known}
use Rattle.check_lines.proofs.pools_known.Goals as goal

pub returns : goal.returns
returns c = rw (← c.few.ensures.0) (all_is_every (pool_known c.args.words.now) c.few.result c.all.ensures.ran refl (λ x b q k. search (rules, tests)))
