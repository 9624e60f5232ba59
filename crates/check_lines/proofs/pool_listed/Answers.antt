-- `check_lines::pool_listed` meets its contract. Assumes nothing.
use Rattle.std.proofs.Common.{refl, rules, tests}
use Rattle.check_ranges.proofs.Loops.{all_from_zero}
use Rattle.check_lines.specs.Lines.{block_listed, pool_listed}
use Rattle.check_lines.proofs.pool_listed.Goals as goal

pub returns : goal.returns
unfolding pool_listed
returns c = let a = c.args in rw (← c.get.ensures) (all_from_zero (block_listed a.words.now a.p) c.get.result c.all.ensures.ran refl (λ x b q k. search (rules, tests)))
