-- `check_lines::all_right` meets its contract. Assumes nothing.
use Rattle.std.proofs.Common.{◌+◌, refl, rules, tests}
use Rattle.memory_rings.specs.Links.{nexts}
use Rattle.check_ranges.proofs.Loops.{all_from_zero}
use Rattle.check_lines.specs.Lists.{stands_right}
use Rattle.check_lines.proofs.all_right.Goals as goal

pub returns : goal.returns
returns c = let a = c.args in all_from_zero (λ o. stands_right a.n (nexts a.links.now) a.home a.i (a.before + o)) a.count c.all.ensures.ran refl (λ x b q k. search (rules, tests))
