-- `check_lines::all_known` meets its contract. Assumes nothing.
use Rattle.std.proofs.Common.{◌+◌, refl, rules, tests}
use Rattle.memory_rings.specs.Links.{nexts}
use Rattle.memory_rings.specs.Rings.{line_of}
use Rattle.check_ranges.proofs.Loops.{all_from_zero}
use Rattle.check_lines.specs.Lists.{known}
use Rattle.check_lines.proofs.all_known.Goals as goal

pub returns : goal.returns
returns c = let a = c.args in all_from_zero (λ o. known 0 a.n (line_of a.n (nexts a.links.now) (a.before + o))) a.count c.all.ensures.ran refl (λ x b q k. search (rules, tests))
