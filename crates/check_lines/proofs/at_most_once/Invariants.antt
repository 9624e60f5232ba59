use Rattle.memory_rings.specs.Links.{nexts}
use Rattle.check_lines.proofs.Walks.{Summing}
use Rattle.check_lines.proofs.at_most_once.Given as goal

abbrev pub invariant-loop-o : goal.invariant-loop-o
invariant-loop-o l = Summing l.n (nexts l.links) l.i l.before l.count l.found l.o
