use Prim.Native.Nat.{◌+◌, ◌-◌}
use Rattle.memory_rings.specs.Links.{nexts}
use Rattle.check_lines.proofs.Walks.{Deciding}
use Rattle.check_lines.proofs.lines.line_known.Given as goal

abbrev pub invariant-loop : goal.invariant-loop
invariant-loop l = Deciding l.n (nexts l.links) l.a l.low l.most (l.n + 1 - l.counter) l.x
