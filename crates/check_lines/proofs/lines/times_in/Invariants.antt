use Prim.Native.Nat.{◌+◌, ◌-◌}
use Rattle.memory_rings.specs.Links.{nexts}
use Rattle.check_lines.proofs.Walks.{Counting}
use Rattle.check_lines.proofs.lines.times_in.Given as goal

abbrev pub invariant-loop : goal.invariant-loop
invariant-loop l = Counting l.n (nexts l.links) l.a l.i l.found (l.n + 1 - l.counter) l.x
