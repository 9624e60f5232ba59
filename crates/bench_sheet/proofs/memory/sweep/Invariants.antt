-- `bench_sheet::memory::sweep`: its count fits a word: it is no larger than the place.
use Rattle.std.proofs.Common.{◌≤◌}
use Rattle.bench_sheet.proofs.memory.sweep.Given as goal

abbrev pub invariant-loop-at : goal.invariant-loop-at
invariant-loop-at l = l.found ≤ l.at
