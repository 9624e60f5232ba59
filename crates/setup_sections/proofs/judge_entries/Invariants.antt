use Prim.Native.Nat.{◌-◌}
use mathlib.Core.Path.{◌≡◌}
use Rattle.rules.specs.Setup.{read_entries}
use Rattle.setup_sections.specs.Judging.{judged_of, ranges_of}
use Rattle.setup_sections.proofs.judge_entries.Given as goal

abbrev pub invariant-loop : goal.invariant-loop
invariant-loop l = judged_of (read_entries l.bytes (ranges_of l.e) l.n l.from) ≡ judged_of (read_entries l.bytes (ranges_of l.e) (l.n - l.counter) l.at)
