use Prim.Native.Nat.{◌-◌}
use mathlib.Core.Path.{◌≡◌}
use lib.ListN.{replicate}
use Rattle.rules.specs.Setup.{to, read_entry}
use Rattle.setup_sections.specs.Judging.{judged_of}
use Rattle.setup_sections.proofs.judge_words.Given as goal

abbrev pub invariant-loop : goal.invariant-loop
invariant-loop l = judged_of (read_entry l.bytes (replicate l.n (to l.r.least l.r.most)) l.from) ≡ judged_of (read_entry l.bytes (replicate (l.n - l.counter) (to l.r.least l.r.most)) l.at)
