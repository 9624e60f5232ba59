use mathlib.Core.Path.{◌≡◌}
use lib.ListN.{get_or}
use Rattle.run_tally.specs.Tables.{table_counted}
use Rattle.run_tally.proofs.Tables.{onward}
use Rattle.run_tally.proofs.table_counted.Given as goal

abbrev pub invariant-loop-i : goal.invariant-loop-i
invariant-loop-i l = onward l.i l.m (λ k. get_or l.states k 0) l.t ≡ table_counted l.m (λ k. get_or l.states k 0) l.initial.t
