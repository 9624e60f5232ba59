use mathlib.Core.Path.{◌≡◌}
use lib.ListN.{length}
use Rattle.run_month.specs.Capped.{capped_all}
use Rattle.run_month.proofs.Onward.{onward}
use Rattle.run_month.proofs.plus.Given as goal

abbrev pub invariant-loop-i : goal.invariant-loop-i
invariant-loop-i l = (onward l.i l.sums l.fn.r.counts ≡ capped_all l.initial.sums l.fn.r.counts) × (length l.sums ≡ 253)
