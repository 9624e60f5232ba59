use mathlib.Core.Path.{◌≡◌}
use lib.ListN.{length}
use Rattle.run_month.proofs.Fits.{merged}
use Rattle.run_month.proofs.write.Given as goal

abbrev pub invariant-loop-i : goal.invariant-loop-i
invariant-loop-i l = (merged l.i l.out l.fn.t.sums ≡ l.fn.t.sums) × (length l.out ≡ 253)
