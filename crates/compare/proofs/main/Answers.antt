-- `main`: what `compare` has written lies within the output.
use native.Mathlib.Omega.{arith}
use Rattle.run_compare_text.proofs.Laid.{written_within}
use Rattle.compare.proofs.main.Goals as goal

pub show-requires : goal.show-requires
show-requires c = omega (arith, written_within c.compare.ensures _ c.in-Ok.is, c.compare.auto)
