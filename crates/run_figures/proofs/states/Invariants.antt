use Prim.Native.Nat.{ℕ, suc, ◌<◌}
use mathlib.Core.Path.{◌≡◌}
use lib.ListN.{length, get_or}
use Rattle.call_reading.specs.Reading.{number_at}
use Rattle.run_figures.proofs.states.Given as goal

abbrev pub invariant-loop-i : goal.invariant-loop-i
invariant-loop-i l = ((j : ℕ) → j < l.i → get_or l.s j 0 ≡ number_at l.words (suc j)) × (length l.s ≡ 32)
