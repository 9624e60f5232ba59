-- A number is more than a tenth of it.
use Rattle.run_text.proofs.+number.Given as goal

abbrev pub decreases-number : goal.decreases-number
decreases-number l = l.n
