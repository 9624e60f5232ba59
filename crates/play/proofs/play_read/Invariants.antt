-- `play_read`: what is left falls with each part.
use Rattle.std.proofs.Common.{length}
use Rattle.play.proofs.play_read.Given as goal

abbrev pub decreases-loop-rest : goal.decreases-loop-rest
decreases-loop-rest g l = length l.rest
