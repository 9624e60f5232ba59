-- `take_byte`: by the phase. Assumes nothing.
use Rattle.run_stream.proofs.Taking.{closed_byte}
use borrow.Author.Rules.{rules}
use Rattle.run_stream.proofs.take_byte.Goals as goal

pub returns-in_default : goal.returns-in_default
returns-in_default c = closed_byte _ _ _ (search rules) (search rules)
