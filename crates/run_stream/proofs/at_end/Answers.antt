-- `at_end`: by the phase. Assumes nothing.
use Rattle.run_stream.proofs.Taking.{closed_end}
use borrow.Author.Rules.{rules}
use Rattle.run_stream.proofs.at_end.Goals as goal

pub returns-in-1 : goal.returns-in-1
returns-in-1 c = c.event_end.ensures

pub returns-in_default : goal.returns-in_default
returns-in_default c = closed_end _ _ (search rules) (search rules)
