-- `check_state::accepts` meets its contract. The test decides. Assumes nothing.
use Rattle.check_state.proofs.Accepted.{accepts_law}
use borrow.Author.Rules.{rules}
use Rattle.check_state.proofs.accepts.Goals as goal

pub returns : goal.returns
returns c = let a = c.args in rw c.accepts_test.ensures (accepts_law a.words.now a.messages.now (search rules) (search rules))
