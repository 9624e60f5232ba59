-- `check_lines::at_most_once` meets its contract. The lines that are left decide as all of them do. Assumes nothing.
use Rattle.check_lines.proofs.Walks.{sum_done, sum_fails, sum_on}
use Rattle.check_lines.proofs.at_most_once.Goals as goal

pub returns-then-found-gt1 : goal.returns-then-found-gt1
returns-then-found-gt1 c = sum_fails _ _ _ _ _ _ _ c.loop-o.invariant c.loop-o-test.true c.times_in-found.ensures.0 c.if-found-gt1.true

pub loop-o-preserved : goal.loop-o-preserved
loop-o-preserved c = sum_on _ _ _ _ _ _ _ c.loop-o.invariant c.loop-o-test.true c.times_in-found.ensures.0 c.if-found-gt1.false

pub returns : goal.returns
returns c = sum_done _ _ _ _ _ _ _ c.loop-o.invariant c.loop-o-test.false
