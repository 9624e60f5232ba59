-- `call_judging::is_outside` meets its contract. By its test. Assumes nothing.
use Rattle.call_judging.proofs.Tests.{within}
use Rattle.call_judging.proofs.is_outside.Goals as goal

pub returns-then-i-eq0 : goal.returns-then-i-eq0
returns-then-i-eq0 c = rw c.if-i-eq0.true

pub returns-else-i-eq0 : goal.returns-else-i-eq0
returns-else-i-eq0 c = within _ _ c.if-i-eq0.false
