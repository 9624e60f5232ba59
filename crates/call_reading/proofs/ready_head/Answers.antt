-- `call_reading::ready_head` meets its contract. By its test. Assumes nothing.
use borrow.Author.Tests.{eq-eqb, ne_eqb}
use Rattle.call_reading.specs.Reading.{turn_at}
use Rattle.call_reading.proofs.ready_head.Goals as goal

pub returns-then-p-eq0 : goal.returns-then-p-eq0
unfolding turn_at
returns-then-p-eq0 c = rw (eq-eqb _ _ c.if-p-eq0.true) c.best_task.ensures

pub returns-else-p-eq0 : goal.returns-else-p-eq0
unfolding turn_at
returns-else-p-eq0 c = rw (ne_eqb _ _ c.if-p-eq0.false, ← c.ready_anchor.ensures) c.first.ensures
