-- `call_reading::state_number` meets its contract. By its tests. Assumes nothing.
use mathlib.Core.Path.{sym}
use borrow.Author.Tests.{eq-eqb, ne_eqb}
use Rattle.call_reading.specs.Reading.{number_at}
use Rattle.call_reading.proofs.state_number.Goals as goal

pub returns-then-s-ne-READY : goal.returns-then-s-ne-READY
unfolding number_at
returns-then-s-ne-READY c = rw (← c.get-s.ensures, ne_eqb _ _ c.if-s-ne-READY.true)

pub returns-then-running_task-i : goal.returns-then-running_task-i
unfolding number_at
returns-then-running_task-i c =
    rw (← c.get-s.ensures, eq-eqb _ _ c.if-s-ne-READY.false, ← c.running_task.ensures, eq-eqb _ _ (sym c.if-running_task-i.true))

pub returns-else-running_task-i : goal.returns-else-running_task-i
unfolding number_at
returns-else-running_task-i c =
    rw (← c.get-s.ensures, eq-eqb _ _ c.if-s-ne-READY.false, ← c.running_task.ensures, ne_eqb _ _ (λ e. c.if-running_task-i.false (sym e)))
