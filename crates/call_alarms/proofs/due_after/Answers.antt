-- `call_alarms::due_after` meets its contract. By its test; the remainder is below the size, so that one more fits. Assumes nothing.
use native.Mathlib.Omega.{arith}
use borrow.Author.Tests.{eq-eqb, ne_eqb}
use Rattle.call_alarms.specs.Setting.{due_after}
use Rattle.call_alarms.proofs.AlarmCalls.{fits_due}
use Rattle.call_alarms.proofs.due_after.Goals as goal

pub returns-then-size-eq0 : goal.returns-then-size-eq0
unfolding due_after
returns-then-size-eq0 c = rw (eq-eqb _ 0 c.if-size-eq0.true)

pub overflow_cast-result : goal.overflow_cast-result
overflow_cast-result c = rw c.from-3.ensures (fits_due _ _ c.ranges.size.fits c.if-size-eq0.false).0

pub overflow_add-result : goal.overflow_add-result
overflow_add-result c = rw c.from-3.ensures (fits_due _ _ c.ranges.size.fits c.if-size-eq0.false).1

pub returns : goal.returns
unfolding due_after
returns c = rw (c.from.ensures, c.from-2.ensures, c.from-3.ensures, ne_eqb _ 0 c.if-size-eq0.false) (omega arith)
