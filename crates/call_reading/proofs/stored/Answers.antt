-- `call_reading::stored` meets its contract. By its test. Assumes nothing.
use borrow.Author.Tests.{le-leb, lt-leb}
use Rattle.call_reading.specs.Reading.{wakeups_at}
use Rattle.call_reading.proofs.stored.Goals as goal

pub returns-then-get-i : goal.returns-then-get-i
unfolding wakeups_at
returns-then-get-i c = rw (← c.get.ensures, lt-leb _ _ c.if-get-i.true)

pub returns-else-get-i : goal.returns-else-get-i
unfolding wakeups_at
returns-else-get-i c = rw (← c.get.ensures, le-leb _ _ c.if-get-i.false) c.get-else-get-i.ensures
