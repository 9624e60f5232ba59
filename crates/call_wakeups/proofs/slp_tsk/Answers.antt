-- `call_wakeups::slp_tsk` meets its contract. It is its rule. Assumes nothing.
use mathlib.Core.Path.{refl}
use Rattle.call_wakeups.proofs.WakeCalls.{slp_takes, slp_waits}
use Rattle.call_wakeups.proofs.slp_tsk.Goals as goal

pub returns-then-take : goal.returns-then-take
returns-then-take c = let h = c.take.ensures.taken c.if-take.true in slp_takes _ refl h.0 h.1 c.done.ensures

pub returns : goal.returns
returns c = let h = c.take.ensures.none c.if-take.false in slp_waits _ refl h.0 (rw h.1 at c.sleep.ensures) c.waits.ensures
