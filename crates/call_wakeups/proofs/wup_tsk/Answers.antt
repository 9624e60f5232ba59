-- `call_wakeups::wup_tsk` meets its contract. It is its rule. Assumes nothing.
use Rattle.rules.specs.Codes.{number}
use Rattle.call_wakeups.proofs.WakeCalls.{wup_wakes, wup_full, wup_counts}
use Rattle.call_wakeups.proofs.wup_tsk.Goals as goal

pub returns-then-is_sleeping : goal.returns-then-is_sleeping
returns-then-is_sleeping c =
    wup_wakes _ c.is_sleeping.ensures c.if-is_sleeping.true c.release.ensures c.releases.ensures

pub returns-then-n-ge-MOST_WAKEUPS : goal.returns-then-n-ge-MOST_WAKEUPS
unfolding number
returns-then-n-ge-MOST_WAKEUPS c =
    wup_full _ c.is_sleeping.ensures c.if-is_sleeping.false c.get-n.ensures c.if-n-ge-MOST_WAKEUPS.true c.refuse.ensures

pub returns : goal.returns
returns c =
    wup_counts _ c.is_sleeping.ensures c.if-is_sleeping.false c.get-n.ensures c.if-n-ge-MOST_WAKEUPS.false c.set.ensures c.done.ensures
