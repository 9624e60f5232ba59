-- `call_wakeups::wai_tsk` meets its contract. It is its rule; to wait for ever is to sleep. Assumes nothing.
use mathlib.Core.Path.{refl}
use mir.Facts.{to_z-of_z}
use Rattle.rules.specs.Codes.{number}
use Rattle.call_wakeups.proofs.WakeCalls.{wai_sleeps, wai_takes, wai_ends, wai_waits}
use Rattle.call_wakeups.proofs.wai_tsk.Goals as goal

pub returns-then-a-lt0 : goal.returns-then-a-lt0
returns-then-a-lt0 c =
    wai_sleeps _ _ (rw (to_z-of_z c.ranges.a) at c.if-a-lt0.true) c.slp_tsk.ensures

pub returns-then-take : goal.returns-then-take
returns-then-take c = let h = c.take.ensures.taken c.if-take.true in wai_takes _ refl _ h.0 h.1 c.done.ensures

pub returns-then-t-eq0 : goal.returns-then-t-eq0
unfolding number
returns-then-t-eq0 c =
    let f = to_z-of_z c.ranges.a in
    let h = c.take.ensures.none c.if-take.false in
    rw h.1 (wai_ends _ refl _ h.0 (rw f at c.named-t.ensures) (rw f at c.if-a-lt0.false) c.if-t-eq0.true c.refuse.ensures)

pub returns : goal.returns
returns c =
    let f = to_z-of_z c.ranges.a in
    let h = c.take.ensures.none c.if-take.false in
    wai_waits _ refl _ h.0 (rw f at c.named-t.ensures) c.if-t-eq0.false (rw h.1 at c.sleep.ensures) c.waits.ensures
