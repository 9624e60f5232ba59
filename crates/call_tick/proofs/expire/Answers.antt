-- `call_tick::expire` meets its contract. By its test. Assumes nothing.
use native.Mathlib.Omega.{arith}
use Rattle.call_tick.proofs.Ticks.{expire_yes, expire_no}
use Rattle.call_tick.proofs.expire.Goals as goal

pub returns-then-last_tick : goal.returns-then-last_tick
returns-then-last_tick c =
    let r = expire_yes _ _ c.get.ensures c.get-2.ensures c.get-3.ensures c.last_tick.ensures c.if-last_tick.true c.release.ensures in
    record { words_after = r.0; value = (r.1, omega arith) }

pub returns : goal.returns
returns c =
    let r = expire_no _ _ c.get.ensures c.get-2.ensures c.get-3.ensures c.last_tick.ensures c.if-last_tick.false in
    record { words_after = r.0; value = (r.1, omega arith) }
