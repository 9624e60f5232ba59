-- `call_tick::expire_all` meets its contract. What is left of the pass, and the count with it, is the same at each turn. Assumes nothing.
use Prim.Native.Nat.{◌+◌, ◌-◌}
use native.Mathlib.Omega.{arith}
use Rattle.call_tick.proofs.Ticks.{expire_none, expire_step}
use Rattle.call_tick.proofs.expire_all.Goals as goal

pub loop-i-preserved : goal.loop-i-preserved
loop-i-preserved c =
    let h = c.loop-i.invariant in
    let r = c.expire-count.ensures in
    (expire_step _ _ _ (c.args.n + 1 - c.loop-i.i) (omega arith) r.words_after r.value.0 h.0, omega (arith, r.value.1, h.1))

pub returns : goal.returns
returns c =
    let h = c.loop-i.invariant in
    let r = expire_none _ _ _ (c.args.n + 1 - c.loop-i.i) (omega arith) h.0 in
    record { words_after = r.0; value = (r.1, omega (arith, h.1, c.requires)) }
