-- `call_tick::any_last` meets its contract. What was seen so far and the rest of the column say is the same at each turn. Assumes nothing.
use native.Mathlib.Omega.{arith}
use Rattle.call_tick.proofs.Ticks.{any_next, any_last, one_next}
use Rattle.call_tick.proofs.any_last.Goals as goal

pub loop-i-preserved : goal.loop-i-preserved
loop-i-preserved c =
    let l = c.loop-i in
    any_next _ _ _ l.any (omega arith) (one_next _ _ c.get.ensures l.any) l.invariant

pub returns : goal.returns
returns c = any_last _ _ _ (omega arith) c.loop-i.invariant
