-- `call_tick::any_left` meets its contract. What the bits so far and the rest of the column say is the same at each turn. Assumes nothing.
use mathlib.Core.Bool.{not}
use native.Mathlib.Omega.{arith}
use lib.Dec.{eqb}
use Rattle.memory_columns.specs.Layout.{max_tasks}
use Rattle.call_tick.proofs.Ticks.{any_next, any_last, left_next_lem}
use Rattle.call_tick.proofs.any_left.Goals as goal

pub loop-i-preserved : goal.loop-i-preserved
loop-i-preserved c =
    let l = c.loop-i in
    any_next _ max_tasks _ (not (eqb l.bits 0)) (omega arith) (left_next_lem _ _ c.get-bits.ensures l.bits) l.invariant

pub returns : goal.returns
returns c = any_last _ max_tasks _ (omega arith) c.loop-i.invariant
