-- `head_byte`: what was judged of the bytes held decides. Assumes nothing.
use native.Mathlib.Omega.{arith}
use lib.ListN.{length, take, length-take}
use Prim.Native.Nat.{◌+◌, ◌≤◌}
use borrow.Author.Rules.{rules}
use Rattle.run_reading.specs.Recorded.{head_bytes}
use Rattle.run_stream.proofs.Taking.{head_more, head_refused, good_sizes, head_begins, takes_with}
use Rattle.run_stream.proofs.head_byte.Goals as goal
use Rattle.run_stream.proofs.head_byte.Goals.{After-hold, In-Ok}

-- the bytes that may be held
room : (c : After-hold) → head_bytes ≤ length c.hold.new.held
room c = omega (arith, c.told-held, c.hold.auto.held)

-- the count stands behind the setup
sizes : (c : In-Ok) → (4 ≤ c.in-Ok.i) × (c.in-Ok.i ≤ head_bytes)
sizes c =
    let g = good_sizes (take (c.held_count-n.result + 1) c.hold.new.held) c.judge_head.ensures _ c.in-Ok.is in
    (g.0, omega (arith, g.1, length-take (c.held_count-n.result + 1) c.hold.new.held, c.held_count-n.ensures.1))

pub overflow_sub-i : goal.overflow_sub-i
overflow_sub-i c = (sizes (goal.at.overflow_sub-i c).In-Ok).0

pub overflow_cast-i : goal.overflow_cast-i
overflow_cast-i c = record { fits = omega (arith, (sizes (goal.at.overflow_cast-i c).In-Ok).1) }

pub overflow_sub-result : goal.overflow_sub-result
overflow_sub-result c = (sizes (goal.at.overflow_sub-result c).In-Ok).0

pub returns-in-Ok : goal.returns-in-Ok
returns-in-Ok c =
    takes_with c.write.ensures (head_begins _ _ _ _ c.requires _ c.held_count-n.ensures.0 (room (goal.at.returns-in-Ok c).After-hold) c.hold.ensures c.judge_head.ensures _ c.in-Ok.is _ c.word-events.ensures)

pub returns-in-Err : goal.returns-in-Err
returns-in-Err c =
    takes_with c.write-in-Err.ensures (head_more _ _ _ _ c.requires _ c.held_count-n.ensures.0 (room (goal.at.returns-in-Err c).After-hold) c.hold.ensures c.judge_head.ensures _ c.in-Err.is (search rules))

pub returns-in-Err-2 : goal.returns-in-Err-2
returns-in-Err-2 c =
    takes_with c.write-in-Err-2.ensures (head_refused _ _ _ _ c.requires _ c.held_count-n.ensures.0 (room (goal.at.returns-in-Err-2 c).After-hold) c.hold.ensures c.judge_head.ensures _ c.in-Err.is (search rules))
