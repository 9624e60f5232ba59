-- `event_byte`: by how many events are done and how many bytes are held. Assumes nothing.
use mathlib.Core.Path.{refl}
use native.Mathlib.Omega.{arith}
use lib.ListN.{length}
use Prim.Native.Nat.{◌≤◌}
use Rattle.run_reading.specs.Recorded.{head_bytes}
use Rattle.run_stream.proofs.Taking.{event_left_over, event_more, event_whole, takes_with}
use Rattle.run_stream.proofs.event_byte.Goals as goal
use Rattle.run_stream.proofs.event_byte.Goals.{After-hold}

-- the bytes that may be held
room : (c : After-hold) → head_bytes ≤ length c.hold.new.held
room c = omega (arith, c.told-held, c.hold.auto.held)

pub returns-then-total-done : goal.returns-then-total-done
returns-then-total-done c =
    takes_with c.write.ensures (event_left_over _ _ _ c.requires c.if-total-done.true c.place_of_next-place.ensures.0)

pub returns-then-n-lt-EVENT : goal.returns-then-n-lt-EVENT
returns-then-n-lt-EVENT c =
    takes_with c.write-then-n-lt-EVENT.ensures (event_more _ _ _ c.requires c.if-total-done.false _ c.held_count-n.ensures.0 _ (room (goal.at.returns-then-n-lt-EVENT c).After-hold) c.hold.ensures c.if-n-lt-EVENT.true)

pub returns : goal.returns
returns c =
    takes_with c.write-2.ensures (event_whole _ _ _ c.requires c.if-total-done.false _ c.held_count-n.ensures.0 _ (room (goal.at.returns c).After-hold) c.hold.ensures c.if-n-lt-EVENT.false refl)
