-- `event_end`: by how many events are done. Assumes nothing.
use native.Mathlib.Omega.{arith}
use Rattle.run_stream.proofs.Taking.{event_end_none, event_end_short}
use Rattle.run_stream.proofs.event_end.Goals as goal

pub returns-then-numbers : goal.returns-then-numbers
returns-then-numbers c = event_end_none _ _ c.requires c.if-numbers.true

pub returns : goal.returns
returns c =
    event_end_short _ _ c.requires c.if-numbers.false c.held_count-n.ensures.0 (omega (arith, c.held_count-n.ensures.1, c.told-held)) c.place_of_next.ensures.0
