-- `call_judging::on_queue` meets its contract. The priority, then what is common. Assumes nothing.
use mir.Facts.{to_z-of_z}
use Rattle.call_judging.proofs.Refused.{word_stops, word_passes}
use Rattle.call_judging.proofs.Judged.{queue_is}
use Rattle.call_judging.proofs.on_queue.Goals as goal

pub returns-then-is_above : goal.returns-then-is_above
returns-then-is_above c =
    λ m A. word_stops _ _ (queue_is c.args.a _ m c.get.ensures (rw (to_z-of_z c.ranges.a) at c.is_above.ensures)) c.if-is_above.true

pub returns : goal.returns
returns c =
    λ m A. word_passes _ _ (queue_is c.args.a _ m c.get.ensures (rw (to_z-of_z c.ranges.a) at c.is_above.ensures)) c.if-is_above.false c.common.ensures
