-- `call_judging::on_setting` meets its contract. The number, the count, the period, then what is common. Assumes nothing.
use mir.Facts.{to_z-of_z}
use Rattle.call_judging.proofs.Refused.{word_stops, word_passes}
use Rattle.call_judging.proofs.Judged.{alarm_is, ticks_is}
use Rattle.call_judging.proofs.on_setting.Goals as goal

pub returns-then-is_outside : goal.returns-then-is_outside
returns-then-is_outside c =
    λ m A. word_stops _ _ (alarm_is c.args.k _ m c.alarms.ensures c.is_outside.ensures) c.if-is_outside.true

pub returns-then-is_above : goal.returns-then-is_above
returns-then-is_above c =
    λ m A. word_passes _ _ (alarm_is c.args.k _ m c.alarms.ensures c.is_outside.ensures) c.if-is_outside.false (word_stops _ _ (ticks_is c.args.b _ m c.get-size.ensures (rw (to_z-of_z c.ranges.b) at c.is_above.ensures)) c.if-is_above.true)

pub returns-then-is_above-2 : goal.returns-then-is_above-2
returns-then-is_above-2 c =
    λ m A. word_passes _ _ (alarm_is c.args.k _ m c.alarms.ensures c.is_outside.ensures) c.if-is_outside.false (word_passes _ _ (ticks_is c.args.b _ m c.get-size.ensures (rw (to_z-of_z c.ranges.b) at c.is_above.ensures)) c.if-is_above.false (word_stops _ _ (ticks_is c.args.c _ m c.get-size.ensures (rw (to_z-of_z c.ranges.c) at c.is_above-2.ensures)) c.if-is_above-2.true))

pub returns : goal.returns
returns c =
    λ m A. word_passes _ _ (alarm_is c.args.k _ m c.alarms.ensures c.is_outside.ensures) c.if-is_outside.false (word_passes _ _ (ticks_is c.args.b _ m c.get-size.ensures (rw (to_z-of_z c.ranges.b) at c.is_above.ensures)) c.if-is_above.false (word_passes _ _ (ticks_is c.args.c _ m c.get-size.ensures (rw (to_z-of_z c.ranges.c) at c.is_above-2.ensures)) c.if-is_above-2.false c.common.ensures))
