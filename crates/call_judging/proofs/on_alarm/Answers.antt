-- `call_judging::on_alarm` meets its contract. The number, then what is common. Assumes nothing.
use Rattle.call_judging.proofs.Refused.{word_stops, word_passes}
use Rattle.call_judging.proofs.Judged.{alarm_is}
use Rattle.call_judging.proofs.on_alarm.Goals as goal

pub returns-then-is_outside : goal.returns-then-is_outside
returns-then-is_outside c =
    λ m A. word_stops _ _ (alarm_is c.args.k _ m c.alarms.ensures c.is_outside.ensures) c.if-is_outside.true

pub returns : goal.returns
returns c =
    λ m A. word_passes _ _ (alarm_is c.args.k _ m c.alarms.ensures c.is_outside.ensures) c.if-is_outside.false c.common.ensures
