-- `call_judging::on_message` meets its contract. The id, the message, then what is common. Assumes nothing.
use mathlib.Core.Path.{refl}
use Rattle.rules.specs.State.{mailbox}
use Rattle.call_judging.proofs.Refused.{word_stops, word_passes}
use Rattle.call_judging.proofs.Judged.{object_is, message_is}
use Rattle.call_judging.proofs.on_message.Goals as goal

pub returns-then-is_outside : goal.returns-then-is_outside
returns-then-is_outside c =
    λ m A. word_stops _ _ (object_is mailbox c.args.i _ m refl c.get.ensures c.is_outside.ensures) c.if-is_outside.true

pub returns-then-is_outside-2 : goal.returns-then-is_outside-2
returns-then-is_outside-2 c =
    λ m A. word_passes _ _ (object_is mailbox c.args.i _ m refl c.get.ensures c.is_outside.ensures) c.if-is_outside.false (word_stops _ _ (message_is c.args.j _ m c.get-2.ensures c.is_outside-2.ensures) c.if-is_outside-2.true)

pub returns : goal.returns
returns c =
    λ m A. word_passes _ _ (object_is mailbox c.args.i _ m refl c.get.ensures c.is_outside.ensures) c.if-is_outside.false (word_passes _ _ (message_is c.args.j _ m c.get-2.ensures c.is_outside-2.ensures) c.if-is_outside-2.false c.common.ensures)
