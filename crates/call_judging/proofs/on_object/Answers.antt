-- `call_judging::on_object` meets its contract. The id, then what is common. Assumes nothing.
use Rattle.call_judging.proofs.Refused.{word_stops, word_passes}
use Rattle.call_judging.proofs.Judged.{object_is}
use Rattle.call_judging.proofs.on_object.Goals as goal

pub returns-then-is_outside : goal.returns-then-is_outside
returns-then-is_outside c =
    λ k e m A. word_stops _ _ (object_is k c.args.i _ m e c.get.ensures c.is_outside.ensures) c.if-is_outside.true

pub returns : goal.returns
returns c =
    λ k e m A. word_passes _ _ (object_is k c.args.i _ m e c.get.ensures c.is_outside.ensures) c.if-is_outside.false c.common.ensures
