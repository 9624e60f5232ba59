-- `step`: the byte is taken, and what it completes is done. Assumes nothing.
use Rattle.run_recorder.proofs.Items.{plays_refuses}
use Rattle.run_recorder.proofs.step.Goals as goal

pub play_item-requires : goal.play_item-requires
play_item-requires c = rw c.in-Ok.is at c.take_byte.ensures.sized

pub returns-in-Ok : goal.returns-in-Ok
returns-in-Ok c =
    record { next = c.take_byte.ensures.next; plays = λ K. c.play_item.ensures _ (rw c.in-Ok.is at c.take_byte.ensures.tells) K }

pub returns-in-Err : goal.returns-in-Err
returns-in-Err c =
    record { next = c.take_byte.ensures.next; plays = λ K. plays_refuses c.take_byte.new.held _ _ _ _ c.from.ensures c.refusal_line-written.ensures _ (rw c.in-Err.is at c.take_byte.ensures.tells) K }
