-- `okrozumba_light_receive`: what `receive` promises, in numbers; the mailbox is passed as bits. Assumes nothing.
use mir.Facts.{to_z-of_z}
use Rattle.okrozumba.proofs.okrozumba_light_receive.Goals as goal

pub returns : goal.returns
returns c =
    record {
      answer = c.receive.result;
      promised = rw (to_z-of_z c.ranges.mailbox) at c.receive.ensures;
      told = c.shown_told.ensures;
    }
