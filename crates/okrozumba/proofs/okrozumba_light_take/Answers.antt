-- `okrozumba_light_take`: what `take` gives, in numbers; the code is passed as bits. Assumes nothing.
use mir.Facts.{to_z-of_z}
use Rattle.okrozumba.proofs.okrozumba_light_take.Goals as goal

pub returns : goal.returns
returns c =
    rw (rw (to_z-of_z c.ranges.code) at c.take.ensures) at c.shown_told.ensures
