-- `okrozumba_cell` meets its contract: that of `cell`, whose task is passed as bits. Assumes nothing.
use mir.Facts.{to_z-of_z}
use Rattle.okrozumba.proofs.okrozumba_cell.Goals as goal

pub returns : goal.returns
returns c = rw (to_z-of_z c.ranges.task) at c.cell.ensures
