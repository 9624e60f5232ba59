-- `okrozumba_curve_level`: what `level_of` gives, in numbers. Assumes nothing.
use Rattle.okrozumba.proofs.okrozumba_curve_level.Goals as goal

pub returns : goal.returns
returns c = rw c.level_of.ensures at c.leveled_told.ensures
