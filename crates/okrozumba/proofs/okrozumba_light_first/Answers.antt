-- `okrozumba_light_first`: what `first_light` gives, in numbers. Assumes nothing.
use Rattle.okrozumba.proofs.okrozumba_light_first.Goals as goal

pub returns : goal.returns
returns c = rw c.first_light.ensures at c.shown_told.ensures
