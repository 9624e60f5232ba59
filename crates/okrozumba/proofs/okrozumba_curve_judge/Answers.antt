-- `okrozumba_curve_judge`: what `judge` gives, in numbers. Assumes nothing.
use Rattle.okrozumba.proofs.okrozumba_curve_judge.Goals as goal

pub returns : goal.returns
returns c = rw c.judge.ensures at c.judged_told.ensures
