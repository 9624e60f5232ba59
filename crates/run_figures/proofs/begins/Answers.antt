-- `begins`: a start, and what is known of its memory. Assumes nothing.
use Rattle.run_figures.proofs.Going.{told_begins}
use Rattle.run_figures.proofs.begins.Goals as goal

pub returns : goal.returns
returns c = λ k f. told_begins _ _ _ _ _ _ c.start.ensures c.look.ensures
