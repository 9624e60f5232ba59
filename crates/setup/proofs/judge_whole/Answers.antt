-- `judge_whole`: what was judged, and whether bytes are left over. Assumes nothing.
use mathlib.Core.Path.{sym, ◌∙◌}
use Rattle.setup.proofs.Whole.{whole_judged}
use Rattle.setup.proofs.judge_whole.Goals as goal

pub returns : goal.returns
returns c = c.at_end.ensures ∙ sym (whole_judged _ ∙ simp c.judge_alone.ensures)
