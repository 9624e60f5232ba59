-- `judge_events`: a section, and whether bytes are left over. Assumes nothing.
use mathlib.Core.Path.{sym, ◌∙◌}
use Rattle.run_compare_reading.proofs.Events.{events_judged}
use Rattle.run_compare_reading.proofs.judge_events.Goals as goal

pub returns : goal.returns
returns c = c.at_end.ensures ∙ sym (events_judged _ _ ∙ simp (c.judge_section.ensures, c.new.ensures.least, c.new.ensures.most, c.new-any.ensures.least, c.new-any.ensures.most))
