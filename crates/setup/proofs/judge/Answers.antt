-- `judge`: seven sections, then the eighth by the number of tasks. Assumes nothing.
use mathlib.Core.Path.{◌≡◌, sym, ◌∙◌}
use Rattle.rules.specs.Setup.{word_at, counters, read_section, read_setup}
use Rattle.setup_sections.specs.Judging.{judged_of, on_good}
use Rattle.setup_sections.specs.Judging.{onward}
use Rattle.setup_sections.proofs.Judging.{passed}
use Rattle.setup.proofs.Whole.{eight_judged}
use Rattle.setup.proofs.judge.Goals as goal
use Rattle.setup.proofs.judge.Goals.{After-judge_seven}

behind : (c : After-judge_seven) → let a = c.args in
    judged_of (read_setup a.bytes.now a.at) ≡ on_good c.judge_seven.result (λ k. judged_of (read_section a.bytes.now (counters (word_at a.bytes.now (onward a.bytes.now a.at 4))) k))
unfolding read_setup
behind c = eight_judged _ read_section _ ∙ simp c.judge_seven.ensures

pub returns-in_err-next : goal.returns-in_err-next
returns-in_err-next c = passed _ _ c.from_residual.ensures.1 ∙ sym (behind (goal.at.returns-in_err-next c).After-judge_seven ∙ simp c.in_err-next.was)

pub returns : goal.returns
returns c =
    c.judge_counters.ensures ∙ sym (behind (goal.at.returns c).After-judge_seven ∙ simp (c.in_ok-next.was, c.task_count.ensures))
