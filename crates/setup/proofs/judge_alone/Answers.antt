-- `judge_alone`: seven sections, then the eighth unless the bytes end. Assumes nothing.
use mathlib.Core.Path.{◌≡◌, sym, ◌∙◌}
use borrow.Author.Tests.{le-leb, lt-leb}
use Rattle.rules.specs.Setup.{word_at, counters, read_with, perhaps}
use Rattle.setup_sections.specs.Judging.{judged_of, on_good}
use Rattle.setup_sections.specs.Judging.{onward}
use Rattle.setup_sections.proofs.Judging.{passed}
use Rattle.setup.proofs.Whole.{eight_judged}
use Rattle.setup.proofs.judge_alone.Goals as goal
use Rattle.setup.proofs.judge_alone.Goals.{After-judge_seven}

behind : (c : After-judge_seven) → let s = c.args.bytes.now in
    judged_of (read_with perhaps s 0) ≡ on_good c.judge_seven.result (λ k. judged_of (perhaps s (counters (word_at s (onward s 0 4))) k))
behind c = eight_judged _ perhaps _ ∙ simp c.judge_seven.ensures

pub returns-then-bytes-next : goal.returns-then-bytes-next
unfolding perhaps
returns-then-bytes-next c =
    sym (behind (goal.at.returns-then-bytes-next c).After-judge_seven ∙ simp (c.in_ok-next.was, le-leb _ _ c.if-bytes-next.true))

pub returns-in_err-next : goal.returns-in_err-next
returns-in_err-next c = passed _ _ c.from_residual.ensures.1 ∙ sym (behind (goal.at.returns-in_err-next c).After-judge_seven ∙ simp c.in_err-next.was)

pub returns : goal.returns
unfolding perhaps
returns c =
    c.judge_counters.ensures ∙ sym (behind (goal.at.returns c).After-judge_seven ∙ simp (c.in_ok-next.was, lt-leb _ _ c.if-bytes-next.false, c.task_count.ensures))
