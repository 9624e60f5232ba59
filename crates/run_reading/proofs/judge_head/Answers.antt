-- `judge_head`: the count goes by what was judged of the setup. Assumes nothing.
use mathlib.Core.Path.{◌≡◌, sym, ◌∙◌}
use Rattle.rules.specs.Setup.{S2, to, read_word}
use Rattle.setup_sections.specs.Judging.{judged_of, on_good}
use Rattle.setup_sections.proofs.Judging.{passed, word_told}
use Rattle.run_reading.specs.Recorded.{most_events, read_head}
use Rattle.run_reading.proofs.Heads.{head_judged}
use Rattle.run_reading.proofs.judge_head.Goals as goal
use Rattle.run_reading.proofs.judge_head.Goals.{After-judge}

-- the count goes by what was judged
judged : (c : After-judge) → let a = c.args in
    judged_of (read_head a.bytes.now) ≡ on_good c.judge.result (λ i. judged_of (read_word a.bytes.now (to 0 most_events) S2 i))
judged c = head_judged _ ∙ simp c.judge.ensures

pub returns-in_err-at : goal.returns-in_err-at
returns-in_err-at c = passed _ _ c.from_residual.ensures.1 ∙ sym (judged (goal.at.returns-in_err-at c).After-judge ∙ simp c.in_err-at.was)

pub returns : goal.returns
returns c =
    word_told _ _ S2 _ c.judge_word.ensures ∙ sym (judged (goal.at.returns c).After-judge ∙ simp (c.in_ok-at.was, c.new-count.ensures.least, c.new-count.ensures.most))
