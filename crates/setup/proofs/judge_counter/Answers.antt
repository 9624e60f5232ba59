-- `judge_counter`: m, then eight entries of two words. Assumes nothing.
use mathlib.Core.List.{[], ◌∷◌}
use mathlib.Core.Path.{◌≡◌, sym, ◌∙◌}
use Rattle.rules.specs.Setup.{S3, to, counters, read_entry, read_entries}
use Rattle.setup_sections.specs.Judging.{judged_of, on_good}
use Rattle.setup_sections.proofs.Judging.{passed, word_told}
use Rattle.setup.proofs.Whole.{counter_judged}
use Rattle.setup.proofs.judge_counter.Goals as goal
use Rattle.setup.proofs.judge_counter.Goals.{After-judge_word}

-- the alarms go by what was judged of m
sized : (c : After-judge_word) → let a = c.args in
    judged_of (read_entry a.bytes.now (counters a.tasks).entry a.at)
    ≡ on_good c.judge_word.result (λ j. judged_of (read_entries a.bytes.now (to 1 a.tasks ∷ to 0 1 ∷ []) 8 j))
sized c = counter_judged _ _ _ ∙ simp (word_told _ _ S3 _ c.judge_word.ensures, c.new-m.ensures.least, c.new-m.ensures.most)

pub returns-in_err-next : goal.returns-in_err-next
returns-in_err-next c = passed _ _ c.from_residual.ensures.1 ∙ sym (sized (goal.at.returns-in_err-next c).After-judge_word ∙ simp c.in_err-next.was)

pub returns : goal.returns
returns c =
    c.judge_entries.ensures ∙ sym (sized (goal.at.returns c).After-judge_word ∙ simp (c.in_ok-next.was, c.two_words.ensures))
