-- `judge_section`: the entries go by what was judged of the count. Assumes nothing.
use mathlib.Core.Path.{◌≡◌, sym, ◌∙◌}
use Rattle.rules.specs.Setup.{S2, word_at, to, section, read_entries, read_section}
use Rattle.setup_sections.specs.Judging.{judged_of, on_good, ranges_of}
use Rattle.setup_sections.proofs.Judging.{section_judged, passed, word_told}
use Rattle.setup_sections.proofs.judge_section.Goals as goal
use Rattle.setup_sections.proofs.judge_section.Goals.{After-judge_word}

-- the entries go by what was judged of the count
counted : (c : After-judge_word) → let a = c.args in
    judged_of (read_section a.bytes.now (section (to a.count.least a.count.most) (ranges_of a.e)) a.at)
    ≡ on_good c.judge_word.result (λ j. judged_of (read_entries a.bytes.now (ranges_of a.e) (word_at a.bytes.now a.at) j))
counted c = section_judged _ _ _ ∙ simp (word_told _ _ S2 _ c.judge_word.ensures)

pub returns-in_err-next : goal.returns-in_err-next
returns-in_err-next c =
    passed _ _ c.from_residual.ensures.1 ∙ sym (counted (goal.at.returns-in_err-next c).After-judge_word ∙ simp (c.in_err-next.was))

pub returns : goal.returns
returns c =
    c.judge_entries.ensures ∙ sym (counted (goal.at.returns c).After-judge_word ∙ simp (c.in_ok-next.was, c.word.ensures))
