-- `judge_counters`: none, or one. Assumes nothing.
use mathlib.Core.Bool.{cond}
use mathlib.Core.Path.{◌≡◌, sym, ◌∙◌}
use lib.Dec.{eqb}
use borrow.Author.Tests.{eq-eqb, ne_eqb}
use Rattle.rules.specs.Setup.{S2, word_at, counters, read_entry, read_section}
use Rattle.setup_sections.specs.Judging.{judged_of, on_good}
use Rattle.std.specs.Prelude.{Ok}
use Rattle.setup_sections.proofs.Judging.{passed, word_told}
use Rattle.setup.proofs.Whole.{counters_judged}
use Rattle.setup.proofs.judge_counters.Goals as goal
use Rattle.setup.proofs.judge_counters.Goals.{After-judge_word}

-- the entry goes by what was judged of the count
counted : (c : After-judge_word) → let a = c.args in
    judged_of (read_section a.bytes.now (counters a.tasks) a.at)
    ≡ on_good c.judge_word.result (λ j. cond (eqb (word_at a.bytes.now a.at) 0) (Ok j) (judged_of (read_entry a.bytes.now (counters a.tasks).entry j)))
counted c = counters_judged _ _ _ ∙ simp (word_told _ _ S2 _ c.judge_word.ensures, c.new-count.ensures.least, c.new-count.ensures.most)

pub returns-then-word-eq0 : goal.returns-then-word-eq0
returns-then-word-eq0 c =
    sym (counted (goal.at.returns-then-word-eq0 c).After-judge_word ∙ simp (c.in_ok-next.was, ← c.word.ensures, eq-eqb _ _ c.if-word-eq0.true))

pub returns-in_err-next : goal.returns-in_err-next
returns-in_err-next c = passed _ _ c.from_residual.ensures.1 ∙ sym (counted (goal.at.returns-in_err-next c).After-judge_word ∙ simp c.in_err-next.was)

pub returns : goal.returns
returns c =
    c.judge_counter.ensures ∙ sym (counted (goal.at.returns c).After-judge_word ∙ simp (c.in_ok-next.was, ← c.word.ensures, ne_eqb _ _ c.if-word-eq0.false))
