-- `judge_entry`: the other words go by what was judged of the first. Assumes nothing.
use mathlib.Core.Path.{◌≡◌, sym, ◌∙◌}
use Prim.Native.Nat.{◌-◌}
use lib.ListN.{replicate}
use Rattle.rules.specs.Setup.{S3, to, read_entry}
use Rattle.setup_sections.specs.Judging.{judged_of, on_good, ranges_of}
use Rattle.setup_sections.proofs.Judging.{nothing_judged, entry_judged, passed, word_told}
use Rattle.setup_sections.proofs.judge_entry.Goals as goal
use Rattle.setup_sections.proofs.judge_entry.Goals.{After-judge_word}

-- the other words go by what was judged of the first
behind : (c : After-judge_word) → let a = c.args in
    judged_of (read_entry a.bytes.now (ranges_of a.e) a.at)
    ≡ on_good c.judge_word.result (λ j. judged_of (read_entry a.bytes.now (replicate (a.e.words - 1) (to a.e.others.least a.e.others.most)) j))
behind c = entry_judged _ _ _ _ _ c.if-e-eq0.false ∙ simp (word_told _ _ S3 _ c.judge_word.ensures)

pub returns-then-e-eq0 : goal.returns-then-e-eq0
returns-then-e-eq0 c = rw c.if-e-eq0.true (sym (nothing_judged _ _))

pub returns-in_err-next : goal.returns-in_err-next
returns-in_err-next c =
    passed _ _ c.from_residual.ensures.1 ∙ sym (behind (goal.at.returns-in_err-next c).After-judge_word ∙ simp (c.in_err-next.was))

pub returns : goal.returns
returns c = c.judge_words.ensures ∙ sym (behind (goal.at.returns c).After-judge_word ∙ simp (c.in_ok-next.was))
