-- `judge_words`: the rest, judged from where the loop stands, is the whole from its start. Assumes nothing.
use mathlib.Core.Path.{◌≡◌, sym, ◌∙◌}
use Prim.Native.Nat.{◌+◌, ◌-◌}
use native.Mathlib.Omega.{arith}
use lib.ListN.{replicate}
use Rattle.rules.specs.Setup.{S3, to, read_entry}
use Rattle.setup_sections.specs.Judging.{judged_of, on_good}
use Rattle.setup_sections.proofs.Judging.{next_word, no_words_lem, passed, word_told}
use Rattle.setup_sections.proofs.judge_words.Goals as goal
use Rattle.setup_sections.proofs.judge_words.Goals.{After-judge_word}

-- the rest goes by what was judged of the next word
turn : (c : After-judge_word) → let a = c.args in
    judged_of (read_entry a.bytes.now (replicate a.n (to a.r.least a.r.most)) a.from)
    ≡ on_good c.judge_word.result (λ j. judged_of (read_entry a.bytes.now (replicate (a.n - c.loop.counter - 1) (to a.r.least a.r.most)) j))
turn c = c.loop.invariant ∙ next_word _ _ _ _ (omega arith) ∙ simp (word_told _ _ S3 _ c.judge_word.ensures)

pub returns-in_err-at : goal.returns-in_err-at
returns-in_err-at c = passed _ _ c.from_residual.ensures.1 ∙ sym (turn (goal.at.returns-in_err-at c).After-judge_word ∙ simp (c.in_err-at.was))

pub loop-preserved : goal.loop-preserved
loop-preserved c =
    let e : c.args.n - (c.loop.counter + 1) ≡ c.args.n - c.loop.counter - 1 = omega arith in
    rw e (turn (goal.at.loop-preserved c).After-judge_word ∙ simp (c.in_ok-at.was))

pub returns : goal.returns
returns c = sym (c.loop.invariant ∙ no_words_lem _ _ (c.args.n - c.loop.counter) _ (omega arith))
