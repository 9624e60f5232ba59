-- `judge_entries`: the rest, judged from where the loop stands, is the whole from its start. Assumes nothing.
use mathlib.Core.Path.{◌≡◌, sym, ◌∙◌}
use Prim.Native.Nat.{◌+◌, ◌-◌}
use native.Mathlib.Omega.{arith}
use Rattle.rules.specs.Setup.{read_entries}
use Rattle.setup_sections.specs.Judging.{judged_of, on_good, ranges_of}
use Rattle.setup_sections.proofs.Judging.{entries_judged, no_entries_judged, passed}
use Rattle.setup_sections.proofs.judge_entries.Goals as goal
use Rattle.setup_sections.proofs.judge_entries.Goals.{After-judge_entry}

-- the rest goes by what was judged of the next entry
turn : (c : After-judge_entry) → let a = c.args in
    judged_of (read_entries a.bytes.now (ranges_of a.e) a.n a.from)
    ≡ on_good c.judge_entry.result (λ j. judged_of (read_entries a.bytes.now (ranges_of a.e) (a.n - c.loop.counter - 1) j))
turn c = c.loop.invariant ∙ entries_judged _ _ _ _ (omega arith) ∙ simp c.judge_entry.ensures

pub returns-in_err-at : goal.returns-in_err-at
returns-in_err-at c = passed _ _ c.from_residual.ensures.1 ∙ sym (turn (goal.at.returns-in_err-at c).After-judge_entry ∙ simp (c.in_err-at.was))

pub loop-preserved : goal.loop-preserved
loop-preserved c =
    let e : c.args.n - (c.loop.counter + 1) ≡ c.args.n - c.loop.counter - 1 = omega arith in
    rw e (turn (goal.at.loop-preserved c).After-judge_entry ∙ simp (c.in_ok-at.was))

pub returns : goal.returns
returns c = sym (c.loop.invariant ∙ no_entries_judged _ _ (c.args.n - c.loop.counter) _ (omega arith))
