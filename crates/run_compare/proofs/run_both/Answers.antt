-- `run_both`: the events are decoded once, and run from each setup. Assumes nothing.
use native.Mathlib.Omega.{arith}
use Rattle.run_compare.proofs.Answers.{given_part, both_ran}
use Rattle.run_compare.proofs.run_both.Goals as goal

pub returns : goal.returns
returns c =
    both_ran _ _ _ _ _ (given_part _ _ _ _ _ (omega arith) c.decode.ensures) _ _ _ _ c.run.ensures c.run-2.ensures
