-- `both_lines`: one behind the other. Assumes nothing.
use native.Mathlib.Omega.{arith}
use Rattle.run_text.proofs.Laid.{wrote_then}
use Rattle.run_compare_text.proofs.both_lines.Goals as goal

pub returns : goal.returns
returns c =
    (wrote_then c.answer_line-next.ensures.0 c.answer_line.ensures.0, omega (arith, c.answer_line-next.ensures.1, c.answer_line.ensures.1))
