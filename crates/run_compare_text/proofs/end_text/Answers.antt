-- `end_text`: the line, laid from its place on. Assumes nothing.
use native.Mathlib.Omega.{arith}
use Rattle.run_compare_text.proofs.Lengths.{count_length}
use Rattle.run_compare_text.proofs.Laid.{line_laid, line_taken}
use Rattle.run_compare_text.proofs.end_text.Goals as goal

pub slice_bounds-lay-end : goal.slice_bounds-lay-end
slice_bounds-lay-end c =
    line_taken _ _ _ c.count_line-n.ensures.0 c.count_line-n.ensures.1

pub returns : goal.returns
returns c =
    let E = c.count_line-n.ensures in
    let n = count_length _ c.requires.1 in
    (line_laid _ _ _ E.0 E.1 _ _ _ c.lay.ensures, omega (arith, E.0.next, n))
