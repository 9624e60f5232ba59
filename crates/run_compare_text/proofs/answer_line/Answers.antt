-- `answer_line`: the line, laid from its place on. Assumes nothing.
use native.Mathlib.Omega.{arith}
use Rattle.run_compare_text.proofs.Lengths.{event_length}
use Rattle.call_words.proofs.Signed.{signed}
use Rattle.run_compare_text.proofs.Laid.{line_laid, line_taken}
use Rattle.run_compare_text.proofs.answer_line.Goals as goal

pub slice_bounds-lay-end : goal.slice_bounds-lay-end
slice_bounds-lay-end c =
    line_taken _ _ _ c.event_line-n.ensures.0 c.event_line-n.ensures.1

pub returns : goal.returns
returns c =
    let g = c.struct_told-1.given in
    let E = rw (signed _ g.0.1) at c.event_line-n.ensures in
    let n = event_length c.args.i c.args.a.code c.args.a.w1 c.args.a.w2 c.args.a.runs c.args.a.released c.requires.1 g.0.1 g.1.0.1 g.1.1.0.1 g.1.1.1.0.1 g.1.1.1.1.0.1 in
    (line_laid _ _ _ E.0 E.1 _ _ _ c.lay.ensures, omega (arith, E.0.next, n))
