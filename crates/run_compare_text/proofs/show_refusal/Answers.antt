-- `show_refusal`: its length is counted first. Assumes nothing.
use native.Mathlib.Omega.{arith}
use Rattle.run_compare_text.proofs.Laid.{shown_short, shown_written}
use Rattle.run_compare_text.proofs.show_refusal.Goals as goal

pub returns-then-text-n : goal.returns-then-text-n
returns-then-text-n c = shown_short c.refusal_line-n.ensures.0 (omega (arith, c.refusal_line-n.ensures.1)) _ c.if-text-n.true

pub returns : goal.returns
returns c =
    shown_written c.refusal_line-n.ensures.0 (omega (arith, c.refusal_line-n.ensures.1)) _ c.if-text-n.false c.refusal_line.ensures.0
