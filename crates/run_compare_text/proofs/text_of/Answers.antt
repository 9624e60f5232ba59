-- `text_of`: the lines, then their number. Assumes nothing.
use native.Mathlib.Omega.{arith}
use Rattle.run_compare_text.proofs.Laid.{text_ended}
use Rattle.run_compare_text.proofs.text_of.Goals as goal

pub returns : goal.returns
returns c =
    let L = c.list_events-listed.ensures in
    (text_ended _ _ _ _ _ L.0 L.1 c.end_text.ensures.0, omega (arith, L.2, c.end_text.ensures.1, c.requires.0))
