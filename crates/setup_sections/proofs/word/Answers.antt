-- `word`: each byte is what `byte` ensures. Assumes nothing.
use native.Mathlib.Nat.{add-zero}
use Rattle.setup_sections.proofs.word.Goals as goal

pub returns : goal.returns
returns c = simp (c.byte-d.ensures.0, c.byte-c.ensures.0, c.byte-b.ensures.0, c.byte-a.ensures.0, add-zero)
