-- `end_line`: a byte. Assumes nothing.
use Rattle.run_text.proofs.Laid.{wrote_byte}
use Rattle.run_text.proofs.end_line.Goals as goal

pub returns : goal.returns
returns c = wrote_byte 10 _ _ c.put.ensures
