-- `field`: a byte, then the number. Assumes nothing.
use Rattle.run_text.proofs.Laid.{wrote_byte, wrote_then}
use Rattle.run_text.proofs.field.Goals as goal

pub returns : goal.returns
returns c = wrote_then (wrote_byte 32 _ _ c.put.ensures) c.number.ensures
