-- `refusal_line`: one part after the other; each part is at most so long. Assumes nothing.
use native.Mathlib.Omega.{arith}
use Rattle.run_text.specs.Lines.{signed, fields, refusal}
use Rattle.run_text.proofs.Laid.{wrote_then, field_short}
use Rattle.run_text.proofs.refusal_line.Goals as goal

pub field-at-requires-2 : goal.field-at-requires-2
field-at-requires-2 c = omega (arith, c.letters-at.ensures.next, field_short 9 (omega arith) c.field-at.ensures)

pub end_line-requires : goal.end_line-requires
end_line-requires c = omega (arith, c.letters-at.ensures.next, field_short 9 (omega arith) c.field-at.ensures, field_short 19 (omega arith) c.field-at-2.ensures)

pub returns : goal.returns
unfolding refusal fields signed
returns c = (
  wrote_then c.letters-at.ensures (wrote_then c.field-at.ensures (wrote_then c.field-at-2.ensures c.end_line.ensures)),
  omega (
    arith,
    c.letters-at.ensures.next,
    field_short 9 (omega arith) c.field-at.ensures,
    field_short 19 (omega arith) c.field-at-2.ensures,
    c.end_line.ensures.next,
  ),
)
