-- `event_line`: one part after the other; each part is at most so long. Assumes nothing.
use native.Mathlib.Omega.{arith}
use Rattle.call_words.proofs.Signed.{signed as read_back}
use Rattle.run_text.specs.Lines.{signed, fields, event_line}
use Rattle.run_text.proofs.Laid.{wrote_then, number_short, field_short}
use Rattle.run_text.proofs.event_line.Goals as goal

pub code_field-k-requires : goal.code_field-k-requires
code_field-k-requires c = omega (arith, number_short 9 (omega arith) c.number-k.ensures)

pub field-k-requires : goal.field-k-requires
field-k-requires c = omega (arith, number_short 9 (omega arith) c.number-k.ensures, c.code_field-k.ensures.1)

pub field-k-requires-2 : goal.field-k-requires-2
field-k-requires-2 c = omega (arith, number_short 9 (omega arith) c.number-k.ensures, c.code_field-k.ensures.1, field_short 9 (omega arith) c.field-k.ensures)

pub field-k-requires-3 : goal.field-k-requires-3
field-k-requires-3 c =
    omega (
      arith,
      number_short 9 (omega arith) c.number-k.ensures,
      c.code_field-k.ensures.1,
      field_short 9 (omega arith) c.field-k.ensures,
      field_short 9 (omega arith) c.field-k-2.ensures,
    )

pub field-k-requires-4 : goal.field-k-requires-4
field-k-requires-4 c =
    omega (
      arith,
      number_short 9 (omega arith) c.number-k.ensures,
      c.code_field-k.ensures.1,
      field_short 9 (omega arith) c.field-k.ensures,
      field_short 9 (omega arith) c.field-k-2.ensures,
      field_short 9 (omega arith) c.field-k-3.ensures,
    )

pub end_line-requires : goal.end_line-requires
end_line-requires c =
    omega (
      arith,
      number_short 9 (omega arith) c.number-k.ensures,
      c.code_field-k.ensures.1,
      field_short 9 (omega arith) c.field-k.ensures,
      field_short 9 (omega arith) c.field-k-2.ensures,
      field_short 9 (omega arith) c.field-k-3.ensures,
      field_short 9 (omega arith) c.field-k-4.ensures,
    )

pub returns : goal.returns
unfolding fields signed event_line
returns c =
    let s = rw (read_back _ c.ranges.code.sfits) at c.code_field-k.ensures.0 in (
      wrote_then c.number-k.ensures (wrote_then s (wrote_then c.field-k.ensures (wrote_then c.field-k-2.ensures (wrote_then c.field-k-3.ensures (wrote_then c.field-k-4.ensures c.end_line.ensures))))),
      omega (
        arith,
        number_short 9 (omega arith) c.number-k.ensures,
        c.code_field-k.ensures.1,
        field_short 9 (omega arith) c.field-k.ensures,
        field_short 9 (omega arith) c.field-k-2.ensures,
        field_short 9 (omega arith) c.field-k-3.ensures,
        field_short 9 (omega arith) c.field-k-4.ensures,
        c.end_line.ensures.next,
      ),
    )
