-- `code_field`: by the sign of the code. Assumes nothing.
use mir.Facts.{to_z-of_z}
use Rattle.run_text.proofs.Laid.{plain_code, minus_code}
use Rattle.run_text.proofs.code_field.Goals as goal

pub returns-then-code-ge0 : goal.returns-then-code-ge0
returns-then-code-ge0 c =
    let e = to_z-of_z c.ranges.code in
    let a = c.unsigned_abs-size.ensures in
    plain_code _ (rw e at a.value) a.bound (rw e at c.if-code-ge0.true) c.field.ensures

pub returns : goal.returns
returns c =
    let e = to_z-of_z c.ranges.code in
    let a = c.unsigned_abs-size.ensures in
    minus_code _ (rw e at a.value) a.bound (rw e at c.if-code-ge0.false) c.put.ensures c.put-2.ensures c.number.ensures
