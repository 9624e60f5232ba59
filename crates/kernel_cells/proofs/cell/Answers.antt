-- `kernel_cells::cell` meets its contract. By the verdict on the memory and the id. Assumes nothing.
use mir.Facts.{to_z-of_z}
use Rattle.rules.specs.Codes.{number}
use Rattle.call_words.proofs.Signed.{saying}
use Rattle.kernel_cells.proofs.Promised.{foreign, absent, readable}
use Rattle.kernel_cells.proofs.cell.Goals as goal
use Rattle.kernel_cells.proofs.cell.Goals.{then-is_outside-via-then-is_outside, then-is_outside-via-else-is_outside+then-get-eq-ABSENT}

pub returns-then-is_outside : goal.returns-then-is_outside
unfolding number
returns-then-is_outside c =
    let f = rw (to_z-of_z c.ranges.task) at c.named-t.ensures in
    let o = rw f at c.is_outside.ensures in
    elim c.then-is_outside.branch [
      | then-is_outside-via-then-is_outside w ↦ foreign c.in_default.ensures c.args.task c.get.ensures o w.if-is_outside.true
      | then-is_outside-via-else-is_outside+then-get-eq-ABSENT w ↦
          absent c.in_default.ensures c.args.task c.get.ensures o w.if-is_outside.false (rw f at w.get-else-is_outside.ensures) w.if-get-eq-ABSENT.true
    ]

pub returns : goal.returns
unfolding number
returns c =
    let f = rw (to_z-of_z c.ranges.task) at c.named-t.ensures in
    readable c.in_default.ensures c.args.task c.get.ensures (rw f at c.is_outside.ensures) c.if-is_outside.false
    (rw f at c.get-else-is_outside.ensures) c.if-get-eq-ABSENT.false (rw f at c.get-2.ensures) (saying _ c.code_of.type_inv c.code_of.ensures) (rw f at c.get-3.ensures)
