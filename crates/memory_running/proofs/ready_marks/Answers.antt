-- `memory_running::ready_marks` meets its contract. The priorities that are left give the same marks. Assumes nothing.
use mathlib.Core.Path.{◌∙◌}
use native.Mathlib.Omega.{arith}
use Rattle.memory_running.specs.Running.{ready_marks}
use Rattle.memory_running.proofs.Marks.{marks_none, marks_skip, marks_set}
use Rattle.memory_running.proofs.ready_marks.Goals as goal
use Rattle.memory_running.proofs.ready_marks.Goals.{then-first-ne0, else-first-ne0}

pub loop-p-preserved : goal.loop-p-preserved
loop-p-preserved c =
    elim c.if-first-ne0.branch [
      | then-first-ne0 w ↦ marks_set _ _ _ _ c.ready_anchor.ensures c.first.ensures (omega arith) w.if-first-ne0.true (omega arith) w.marks-is ∙ c.loop-p.invariant
      | else-first-ne0 w ↦ marks_skip _ _ _ _ c.ready_anchor.ensures c.first.ensures (omega arith) w.if-first-ne0.false w.marks-is ∙ c.loop-p.invariant
    ]

pub returns : goal.returns
unfolding ready_marks
returns c = marks_none _ _ _ _ (omega arith) ∙ c.loop-p.invariant ∙ rw (c.at_most-n.ensures.0, c.get.ensures)
