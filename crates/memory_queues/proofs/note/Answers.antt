-- `memory_queues::note` meets its contract. By its tests. Assumes nothing.
use native.Mathlib.Omega.{arith}
use Rattle.memory_queues.proofs.Notes.{note_below, note_past, note_in}
use Rattle.memory_queues.proofs.note.Goals as goal
use Rattle.memory_queues.proofs.note.Goals.{else-anchor-ge-FIRST_READY-via-then-anchor-ge-FIRST_READY+else-anchor-le-LAST_READY, else-anchor-ge-FIRST_READY-via-else-anchor-ge-FIRST_READY}

pub returns-then-anchor-le-LAST_READY : goal.returns-then-anchor-le-LAST_READY
returns-then-anchor-le-LAST_READY c =
    note_in _ _ _ (omega arith) (omega arith) c.get-marks.ensures c.with_bit.ensures c.set.ensures

pub returns-else-anchor-ge-FIRST_READY : goal.returns-else-anchor-ge-FIRST_READY
returns-else-anchor-ge-FIRST_READY c =
    elim c.else-anchor-ge-FIRST_READY.branch [
      | else-anchor-ge-FIRST_READY-via-then-anchor-ge-FIRST_READY+else-anchor-le-LAST_READY w ↦ note_past _ _ _ (omega arith)
      | else-anchor-ge-FIRST_READY-via-else-anchor-ge-FIRST_READY w ↦ note_below _ _ _ (omega arith)
    ]
