-- `part`: of an empty part and of a recorder that is closed nothing is taken. Assumes nothing.
use mathlib.Core.Path.{sym, ◌∙◌}
use Rattle.run_recorder.proofs.Going.{part_empty, part_closed}
use Rattle.run_recorder.proofs.part.Goals as goal

pub returns-then-bytes-eq0 : goal.returns-then-bytes-eq0
returns-then-bytes-eq0 c = part_empty _ _ _ c.if-bytes-eq0.true

pub returns-then-is_closed : goal.returns-then-is_closed
returns-then-is_closed c =
    part_closed _ _ _ c.if-bytes-eq0.false (sym (c.is_closed.ensures _) ∙ c.if-is_closed.true)

pub returns : goal.returns
returns c =
    c.take_part.ensures (sym (c.is_closed.ensures _) ∙ c.if-is_closed.false)
