-- `count_event`: what is seen of the event. Assumes nothing.
use mir.Facts.{to_z-of_z}
use Rattle.run_figures.proofs.Going.{count_law}
use Rattle.run_figures.proofs.count_event.Goals as goal

pub returns : goal.returns
returns c =
    count_law _ _ _ _ c.tasks-n.result c.states-s.result c.tasks-n.ensures.0 c.states-s.ensures c.table_counted.ensures
    (rw (to_z-of_z c.ranges.code) at c.codes_counted.ensures)
