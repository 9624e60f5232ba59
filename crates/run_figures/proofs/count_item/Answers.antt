-- `count_item`: each item by its own law. Assumes nothing.
use Rattle.run_figures.proofs.Going.{told_nothing}
use Rattle.run_figures.proofs.count_item.Goals as goal

pub begins-requires : goal.begins-requires
begins-requires c = rw c.in-Begins.is at c.requires

pub returns-in-Begins : goal.returns-in-Begins
returns-in-Begins c = rw c.in-Begins.is (c.begins.ensures _ _)

pub returns-in-Occurs : goal.returns-in-Occurs
returns-in-Occurs c = rw c.in-Occurs.is (c.occurs.ensures _)

pub returns-in-Nothing : goal.returns-in-Nothing
returns-in-Nothing c = rw c.in-Nothing.is (told_nothing _ _ _ c.args.held.now)
