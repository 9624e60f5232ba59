-- `play_item`: by what was completed. Assumes nothing.
use Rattle.run_recorder.proofs.Items.{plays_nothing}
use Rattle.run_recorder.proofs.play_item.Goals as goal

pub begins-requires : goal.begins-requires
begins-requires c =
    rw c.in-Begins.is at c.requires

pub returns-in-Nothing : goal.returns-in-Nothing
returns-in-Nothing c = rw c.in-Nothing.is (plays_nothing c.args.held.now _ _ _)

pub returns-in-Begins : goal.returns-in-Begins
returns-in-Begins c =
    rw c.in-Begins.is (c.begins.ensures _)

pub returns-in-Occurs : goal.returns-in-Occurs
returns-in-Occurs c =
    rw c.in-Occurs.is c.occurs.ensures
