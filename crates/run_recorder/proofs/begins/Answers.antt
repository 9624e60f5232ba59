-- `begins`: the fresh state, what is known of it, whatever hands that on, and its line. Assumes nothing.
use borrow.Author.Rules.{rules}
use Rattle.memory_running.proofs.Running.{running_law}
use Rattle.run_recorder.proofs.Items.{plays_begins}
use Rattle.run_recorder.proofs.begins.Goals as goal

pub returns : goal.returns
returns c = λ k.
    plays_begins _ _ _ _ _ _ c.start.ensures (search (rules, running_law)) c.running_task.ensures c.start_line-written.ensures
