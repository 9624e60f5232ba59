-- `task_count`: the word behind the first. Assumes nothing.
use Rattle.setup.proofs.task_count.Goals as goal

pub returns : goal.returns
returns c = simp (c.word.ensures, c.onward.ensures)
