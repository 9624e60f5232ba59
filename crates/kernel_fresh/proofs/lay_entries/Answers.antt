-- Invariant of each loop: what is left, from here, is the whole from its start. Assumes nothing.
use mathlib.Core.Path.{◌∙◌}
use Rattle.kernel_fresh.specs.Laying.{laid_semaphore, laid_flag, laid_pool}
use Rattle.kernel_fresh.proofs.Steps.{turn_none, turn_step, entry_steps}
use Rattle.kernel_fresh.proofs.lay_entries.Goals as goal

pub loop-task-preserved : goal.loop-task-preserved
loop-task-preserved c = turn_step _ _ _ _ c.loop-task-test.true c.lay_task.ensures ∙ c.loop-task.invariant

pub loop-semaphore-preserved : goal.loop-semaphore-preserved
unfolding laid_semaphore
loop-semaphore-preserved c = turn_step _ _ _ _ c.loop-semaphore-test.true (c.set.ensures ∙ simp c.word_of-count.ensures) ∙ c.loop-semaphore.invariant

pub loop-flag-preserved : goal.loop-flag-preserved
unfolding laid_flag
loop-flag-preserved c = turn_step _ _ _ _ c.loop-flag-test.true (c.set-in-loop-flag.ensures ∙ simp c.word_of-pattern.ensures) ∙ c.loop-flag.invariant

pub loop-pool-preserved : goal.loop-pool-preserved
unfolding laid_pool
loop-pool-preserved c = turn_step _ _ _ _ c.loop-pool-test.true (c.set-in-loop-pool.ensures ∙ simp c.word_of-blocks.ensures) ∙ c.loop-pool.invariant

pub returns : goal.returns
returns c =
    entry_steps _ _ _ (turn_none _ _ _ _ c.loop-task-test.false ∙ c.loop-task.invariant)
    (turn_none _ _ _ _ c.loop-semaphore-test.false ∙ c.loop-semaphore.invariant) (turn_none _ _ _ _ c.loop-flag-test.false ∙ c.loop-flag.invariant)
    (turn_none _ _ _ _ c.loop-pool-test.false ∙ c.loop-pool.invariant) c.lay_counter.ensures
