use Prim.Native.Nat.{◌+◌, ◌-◌}
use mathlib.Core.Path.{◌≡◌}
use Rattle.kernel_fresh.specs.Laying.{in_turn, laid_task, laid_semaphore, laid_flag, laid_pool}
use Rattle.kernel_fresh.proofs.lay_entries.Given as goal

abbrev pub invariant-loop-task : goal.invariant-loop-task
invariant-loop-task l =
    in_turn (laid_task l.bytes l.p.at.tasks) (l.p.tasks + 1 - l.task) l.task l.words ≡ in_turn (laid_task l.bytes l.p.at.tasks) l.p.tasks 1 l.initial.words

abbrev pub invariant-loop-semaphore : goal.invariant-loop-semaphore
invariant-loop-semaphore l =
    in_turn (laid_semaphore l.bytes l.p.at.semaphores) (l.p.semaphores + 1 - l.semaphore) l.semaphore l.words ≡ in_turn (laid_semaphore l.bytes l.p.at.semaphores) l.p.semaphores 1 l.initial.words

abbrev pub invariant-loop-flag : goal.invariant-loop-flag
invariant-loop-flag l =
    in_turn (laid_flag l.bytes l.p.at.flags) (l.p.flags + 1 - l.flag) l.flag l.words ≡ in_turn (laid_flag l.bytes l.p.at.flags) l.p.flags 1 l.initial.words

abbrev pub invariant-loop-pool : goal.invariant-loop-pool
invariant-loop-pool l =
    in_turn (laid_pool l.bytes l.p.at.pools) (l.p.pools + 1 - l.pool) l.pool l.words ≡ in_turn (laid_pool l.bytes l.p.at.pools) l.p.pools 1 l.initial.words
