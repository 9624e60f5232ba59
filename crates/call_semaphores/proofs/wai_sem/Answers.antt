-- `call_semaphores::wai_sem` meets its contract. It is its rule, with its last resort. Assumes nothing.
use mathlib.Core.Path.{refl}
use Rattle.rules.specs.State.{semaphore}
use Rattle.call_objects.proofs.Taking.{caller_waits}
use Rattle.call_semaphores.proofs.SemaphoreCalls.{none_taken, one_taken}
use Rattle.call_semaphores.proofs.wai_sem.Goals as goal

pub returns-then-not-take : goal.returns-then-not-take
returns-then-not-take c =
    let h = c.take.ensures.none c.if-not-take.true in
    none_taken _ refl _ h.0 (caller_waits semaphore (rw h.1 at c.wait.ensures) c.waits.ensures)

pub returns : goal.returns
returns c = let h = c.take.ensures.taken c.if-not-take.false in one_taken _ refl _ h.0 h.1 c.done.ensures
