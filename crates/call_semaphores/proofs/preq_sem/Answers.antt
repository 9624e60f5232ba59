-- `call_semaphores::preq_sem` meets its contract. It is its rule, with its last resort. Assumes nothing.
use mathlib.Core.Path.{refl}
use Rattle.rules.specs.Codes.{number}
use Rattle.call_objects.proofs.Taking.{poll_refused}
use Rattle.call_semaphores.proofs.SemaphoreCalls.{none_taken, one_taken}
use Rattle.call_semaphores.proofs.preq_sem.Goals as goal

pub returns-then-not-take : goal.returns-then-not-take
unfolding number
returns-then-not-take c =
    let h = c.take.ensures.none c.if-not-take.true in
    rw h.1 (none_taken _ refl _ h.0 (poll_refused c.refuse.ensures))

pub returns : goal.returns
returns c = let h = c.take.ensures.taken c.if-not-take.false in one_taken _ refl _ h.0 h.1 c.done.ensures
