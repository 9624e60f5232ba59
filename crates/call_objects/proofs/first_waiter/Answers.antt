-- `call_objects::first_waiter` meets its contract. It reads the anchor's ring. Assumes nothing.
use Rattle.call_objects.specs.Waiting.{first_waiter}
use Rattle.call_objects.proofs.first_waiter.Goals as goal

pub returns : goal.returns
unfolding first_waiter
returns c =
    rw (← c.wait_anchor.ensures) c.first.ensures
