-- `call_mailboxes::rcv_msg` meets its contract. It is its rule, with its last resort. Assumes nothing.
use mathlib.Core.Path.{refl}
use Rattle.rules.specs.State.{mailbox}
use Rattle.call_objects.proofs.Taking.{caller_waits}
use Rattle.call_mailboxes.proofs.MailboxCalls.{none_taken, message_taken}
use Rattle.call_mailboxes.proofs.rcv_msg.Goals as goal

pub returns-in-Some : goal.returns-in-Some
returns-in-Some c = let h = c.in-Some.ensures in message_taken _ h.0 _ h.1 h.2 c.gives.ensures

pub returns : goal.returns
returns c =
    let h = c.in_default.ensures in
    rw h.2 (none_taken _ refl _ h.0 (caller_waits mailbox (rw h.1 at c.wait.ensures) c.waits.ensures _))
