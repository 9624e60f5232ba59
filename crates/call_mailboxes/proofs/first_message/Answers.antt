-- `call_mailboxes::first_message` meets its contract. It reads the anchor's ring. Assumes nothing.
use Rattle.call_objects.specs.Waiting.{first_message}
use Rattle.call_mailboxes.proofs.first_message.Goals as goal

pub returns : goal.returns
unfolding first_message
returns c = rw (← c.mail_anchor.ensures) c.first.ensures
