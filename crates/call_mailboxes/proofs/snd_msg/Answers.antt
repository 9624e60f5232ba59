-- `call_mailboxes::snd_msg` meets its contract. It is its rule. Assumes nothing.
use Rattle.rules.specs.Codes.{number}
use Rattle.call_mailboxes.proofs.MailboxCalls.{snd_laid, snd_serves, snd_posts}
use Rattle.call_mailboxes.proofs.snd_msg.Goals as goal

pub returns-then-mark_of-ne0 : goal.returns-then-mark_of-ne0
unfolding number
returns-then-mark_of-ne0 c =
    snd_laid _ _ c.mark_of.ensures c.if-mark_of-ne0.true c.refuse.ensures

pub returns-then-x-ne0 : goal.returns-then-x-ne0
returns-then-x-ne0 c =
    snd_serves _ _ c.mark_of.ensures c.if-mark_of-ne0.false c.first_waiter-x.ensures c.if-x-ne0.true c.release.ensures c.releases.ensures

pub returns : goal.returns
returns c =
    snd_posts _ _ c.mark_of.ensures c.if-mark_of-ne0.false c.first_waiter-x.ensures c.if-x-ne0.false c.post.ensures c.done.ensures
