-- `call_semaphores::sig_sem` meets its contract. It is its rule. Assumes nothing.
use Rattle.rules.specs.Codes.{number}
use Rattle.call_semaphores.proofs.SemaphoreCalls.{sig_serves, sig_full, sig_counts}
use Rattle.call_semaphores.proofs.sig_sem.Goals as goal

pub returns-then-x-ne0 : goal.returns-then-x-ne0
returns-then-x-ne0 c =
    sig_serves _ c.first_waiter-x.ensures c.if-x-ne0.true c.release.ensures c.releases.ensures

pub returns-then-n-ge-MOST_COUNT : goal.returns-then-n-ge-MOST_COUNT
unfolding number
returns-then-n-ge-MOST_COUNT c =
    sig_full _ c.first_waiter-x.ensures c.get-n.ensures c.if-x-ne0.false c.if-n-ge-MOST_COUNT.true c.refuse.ensures

pub returns : goal.returns
returns c =
    sig_counts _ c.first_waiter-x.ensures c.get-n.ensures c.if-x-ne0.false c.if-n-ge-MOST_COUNT.false c.set.ensures c.done.ensures
