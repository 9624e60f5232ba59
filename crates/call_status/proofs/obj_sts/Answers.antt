-- `call_status::obj_sts` meets its contract. It is its rule, for every kind. Assumes nothing.
use Rattle.call_status.proofs.Reading.{status_told}
use Rattle.call_status.proofs.obj_sts.Goals as goal

pub returns : goal.returns
returns c =
    status_told _ _ c.first_waiter-x.ensures c.stored-n.ensures c.gives.ensures
