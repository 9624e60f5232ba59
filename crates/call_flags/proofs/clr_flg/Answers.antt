-- `call_flags::clr_flg` meets its contract. It is its rule. Assumes nothing.
use Rattle.call_flags.proofs.FlagCalls.{clr_done}
use Rattle.call_flags.proofs.clr_flg.Goals as goal

pub returns : goal.returns
returns c =
    clr_done _ c.get-n.ensures _ c.set.ensures c.done.ensures
