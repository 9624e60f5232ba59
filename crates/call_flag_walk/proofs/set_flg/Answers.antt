-- `call_flag_walk::set_flg` meets its contract. The walk performs the acts of the rule. Assumes nothing.
use Rattle.call_flag_walk.proofs.FlagWalk.{set_done}
use Rattle.call_flag_walk.proofs.set_flg.Goals as goal

pub returns : goal.returns
returns c =
    set_done _ _ c.ranges.p.fits c.get.ensures c.serve-w.ensures c.left_by.ensures c.set.ensures c.reports.ensures
