-- `call_flag_walk::look` meets its contract. By its test. Assumes nothing.
use Rattle.call_flag_walk.proofs.FlagSteps.{look_skips, look_serves}
use Rattle.std.proofs.lemmas.Bool.{not_from_false, not_from_true}
use Rattle.call_flag_walk.proofs.look.Goals as goal

pub returns-then-not-meets-clause-cleared_after : goal.returns-then-not-meets-clause-cleared_after
returns-then-not-meets-clause-cleared_after c = look_skips _ _ _ _ _ _ c.get.ensures c.get-how.ensures c.meets.ensures (not_from_false _ c.if-not-meets.true)

pub returns-clause-cleared_after : goal.returns-clause-cleared_after
returns-clause-cleared_after c = look_serves _ _ _ _ _ _ c.get.ensures c.get-how.ensures c.meets.ensures (not_from_true _ c.if-not-meets.false) c.release.ensures
