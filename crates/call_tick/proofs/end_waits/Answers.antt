-- `call_tick::end_waits` meets its contract. Where nobody has his last tick the pass would change nothing. Assumes nothing.
use native.Mathlib.Omega.{arith}
use Rattle.call_tick.proofs.Ticks.{end_none}
use Rattle.call_tick.proofs.end_waits.Goals as goal

pub returns-then-any_last : goal.returns-then-any_last
returns-then-any_last c = c.expire_all.ensures

pub returns : goal.returns
returns c = let r = end_none _ _ c.any_last.ensures c.if-any_last.false in record { words_after = r.0; value = (r.1, omega arith) }
