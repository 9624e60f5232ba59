-- `call_tick::pass_waits` meets its contract. Where nothing is left to anybody neither pass would change anything. Assumes nothing.
use native.Mathlib.Omega.{arith}
use Rattle.call_tick.proofs.Ticks.{pass_none, pass_some, pass_count}
use Rattle.call_tick.proofs.pass_waits.Goals as goal

pub returns-then-any_left : goal.returns-then-any_left
returns-then-any_left c =
    let s = c.get.ensures in
    let n = c.at_most-n.ensures.0 in
    let w = c.end_waits-count.ensures in
    record { words_after = pass_some _ s n w.words_after c.age_all.ensures; value = (pass_count _ s n w.value.0, w.value.1) }

pub returns : goal.returns
returns c = let r = pass_none _ c.any_left.ensures c.if-any_left.false in record { words_after = r.0; value = (r.1, omega arith) }
