-- `call_handlers::enter` meets its contract. By the depth. Assumes nothing.
use native.Mathlib.Omega.{arith}
use Rattle.rules.specs.Codes.{number}
use Rattle.call_handlers.proofs.Handlers.{enter_refused, enter_done}
use Rattle.call_handlers.proofs.enter.Goals as goal

pub returns-then-depth-ge-MAX_DEPTH : goal.returns-then-depth-ge-MAX_DEPTH
unfolding number
returns-then-depth-ge-MAX_DEPTH c = enter_refused _ c.get-depth.ensures _ (let h = c.if-depth-ge-MAX_DEPTH.true in omega (arith, h)) c.refuse.ensures

pub returns : goal.returns
returns c =
    enter_done _ c.get-depth.ensures _ (let h = c.if-depth-ge-MAX_DEPTH.false in omega (arith, h)) c.nest.ensures c.done.ensures
