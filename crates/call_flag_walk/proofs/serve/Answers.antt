-- `call_flag_walk::serve` meets its contract. What is left of the walk is the same at each turn. Assumes nothing.
use mathlib.Core.Path.{refl, ◌∙◌}
use Prim.Native.Nat.{◌+◌, ◌-◌}
use native.Mathlib.Omega.{arith}
use Rattle.call_flag_walk.proofs.FlagSteps.{walk_none, walk_ends, walk_cleared, walk_on, serve_starts}
use Rattle.call_flag_walk.proofs.serve.Goals as goal

pub loop-init : goal.loop-init
loop-init c = (serve_starts _ _ _ c.get.ensures c.at_most-n.ensures.0 c.wait_anchor.ensures c.follow-x.ensures, refl, omega arith, omega arith, c.at_most-n.ensures.1)

pub look-w-requires : goal.look-w-requires
look-w-requires c = let h = c.loop.invariant in (omega (arith, h.2, h.4, c.loop-test.true), omega (arith, h.3, h.4, c.loop-test.true))

pub returns-then-w : goal.returns-then-w
returns-then-w c =
    walk_cleared _ _ _ _ (c.at_most-n.result - (c.loop.counter + 1)) c.if-w.true ∙ walk_on _ _ _ _ _ _ _ (c.at_most-n.result - c.loop.counter) (omega (arith, c.loop-test.true)) c.if-n-x.false c.loop.invariant.1 c.follow-behind.ensures c.look-w.ensures.cleared_after ∙ c.loop.invariant.0

pub loop-preserved : goal.loop-preserved
loop-preserved c =
    let h = c.loop.invariant in
    let r = c.look-w.ensures in (
      walk_on _ _ _ _ _ _ _ (c.at_most-n.result - c.loop.counter) (omega (arith, c.loop-test.true)) c.if-n-x.false h.1 c.follow-behind.ensures r.cleared_after ∙ h.0,
      c.if-w.false,
      omega (arith, r.released_bound.0, h.2),
      omega (arith, r.released_bound.1, h.3),
      h.4,
    )

pub returns-after-loop : goal.returns-after-loop
returns-after-loop c = walk_none _ _ _ _ _ (omega (arith, c.loop-test.false)) ∙ c.loop.invariant.0

pub returns-then-n-x : goal.returns-then-n-x
returns-then-n-x c = walk_ends _ _ _ _ _ c.if-n-x.true ∙ c.loop.invariant.0
