-- `check_lines::lines::times_in` meets its contract. What was found so far and what is left of the walk are the whole. Assumes nothing.
use Rattle.std.proofs.Common.{◌≡◌, ◌+◌, ◌-◌, rules, arith}
use Rattle.check_ranges.proofs.Steps.{failed, passed}
use Rattle.check_lines.proofs.Walks.{counting_starts, count_spent, count_back, count_stray, count_on}
use Rattle.check_lines.proofs.lines.times_in.Goals as goal

pub loop-init : goal.loop-init
loop-init c = let z : c.args.n + 1 - 0 ≡ c.args.n + 1 = omega arith in rw z (counting_starts _ _ _ _ c.follow-x.ensures)

pub returns-then-x-a : goal.returns-then-x-a
returns-then-x-a c = let g = c.loop.invariant in (count_back _ _ _ _ _ _ _ g c.if-x-a.true, omega (arith, g.1))

pub returns-then-not-within : goal.returns-then-not-within
returns-then-not-within c = let g = c.loop.invariant in (count_stray _ _ _ _ _ _ _ g (omega arith) c.if-x-a.false c.one_if_same-found.ensures.0 (failed c.within.ensures (search rules)), omega (arith, g.1, c.one_if_same-found.ensures.1))

pub loop-preserved : goal.loop-preserved
loop-preserved c =
    let z : c.args.n + 1 - (c.loop.counter + 1) ≡ c.args.n + 1 - c.loop.counter - 1 = omega arith in
    rw z (count_on _ _ _ _ _ _ _ c.loop.invariant (omega arith) c.if-x-a.false c.one_if_same-found.ensures.0 (passed c.within.ensures (search rules)) c.follow-x-in-loop.ensures)

pub returns : goal.returns
returns c = let g = c.loop.invariant in (count_spent _ _ _ _ _ _ _ g (omega arith), omega (arith, g.1))
