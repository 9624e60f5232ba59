-- `check_lines::lines::line_known` meets its contract. What is left of the walk decides as the whole line does. Assumes nothing.
use Rattle.std.proofs.Common.{◌≡◌, ◌+◌, ◌-◌, rules, arith}
use Rattle.check_ranges.proofs.Steps.{failed, passed}
use Rattle.check_lines.proofs.Walks.{deciding_starts, known_spent, known_back, known_wrong, known_stray, known_on}
use Rattle.check_lines.proofs.lines.line_known.Goals as goal

pub loop-init : goal.loop-init
loop-init c = let z : c.args.n + 1 - 0 ≡ c.args.n + 1 = omega arith in rw z (deciding_starts _ _ _ _ _ c.follow-x.ensures)

pub returns-then-x-a : goal.returns-then-x-a
returns-then-x-a c = known_back _ _ _ _ _ _ _ c.loop.invariant c.if-x-a.true

pub returns-then-not-shows : goal.returns-then-not-shows
returns-then-not-shows c = known_wrong _ _ _ _ _ _ _ c.loop.invariant (omega arith) c.if-x-a.false (failed c.shows.ensures (search rules))

pub returns-then-not-within : goal.returns-then-not-within
returns-then-not-within c = known_stray _ _ _ _ _ _ _ c.loop.invariant (omega arith) c.if-x-a.false (passed c.shows.ensures (search rules)) (failed c.within.ensures (search rules))

pub loop-preserved : goal.loop-preserved
loop-preserved c =
    let z : c.args.n + 1 - (c.loop.counter + 1) ≡ c.args.n + 1 - c.loop.counter - 1 = omega arith in
    rw z (known_on _ _ _ _ _ _ _ c.loop.invariant (omega arith) c.if-x-a.false (passed c.shows.ensures (search rules)) (passed c.within.ensures (search rules)) c.follow-x-in-loop.ensures)

pub returns : goal.returns
returns c = known_spent _ _ _ _ _ _ _ c.loop.invariant (omega arith)
