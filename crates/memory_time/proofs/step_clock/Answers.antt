use borrow.Author.Rules.{rules}
use Rattle.memory_time.proofs.Steps.{clock_low_lem, clock_high_lem}
use Rattle.memory_time.proofs.step_clock.Goals as goal

pub returns-then-low-lt4294967295 : goal.returns-then-low-lt4294967295
returns-then-low-lt4294967295 c =
    clock_low_lem _ c.get-low.ensures c.if-low-lt4294967295.true c.set.ensures

pub returns : goal.returns
returns c =
    clock_high_lem _ c.get-low.ensures (search rules) c.if-low-lt4294967295.false c.get-high.ensures c.set-2.ensures c.set-3.ensures
