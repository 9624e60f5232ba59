use Rattle.memory_time.proofs.Steps.{count_none, count_up, count_round}
use Rattle.memory_time.proofs.step_counter.Goals as goal

pub returns-then-size-eq0 : goal.returns-then-size-eq0
returns-then-size-eq0 c = count_none _ c.get-size.ensures c.if-size-eq0.true

pub returns-then-n-size : goal.returns-then-n-size
returns-then-n-size c =
    count_up _ c.get-size.ensures c.if-size-eq0.false c.get-n.ensures c.if-n-size.true c.set.ensures

pub returns : goal.returns
returns c =
    count_round _ c.get-size.ensures c.if-size-eq0.false c.get-n.ensures c.if-n-size.false c.set-2.ensures
