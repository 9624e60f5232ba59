-- `take_part`: byte by byte. Assumes nothing.
use Rattle.run_recorder.proofs.Going.{going_first, goes_on, part_refused}
use Rattle.run_recorder.proofs.take_part.Goals as goal

pub loop-i-init : goal.loop-i-init
loop-i-init c = going_first _ _ _ c.look-known.ensures

pub returns-in-Some : goal.returns-in-Some
returns-in-Some c =
    part_refused _ _ _ c.loop-i.invariant c.loop-i-test.true c.if-text-at-lt-LINE.false c.step-t.ensures c.in-Some.is c.from.ensures

pub loop-i-preserved : goal.loop-i-preserved
loop-i-preserved c =
    goes_on _ _ _ c.loop-i.invariant c.loop-i-test.true c.if-text-at-lt-LINE.false c.step-t.ensures c.in_default.is
