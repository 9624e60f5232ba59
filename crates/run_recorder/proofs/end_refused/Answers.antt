-- `end_refused`: the line's length is counted first. Assumes nothing.
use Rattle.run_recorder.proofs.Ending.{refused_full, refused_written}
use Rattle.run_recorder.proofs.end_refused.Goals as goal

pub returns-then-text-n : goal.returns-then-text-n
returns-then-text-n c = refused_full _ _ c.refusal_line-n.ensures _ _ c.if-text-n.true

pub returns : goal.returns
returns c =
    refused_written _ _ c.refusal_line-n.ensures _ _ c.if-text-n.false c.close.ensures c.refusal_line.ensures
