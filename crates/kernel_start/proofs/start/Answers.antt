use Rattle.setup_sections.proofs.Judging.{passed}
use Rattle.kernel_start.proofs.Fresh.{start_refused, start_fresh}
use Rattle.kernel_start.proofs.start.Goals as goal

pub returns-in_err-judge_whole : goal.returns-in_err-judge_whole
returns-in_err-judge_whole c =
    rw (passed _ _ c.from_residual.ensures.1) (start_refused _ _ c.judge_whole.ensures _ c.in_err-judge_whole.was)

pub returns : goal.returns
returns c = start_fresh _ _ c.judge_whole.ensures _ c.in_ok-judge_whole.was c.lay_fresh.ensures.0 c.lay_fresh.ensures.1
