-- `head_end`: what was judged of the bytes held decides. Assumes nothing.
use Rattle.setup_sections.proofs.Judging.{passed}
use Rattle.run_stream.proofs.Taking.{head_end_refused, head_end_whole}
use Rattle.run_stream.proofs.head_end.Goals as goal

pub returns-in_err-judge_head : goal.returns-in_err-judge_head
returns-in_err-judge_head c =
    rw (passed _ _ c.from_residual.ensures.1)
    (head_end_refused _ _ c.requires c.held_count-n.ensures.0 c.judge_head.ensures _ c.in_err-judge_head.was)

pub returns : goal.returns
returns c = head_end_whole _ _ c.requires c.held_count-n.ensures.0 c.judge_head.ensures _ c.in_ok-judge_head.was
