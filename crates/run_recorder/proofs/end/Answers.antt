-- `end`: by what the end completes. Assumes nothing.
use mathlib.Core.Path.{sym, ◌∙◌}
use Rattle.run_recorder.proofs.Ending.{ended_again, end_ok, end_refuses}
use Rattle.run_recorder.proofs.end.Goals as goal

pub returns-then-is_ended : goal.returns-then-is_ended
returns-then-is_ended c = ended_again _ _ _ (sym (c.is_ended.ensures _) ∙ c.if-is_ended.true)

pub returns-in-Err : goal.returns-in-Err
returns-in-Err c =
    end_refuses _ _ _ (sym (c.is_ended.ensures _) ∙ c.if-is_ended.false) _ c.from.ensures (rw c.in-Err.is at c.at_end.ensures) c.end_refused.ensures

pub returns-in-Ok : goal.returns-in-Ok
returns-in-Ok c =
    end_ok _ _ _ (sym (c.is_ended.ensures _) ∙ c.if-is_ended.false) _ (rw c.in-Ok.is at c.at_end.ensures) c.end_quiet.ensures
