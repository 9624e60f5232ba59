-- `judge`: what was judged of each part, of the second setup whatever handed it on. Assumes nothing.
use borrow.Author.Rules.{rules}
use Rattle.setup_sections.proofs.Judging.{passed}
use Rattle.run_compare_reading.proofs.Verdict.{first_refused, first_good, second_refused, events_refused, all_good}
use Rattle.run_compare_reading.proofs.judge.Goals as goal

pub returns-in_err-second : goal.returns-in_err-second
returns-in_err-second c = rw (passed _ _ c.from_residual.ensures.1) (first_refused _ c.judge.ensures _ c.in_err-second.was)

pub returns-in_err-events : goal.returns-in_err-events
returns-in_err-events c =
    let u = first_good _ c.judge.ensures _ c.in_ok-second.was in
    rw (passed _ _ c.from_residual-in_err-events.ensures.1) (second_refused _ u.0 _ u.1 (search rules) _ c.in_err-events.was)

pub returns-in_err-judge_events : goal.returns-in_err-judge_events
returns-in_err-judge_events c =
    let u = first_good _ c.judge.ensures _ c.in_ok-second.was in
    rw (passed _ _ c.from_residual-in_err-judge_events.ensures.1)
    (events_refused _ u.0 _ u.1 (search rules) _ c.in_ok-events.was c.judge_events.ensures _ c.in_err-judge_events.was)

pub returns : goal.returns
returns c =
    let u = first_good _ c.judge.ensures _ c.in_ok-second.was in
    all_good _ u.0 _ u.1 (search rules) _ c.in_ok-events.was c.judge_events.ensures _ c.in_ok-judge_events.was
