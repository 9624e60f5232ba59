-- `lent`: each test in its turn. Assumes nothing.
use mathlib.Core.Path.{sym}
use Rattle.run_compare_text.proofs.Laid.{lent_all, lent_many, lent_few_codes, lent_few_words}
use Rattle.run_compare_text.proofs.lent.Goals as goal
use Rattle.run_compare_text.proofs.lent.Goals.{else-n-le-EVENTS-via-then-n-le-EVENTS+then-n-run+else-n-run-2, else-n-le-EVENTS-via-then-n-le-EVENTS+else-n-run, else-n-le-EVENTS-via-else-n-le-EVENTS}

pub returns-then-n-run-2 : goal.returns-then-n-run-2
returns-then-n-run-2 c = sym (lent_all _ _ _ c.if-n-le-EVENTS.true c.if-n-run.true c.if-n-run-2.true)

pub returns-else-n-le-EVENTS : goal.returns-else-n-le-EVENTS
returns-else-n-le-EVENTS c =
    elim c.else-n-le-EVENTS.branch [
      | else-n-le-EVENTS-via-then-n-le-EVENTS+then-n-run+else-n-run-2 w ↦ sym (lent_few_words _ _ _ w.if-n-le-EVENTS.true w.if-n-run.true w.if-n-run-2.false)
      | else-n-le-EVENTS-via-then-n-le-EVENTS+else-n-run w ↦ sym (lent_few_codes _ _ _ w.if-n-le-EVENTS.true w.if-n-run.false)
      | else-n-le-EVENTS-via-else-n-le-EVENTS w ↦ sym (lent_many _ _ _ w.if-n-le-EVENTS.false)
    ]
