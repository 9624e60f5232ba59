-- `list_events`: event by event. Assumes nothing.
use Rattle.run_compare_text.proofs.Laid.{listing_next, listing_all}
use Rattle.run_compare_text.proofs.list_events.Goals as goal

pub loop-i-preserved : goal.loop-i-preserved
loop-i-preserved c =
    listing_next _ _ _ _ _ _ _ c.loop-i-test.true c.answer_at-a.ensures c.answer_at-b.ensures c.loop-i.invariant c.list_event-listed.ensures

pub returns : goal.returns
returns c = listing_all _ _ _ _ _ _ _ c.loop-i-test.false c.loop-i.invariant
