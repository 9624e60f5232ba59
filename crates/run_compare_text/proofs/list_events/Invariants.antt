use Rattle.run_compare_text.proofs.Laid.{Listing}
use Rattle.run_compare_text.proofs.list_events.Given as goal

abbrev pub invariant-loop-i : goal.invariant-loop-i
invariant-loop-i l =
    Listing l.n l.first.codes.now l.first.words.now l.second.codes.now l.second.words.now l.initial.text l.listed.at l.listed.events l.text l.i
