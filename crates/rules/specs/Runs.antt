-- Runs: the two kernels from event to event, each event getting the state that the last one left.
use Rattle.std.specs.Prelude.{List, [], ◌∷◌, map, ℕ, ℤ}
use Rattle.std.proofs.Math.Decide.{dec_le, dec_lt, ℕ_discrete}
use Rattle.rules.specs.Ids.{ids, keep, times, number_order}
use Rattle.rules.specs.Codes.{number, Code-discrete}
use Rattle.rules.specs.Setup.{Read, got, and_then, read_word, read_entry, read_entries, read_section, read_sections, read_with, read_setup, perhaps, at_end, setup}
use Rattle.rules.specs.Events.{Event, events_of}
use Rattle.rules.specs.Places.{population, belongs, line_at, tabulate}
use Rattle.rules.specs.Acts.{after, afters, move}
use Rattle.rules.specs.View.{View, running, moved, act, acts}
use Rattle.rules.specs.Verdicts.{check, choose, on_first, on_count}
use Rattle.rules.specs.Table.{refusals, judged, calls_shown, looked_up, numbered, called, judge}
use Rattle.rules.specs.Answers.{Answer, released_count, answer, numbers, read_cell}
use Rattle.rules.specs.Check.{convert, both?, either?, not?, if?, unless?, every?, kinds?, in?, sizes?, lies_well?, store?, cell?, wish?, wait?, unserved?, vacant?, task?, handlers?, kept?, setting?, alarm?, counter?, body?, shape?, known?, queue?, places?, sound?}
use Rattle.rules.specs.Breach.{ranged?, in_place?, held, listed?, rules_of, first_bad, first_of, breach_by, breach}
use Rattle.rules.specs.Kernel.{idle, frees, starts, begins, fresh, next, served, damaged, guarded, event, guarded_cell, cell}
use Rattle.rules.specs.Plain.{Plain, queue_of, view_of, renumbered, plain_act, plain_acts, unstarted, plain_fresh, plain_next, plain_answer}

-- ---- answers and states. Whoever unfolds these computes any run: their lines name all that a run computes with.

-- the answers of the kernel with queues
unfoldable pub answers : View → List Event → List Answer
unfolding ids keep times number_order number and_then read_word read_entry read_entries read_section read_sections read_with read_setup perhaps at_end setup population belongs line_at tabulate after afters move running moved act acts check choose on_first on_count refusals judged calls_shown looked_up numbered called judge released_count answer read_cell idle frees starts begins fresh next served damaged guarded event guarded_cell cell convert both? either? not? if? unless? every? kinds? in? sizes? lies_well? store? cell? wish? wait? unserved? vacant? task? handlers? kept? setting? alarm? counter? body? shape? known? queue? places? sound? ranged? in_place? held listed? rules_of first_bad first_of breach_by breach Code-discrete dec_le dec_lt ℕ_discrete
answers v [] = []
answers v (e ∷ l) = (event v e).answer ∷ answers (event v e).next l

-- the answers of the plain kernel
unfoldable pub plain_answers : Plain → List Event → List Answer
unfolding ids keep times number_order number and_then read_word read_entry read_entries read_section read_sections read_with read_setup perhaps at_end setup population belongs line_at tabulate after afters move running moved act acts check choose on_first on_count refusals judged calls_shown looked_up numbered called judge released_count answer read_cell idle frees starts begins fresh next served queue_of view_of renumbered plain_act plain_acts unstarted plain_fresh plain_next plain_answer
plain_answers s [] = []
plain_answers s (e ∷ l) = plain_answer s e ∷ plain_answers (plain_next s e) l

-- the states behind the last event
unfoldable pub states : View → List Event → View
unfolding answers
states v [] = v
states v (e ∷ l) = states (event v e).next l

unfoldable pub plain_states : Plain → List Event → Plain
unfolding plain_answers
plain_states s [] = s
plain_states s (e ∷ l) = plain_states (plain_next s e) l

-- ---- a recorded run: the bytes of a setup alone, and five words for each event. The answers as numbers, or why the setup is refused.

unfoldable pub play : List ℕ → List ℤ → Read (List (List ℤ))
unfolding answers
play s w = and_then (setup s) (λ u i. got (map numbers (answers (fresh u) (events_of w))) i)

unfoldable pub plain_play : List ℕ → List ℤ → Read (List (List ℤ))
unfolding plain_answers
plain_play s w = and_then (setup s) (λ u i. got (map numbers (plain_answers (plain_fresh u) (events_of w))) i)
