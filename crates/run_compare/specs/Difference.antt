-- What a changed setup changes: two setups and one run of events, from their bytes to a text. For exactly the events at which the two answers differ, in
-- order, the two lines, the first setup's first; then the number of such events. Or the one line of a refusal.
use Rattle.std.specs.Prelude.{List, map, ℕ}
use Rattle.rules.specs.Setup.{digit, Read, got, refused, Setup}
use Rattle.rules.specs.Events.{Event, events_of}
use Rattle.rules.specs.Answers.{Answer, numbers}
use Rattle.rules.specs.Kernel.{fresh}
use Rattle.rules.specs.Plain.{plain_fresh}
use Rattle.rules.specs.Runs.{answers, plain_answers}
use Rattle.run_text.specs.Lines.{digits, decimal, signed, fields, refusal}
use Rattle.run_compare_reading.specs.Compared.{Compared, read_events, compared}
use Rattle.run_compare_text.specs.Changes.{compared_text}

-- by a kernel's answers to events, from the fresh state of a setup
unfoldable pub difference_by : (Setup → List Event → List Answer) → Read Compared → List ℕ
difference_by run (got c end) = compared_text (map numbers (run c.first (events_of c.words))) (map numbers (run c.second (events_of c.words)))
difference_by run (refused f place) = refusal (digit f) place

-- by the kernel with queues
abbrev pub runs : Setup → List Event → List Answer
runs u l = answers (fresh u) l

-- by the plain one
abbrev pub plain_runs : Setup → List Event → List Answer
plain_runs u l = plain_answers (plain_fresh u) l

-- The text of an input. Whoever unfolds it computes the text of any bytes.
unfoldable pub difference_of : List ℕ → List ℕ
unfolding answers read_events compared digits decimal signed fields refusal compared_text difference_by
difference_of s = difference_by runs (compared s)

-- the same by the plain kernel
unfoldable pub plain_difference_of : List ℕ → List ℕ
unfolding plain_answers read_events compared digits decimal signed fields refusal compared_text difference_by
plain_difference_of s = difference_by plain_runs (compared s)
