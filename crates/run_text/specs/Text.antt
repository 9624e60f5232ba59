-- The text of a recorded run: the lines of what its bytes hold, one item after the other, each by the state that the last one left.
use Rattle.std.specs.Prelude.{List, [], ◌∷◌, ◌++◌, ℕ}
use Rattle.rules.specs.Setup.{digit, Setup}
use Rattle.rules.specs.Events.{Event}
use Rattle.rules.specs.View.{View, running}
use Rattle.rules.specs.Answers.{Answer, numbers}
use Rattle.rules.specs.Kernel.{fresh, event}
use Rattle.rules.specs.Plain.{Plain, view_of, plain_fresh, plain_next, plain_answer}
use Rattle.rules.specs.Runs.{answers, plain_answers}
use Rattle.run_reading.specs.Recorded.{read_head, event_items, items_behind, Item, begins, occurs, refuses, items_of}
use Rattle.run_text.specs.Lines.{digits, decimal, signed, fields, start_line, event_line, refusal}

-- ---- by any kernel

-- its fresh states, the running task, and what comes of an event
pub record Kernel (S : Type 0) : Type 0 where
  pub fresh : Setup → S
  pub runs : S → ℕ
  pub answer : S → Event → Answer
  pub next : S → Event → S

-- where a run stands: there is no kernel before its setup and count are accepted
pub data Stage (S : Type 0) : Type 0 where
  unstarted : Stage S
  at : S → Stage S

module _ {S : Type 0} (k : Kernel S) where
  -- "start" and the running task; the number of an event and its answer; "refused", the fault's digit and the place
  unfoldable pub line_of : Stage S → Item → List ℕ
  line_of x (begins h) = start_line (k.runs (k.fresh h.setup))
  line_of (at v) (occurs i e) = event_line i (numbers (k.answer v e))
  line_of unstarted (occurs i e) = []
  line_of x (refuses f place) = refusal (digit f) place

  unfoldable pub onward : Stage S → Item → Stage S
  onward x (begins h) = at (k.fresh h.setup)
  onward (at v) (occurs i e) = at (k.next v e)
  onward unstarted (occurs i e) = unstarted
  onward x (refuses f place) = x

  unfoldable pub lines_from : Stage S → List Item → List ℕ
  lines_from x [] = []
  lines_from x (i ∷ l) = line_of x i ++ lines_from (onward x i) l

  unfoldable pub stage_from : Stage S → List Item → Stage S
  stage_from x [] = x
  stage_from x (i ∷ l) = stage_from (onward x i) l

-- ---- by the kernel with queues, and by the plain one

abbrev pub queues : Kernel View
queues = record { fresh = fresh; runs = running; answer = λ v e. (event v e).answer; next = λ v e. (event v e).next }

abbrev pub plain : Kernel Plain
plain = record { fresh = plain_fresh; runs = λ s. running (view_of s); answer = plain_answer; next = plain_next }

-- The text of a whole input. Whoever unfolds it computes the text of any bytes.
unfoldable pub text_of : List ℕ → List ℕ
unfolding answers read_head event_items items_behind items_of digits decimal signed fields start_line event_line refusal line_of onward lines_from
text_of s = lines_from queues unstarted (items_of s)

-- the same by the plain kernel
unfoldable pub plain_text_of : List ℕ → List ℕ
unfolding plain_answers read_head event_items items_behind items_of digits decimal signed fields start_line event_line refusal line_of onward lines_from
plain_text_of s = lines_from plain unstarted (items_of s)

-- the state behind the last event, if the run has begun
unfoldable pub state_of : List ℕ → Stage View
unfolding answers read_head event_items items_behind items_of onward stage_from
state_of s = stage_from queues unstarted (items_of s)
