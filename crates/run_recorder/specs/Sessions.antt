-- A whole input, however it is divided: `begin`, then parts, each given what the last one left and an output of any length, then `end`.
use Rattle.std.specs.Prelude.{Bool, cond, ◌&&◌, List, [], ◌∷◌, ◌++◌, map, ◌≡◌, ℕ, ◌<◌, leb, take}
use Rattle.rules.specs.View.{View}
use Rattle.rules.specs.Writing.{joined}
use Rattle.memory_picture.specs.Picture.{Memory}
use Rattle.kernel_start.specs.Starting.{Holds}
use Rattle.run_reading.specs.Recorded.{items_of}
use Rattle.run_reading.specs.Recorder.{begun, items, after}
use Rattle.run_text.specs.Text.{Stage, unstarted, at, stage_from, queues, text_of, state_of}
use Rattle.run_recorder.specs.declared.Parted.{Parted}
use Rattle.run_stream.specs.Lent.{Said, said}
use Rattle.run_recorder.specs.Recording.{Lent, recorder_in, taken, refusal_in, Parts, Ends}

-- the memory shows where the run stands; before the start line it may hold anything
abbrev pub Shows : Stage View → Memory → Type 0
Shows unstarted m = Unit {0}
Shows (at v) m = Holds m v

-- the memory after the bytes s
pub record Recorded (s : List ℕ) (x : Lent) : Type 0 where
  pub recorder : recorder_in x ≡ after begun s
  pub shows : Shows (stage_from queues unstarted (items begun s)) x.memory

abbrev pub is_refusal : ℕ → Bool
is_refusal n = leb 1 n && leb n 4

-- a part as it was given, what came back, and the memory that it left
pub record Handed : Type 0 where
  pub bytes : List ℕ
  pub output : List ℕ
  pub answer : Parted
  pub left : Lent
  pub output' : List ℕ

abbrev pub Division : Lent → List Handed → Type 0
Division x [] = Unit {0}
Division x (k ∷ l) = Parts k.bytes x k.left k.output k.output' k.answer × Division k.left l

abbrev pub last_left : Lent → List Handed → Lent
last_left x [] = x
last_left x (k ∷ l) = last_left k.left l

-- the bytes that were taken, and the text that was written
abbrev pub bytes_taken : List Handed → List ℕ
bytes_taken l = joined (map (λ k. take k.answer.taken k.bytes) l)

abbrev pub text_written : List Handed → List ℕ
text_written l = joined (map (λ k. take k.answer.written k.output') l)

-- the run's refusal that was said: the first number from 1 to 4
abbrev pub first_said : List Parted → Said
first_said [] = taken
first_said (a ∷ l) = cond (is_refusal a.number) (said a.number a.place) (first_said l)

-- Behind the parts the memory is that after the bytes taken. After the first end, if its line has room, the text is that of the bytes taken, the memory shows the rules' last state, and the run's
-- refusal that was said, by a part or by the end, is the definition's.
pub record Whole (x : Lent) (l : List Handed) : Type 0 where
  pub recorded : Recorded (bytes_taken l) (last_left x l)
  pub ends : (n' output output' : List ℕ) (a : Parted) → Ends (last_left x l).numbers (last_left x l).held n' output output' a → a.number < 5
      → (text_written l ++ take a.written output' ≡ text_of (bytes_taken l)) × (first_said (map (λ k. k.answer) l ++ (a ∷ [])) ≡ refusal_in (items_of (bytes_taken l)) taken)
  pub state : Shows (state_of (bytes_taken l)) (last_left x l).memory
