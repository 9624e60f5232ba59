-- What `part` and `end` promise of any lent memory.
use Rattle.std.specs.Prelude.{false, cond, ◌&&◌, List, [], ◌∷◌, ◌++◌, ◌≡◌, ℕ, ◌+◌, ◌≤◌, ◌<◌, leb, length, take, Option, None, Some, Result, Ok}
use Rattle.rules.specs.Setup.{digit}
use Rattle.memory_picture.specs.Picture.{Memory}
use Rattle.check_damage.specs.declared.Breach.{Breach}
use Rattle.kernel_steps.specs.Serving.{Known}
use Rattle.run_reading.specs.Recorded.{Item, begins, occurs, refuses}
use Rattle.run_reading.specs.Recorder.{Recorder, closed, is_ended, ended, eat, items, after, at_input_end}
use Rattle.setup_sections.specs.Judging.{Refusal, digit_of}
use Rattle.run_stream.specs.declared.Item.{Item as Completed}
use Rattle.run_stream.specs.Lent.{recorder_of, Is, Tells, Said, said}
use Rattle.run_text.specs.Lines.{refusal, longest_line}
use Rattle.run_text.specs.Output.{over, Wrote}
use Rattle.run_recorder.specs.declared.Parted.{Parted}
use Rattle.run_recorder.specs.declared.Turn.{Turn}
use Rattle.run_recorder.specs.Running.{Ran}

-- ---- what is lent

pub record Lent : Type 0 where
  pub numbers : List ℕ
  pub held : List ℕ
  pub memory : Memory

abbrev pub lent : List ℕ → List ℕ → Memory → Lent
lent n h m = record { numbers = n; held = h; memory = m }

abbrev pub recorder_in : Lent → Recorder
recorder_in x = recorder_of x.numbers x.held

-- ---- what is said

-- all is taken; S5; there is no room for the next line
abbrev pub taken : Said
taken = said 0 0

abbrev pub S5 : Said
S5 = said 5 0

abbrev pub full : Said
full = said 6 0

-- the first refusal among items, by its fault's digit and its place; what else is said if there is none
abbrev pub refusal_in : List Item → Said → Said
refusal_in [] none = none
refusal_in (begins h ∷ l) none = refusal_in l none
refusal_in (occurs number e ∷ l) none = refusal_in l none
refusal_in (refuses f place ∷ l) none = said (digit f) place

-- of so many bytes, of which so many were taken
abbrev pub part_says : Recorder → List ℕ → ℕ → Said
part_says r bytes n =
    cond (closed r && leb 1 (length bytes)) S5 (refusal_in (items r (take n bytes)) (cond (leb (length bytes) n) taken full))

abbrev pub Says : Parted → Said → Type 0
Says a s = (a.number ≡ s.number) × (a.place ≡ s.place)

-- ---- a part

-- Behind the bytes in front one more is taken: they have not closed the recorder, and the longest line has room behind theirs, which are
-- the first of the part's lines.
pub record Admits (r : Recorder) (m : Memory) (front lines : List ℕ) (room : ℕ) : Type 0 where
  pub is_open : closed (after r front) ≡ false
  pub before : List ℕ
  pub left : Memory
  pub more : List ℕ
  pub ran : Ran (items r front) m before left
  pub joins : lines ≡ before ++ more
  pub space : length before + longest_line ≤ room

-- The bytes taken are the front of the part. What they complete is done, and its lines stand in the output. A part takes all bytes, or ends
-- behind the one that closes the recorder, or where there is no room for a line: of a closed recorder it takes none. Where nothing is
-- taken, nothing changes.
pub record Parts (bytes : List ℕ) (old new : Lent) (text text' : List ℕ) (a : Parted) : Type 0 where
  pub few : a.taken ≤ length bytes
  pub recorder : recorder_in new ≡ after (recorder_in old) (take a.taken bytes)
  pub lines : List ℕ
  pub ran : Ran (items (recorder_in old) (take a.taken bytes)) old.memory lines new.memory
  pub each : (k : ℕ) → k < a.taken → Admits (recorder_in old) old.memory (take k bytes) lines (length text)
  pub written : a.written ≡ length lines
  pub fits : a.written ≤ length text
  pub holds : text' ≡ over lines text
  pub says : Says a (part_says (recorder_in old) bytes a.taken)
  pub full : a.number ≡ 6 → length text < a.written + longest_line
  pub kept : a.taken ≡ 0 → (new ≡ old) × (text' ≡ text)

-- ---- the end

-- S5 for any end but the first. Else the line of a refusal, if there is one, and the recorder has ended; but where the line has no room, that is said. What is not said to
-- be done is not done.
pub record Ends (n h n' text text' : List ℕ) (a : Parted) : Type 0 where
  pub lines : List ℕ
  pub ran : (m : Memory) → Ran (at_input_end (recorder_of n h)) m lines m
  pub nothing : a.taken ≡ 0
  pub fits : a.written ≤ length text
  pub says : Says a (cond (is_ended (recorder_of n h)) S5 (cond (leb (length lines) (length text)) (refusal_in (at_input_end (recorder_of n h)) taken) full))
  pub done : a.number < 5 → (recorder_of n' h ≡ ended) × (text' ≡ over lines text) × (a.written ≡ length lines)
  pub kept : 5 ≤ a.number → (n' ≡ n) × (text' ≡ text) × (a.written ≡ 0)

-- ---- what the private functions promise

abbrev pub said_of : Option Refusal → Said
said_of None = taken
said_of (Some e) = said (digit_of e.fault) e.place

-- the items that were told ran, and this is known of the memory then
pub record Plays (l : List Item) (old new : Memory) (text text' : List ℕ) (t : Turn) : Type 0 where
  pub line : List ℕ
  pub ran : Ran l old line new
  pub wrote : Wrote line 0 text text' t.written
  pub short : t.written ≤ longest_line
  pub known : Known t.known new
  pub says : said_of t.refusal ≡ refusal_in l taken

abbrev pub PlaysTold : Completed → List ℕ → Result ℕ Breach → Memory → Memory → List ℕ → List ℕ → Turn → Type 0
PlaysTold c h k old new text text' t = (l : List Item) → Tells (Ok c) h l → Known k old → Plays l old new text text' t

-- a byte
pub record Eats (b : ℕ) (k : Result ℕ Breach) (old new : Lent) (text text' : List ℕ) (t : Turn) : Type 0 where
  pub next : recorder_in new ≡ (eat (recorder_in old) b).next
  pub plays : Known k old.memory → Plays (eat (recorder_in old) b).items old.memory new.memory text text' t

-- a part of a recorder that is not closed
abbrev pub PartsOpen : List ℕ → Lent → Lent → List ℕ → List ℕ → Parted → Type 0
PartsOpen bytes old new text text' a = closed (recorder_in old) ≡ false → Parts bytes old new text text' a

-- the line of a refusal at the end
pub record EndsRefused (d place : ℕ) (n n' text text' : List ℕ) (a : Parted) : Type 0 where
  pub nothing : a.taken ≡ 0
  pub short : length (refusal d place) ≤ longest_line
  pub says : Says a (cond (leb (length (refusal d place)) (length text)) (said d place) full)
  pub done : length (refusal d place) ≤ length text → Is n' ended × (text' ≡ over (refusal d place) text) × (a.written ≡ length (refusal d place))
  pub kept : length text < length (refusal d place) → (n' ≡ n) × (text' ≡ text) × (a.written ≡ 0)

abbrev pub EndsQuiet : List ℕ → Parted → Type 0
EndsQuiet n' a = Is n' ended × (a ≡ record { number = 0; place = 0; taken = 0; written = 0 })
