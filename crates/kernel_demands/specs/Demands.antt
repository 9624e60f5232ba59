-- What the customer demands of runs, said of the code: of every chain of steps.
use Rattle.std.specs.Prelude.{Bool, false, not, List, [], ◌∷◌, map, ◌≢◌, ◌≡◌, ℕ, ◌+◌, ◌/◌, ◌%◌, ◌^◌, ℤ, pos, length, Result, Ok}
use Rattle.rules.specs.Ids.{of, In, once}
use Rattle.rules.specs.Codes.{number, in_damage, E-RLWAI}
use Rattle.rules.specs.State.{State, Cell, is_open, task}
use Rattle.rules.specs.Events.{enter, call, nat}
use Rattle.rules.specs.Answers.{read_cell}
use Rattle.rules.specs.View.{head, running}
use Rattle.rules.specs.Plain.{Plain, view_of, plain_next, plain_answer}
use Rattle.rules.specs.Blocks.{is_free, Happened, granted, gave_back, AllAccounted}
use Rattle.rules_runs.specs.Wear.{WornEvenly}
use Rattle.rules_runs.specs.Demand3.{Agree}
use Rattle.rules.specs.Broken.{broken, is_fresh, Unless, OnlyRelWai}
use Rattle.rules_turns.specs.Turns.{Whether}
use Rattle.rules_examples.specs.BenchSheet.{Case, Sheet}
use Rattle.memory_columns.specs.Layout as Layout
use Rattle.memory_columns.specs.Layout.{put}
use Rattle.memory_picture.specs.Picture.{Memory, memory, view_in, SoundIn}
use Rattle.kernel_start.specs.Starting.{Starts}
use Rattle.setup_sections.specs.Judging.{Refusal}
use Rattle.kernel_cells.specs.Promises.{Reads, Runs}
use Rattle.kernel_steps.specs.Steps.{Reply, told, Link, Chain, last_memory}

-- whatever `cell` reads of a task in this memory is this cell
abbrev pub CellIs : Memory → ℤ → Cell → Type 0
CellIs m a c = (code : ℤ) (word : ℕ) → Reads m a code word → (code ≡ number c.code) × (word ≡ c.word)

-- ---- demand 3

-- what holds before the first event and after each: the memory shows a view that agrees with the plain state, `running` names the plain
-- kernel's task, each task's cell reads as the plain one's, each block is accounted for
pub record Same (past : List Happened) (m : Memory) (s : Plain) : Type 0 where
  pub accepted : SoundIn m
  pub agree : Agree (view_in m) s
  pub runs : (r : ℕ) → Runs m r → r ≡ running (view_of s)
  pub cells : (a : ℤ) → CellIs m a (read_cell s.body a)
  pub blocks : AllAccounted past (view_in m).body

-- an event of the code's run, as the blocks' accounts read it: the numbers that came back, and what the memory shows before and after
abbrev pub seen : Memory → Link → Happened
seen m k = record { event = k.event; code = k.reply.code; w1 = k.reply.w1; before = (view_in m).body; after = (view_in k.left).body }

-- At each link the answer is the plain kernel's and tells no damage; the accounts are kept from the replies and the memories.
abbrev pub Demand3OnCode : List Happened → Memory → Plain → List Link → Type 0
Demand3OnCode past m s [] = Same past m s
Demand3OnCode past m s (k ∷ l) =
    Same past m s × (k.reply ≡ told (plain_answer s k.event)) × (in_damage k.reply.code ≡ false)
    × Demand3OnCode (seen m k ∷ past) k.left (plain_next s k.event) l

-- ---- a block is given to one at a time

-- block j of pool p at this link: out before it and granted at it, counted, is out after it and returned at it
abbrev pub Balanced : Memory → Link → ℕ → ℕ → Type 0
Balanced m k p j = once (not (is_free (view_in m).body p j)) + granted (seen m k) p j ≡ once (not (is_free (view_in k.left).body p j)) + gave_back (seen m k) p j

-- so one that is out is not granted, unless the same event returns it
abbrev pub OutNotGranted : Memory → Link → ℕ → ℕ → Type 0
OutNotGranted m k p j = is_free (view_in m).body p j ≡ false → gave_back (seen m k) p j ≡ 0 → granted (seen m k) p j ≡ 0

-- every block that the memory shows, along a chain
abbrev pub BlocksOnce : Memory → List Link → Type 0
BlocksOnce m [] = Unit {0}
BlocksOnce m (k ∷ l) =
    ((p : ℕ) → In p (length (view_in m).body.store.pools) → (j : ℕ) → In j (length (of (view_in m).body.store.pools p [])) → Balanced m k p j × OutNotGranted m k p j)
    × BlocksOnce k.left l

-- ---- blocks wear evenly

-- the links of a chain as the blocks' accounts read them, first to last
abbrev pub seen_all : Memory → List Link → List Happened
seen_all m [] = []
seen_all m (k ∷ l) = seen m k ∷ seen_all k.left l

-- between a return of a block to the free ones and its next grant every block of the pool that was free at that return is granted
abbrev pub WornEvenlyOnCode : Memory → List Link → Type 0
WornEvenlyOnCode m l = WornEvenly (seen_all m l)

-- ---- a broken wait

-- the state of the task that a word names, as the memory shows it
abbrev pub state_in : Memory → ℤ → State
state_in m a = (task (view_in m).body (nat a)).state

-- along a chain `cell` gives E_RLWAI and 0 for task a, now and after each event, up to the event that releases, starts or deletes the task
abbrev pub StaysBrokenOnCode : ℤ → Memory → List Link → Type 0
StaysBrokenOnCode a m [] = CellIs m a broken
StaysBrokenOnCode a m (k ∷ l) = CellIs m a broken × Unless (is_fresh (state_in m a) (state_in k.left a)) (StaysBrokenOnCode a k.left l)

-- after every rel_wai of a chain that is answered with 0
abbrev pub BrokenOnCode : List Link → Type 0
BrokenOnCode [] = Unit {0}
BrokenOnCode (k ∷ l) = ((x a y z : ℤ) → k.event ≡ call x (pos 6) a y z → k.reply.code ≡ pos 0 → StaysBrokenOnCode a k.left l) × BrokenOnCode l

-- at no link E_RLWAI is answered, and a cell that is E_RLWAI after a link was so before and the task was neither released nor started nor deleted, or the
-- link is an accepted rel_wai that names the task
abbrev pub OnlyRelWaiOnCode : Memory → List Link → Type 0
OnlyRelWaiOnCode m [] = Unit {0}
OnlyRelWaiOnCode m (k ∷ l) =
    (k.reply.code ≢ number E-RLWAI)
    × ((i : ℕ) → OnlyRelWai i k.event k.reply.code (task (view_in m).body i) (task (view_in k.left).body i))
    × OnlyRelWaiOnCode k.left l

-- ---- handlers

-- a handler is open
abbrev pub open_in : Memory → Bool
open_in m = is_open (view_in m).body.handlers

-- As long as a handler is open each reply names task r as running, whatever the events are; the first that leaves none open names the head of the
-- best queue.
abbrev pub UntilReturn : ℕ → List Link → Type 0
UntilReturn r [] = Unit {0}
UntilReturn r (k ∷ l) = Whether (open_in k.left) ((k.reply.runs ≡ r) × UntilReturn r l) (k.reply.runs ≡ head (view_in k.left))

-- An entry while no handler is open is answered with 0; the task that ran before it is named by its reply, and until the return.
abbrev pub InterruptedOnCode : Memory → List Link → Type 0
InterruptedOnCode m [] = Unit {0}
InterruptedOnCode m (k ∷ l) =
    (k.event ≡ enter → open_in m ≡ false → (k.reply.code ≡ pos 0) × (k.reply.runs ≡ running (view_in m)) × UntilReturn (running (view_in m)) l)
    × InterruptedOnCode k.left l

-- ---- worked cases

-- the five numbers of a reply
abbrev pub figures : Reply → List ℤ
figures r = r.code ∷ pos r.w1 ∷ pos r.w2 ∷ pos r.runs ∷ pos r.released ∷ []

-- the words with another clock: the halves are written
abbrev pub clock_set : ℕ → List ℕ → List ℕ
clock_set t b = put Layout.system 8 (t / 2 ^ 32) (put Layout.system 7 (t % 2 ^ 32) b)

-- from this memory: `running` names the case's task; every chain over the case's events has the case's answers, and at its end `cell` reads the
-- case's cell
pub record CaseHolds (m : Memory) (c : Case) : Type 0 where
  pub runs : (r : ℕ) → Runs m r → r ≡ c.runs
  pub says : (l : List Link) → Chain m l → map (λ k. k.event) l ≡ map (λ s. s.event) c.steps → map (λ k. figures k.reply) l ≡ map (λ s. s.says) c.steps
  pub cell : (l : List Link) → Chain m l → map (λ k. k.event) l ≡ map (λ s. s.event) c.steps
      → (code : ℤ) (word : ℕ) → Reads (last_memory m l) (pos c.who) code word → (code ≡ c.code) × (word ≡ c.word)

-- each of a list of cases
abbrev pub Every : (Case → Type 0) → List Case → Type 0
Every P [] = Unit {0}
Every P (c ∷ l) = P c × Every P l

-- the start takes a sheet's bytes, and each case holds of the memory that it leaves, once the case's clock is written
abbrev pub SheetOnCode : Sheet → Type 0
SheetOnCode s =
    (r : Result (Unit {0}) Refusal) (old m : Memory) → Starts s.bytes r old m
    → (r ≡ Ok tt) × Every (λ c. CaseHolds (memory (clock_set c.clock m.words) m.marks) c) s.cases
