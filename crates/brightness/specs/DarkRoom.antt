-- What the display shows along a chain of events: a wait that is broken off leaves the level, and a reading gives its slot's.
use Rattle.std.specs.Prelude.{List, [], ◌∷◌, ◌≡◌, ℕ, ℤ, pos}
use Rattle.rules.specs.State.{State, mailbox, task}
use Rattle.rules.specs.Places.{waiters, mail}
use Rattle.rules.specs.Events.{nat}
use Rattle.rules.specs.View.{line}
use Rattle.rules.specs.Broken.{is_fresh, Unless, BreaksOff}
use Rattle.memory_picture.specs.Picture.{Memory, view_in}
use Rattle.kernel_steps.specs.Steps.{Link}
use Rattle.brightness_curve.specs.declared.Curve.{Curve}
use Rattle.brightness_curve.specs.Curves.{good, judged_of}
use Rattle.brightness_light.specs.declared.Light.{Light}
use Rattle.brightness_light.specs.declared.News.TheVariants.{Waits}
use Rattle.brightness_light.specs.declared.Shown.{Shown}
use Rattle.brightness_light.specs.Lights.{idle, read_of}
use Rattle.brightness.specs.Readings.{Resumes}

-- the state of a task, as the memory shows it
abbrev pub state_in : Memory → ℕ → State
state_in m t = (task (view_in m).body t).state

-- P of the memory, now and after each event of a chain, up to the event that releases, starts or deletes task t
abbrev pub UntilFreed : ℕ → (Memory → Type 0) → Memory → List Link → Type 0
UntilFreed t P m [] = P m
UntilFreed t P m (k ∷ l) = P m × Unless (is_fresh (state_in m t) (state_in k.left t)) (UntilFreed t P k.left l)

-- ---- a broken wait

-- whatever `resumed` makes of a light that waits for task t leaves its level, by any curve and any slots
abbrev pub LevelStays : ℕ → Memory → Type 0
LevelStays t m = (c : Curve) (s : List ℕ) (l : Light) (r : Shown) → l.waits ≡ t → Resumes c s l m r → r.light.level ≡ l.level

-- after every rel_wai of a chain that is answered with 0, for the task that it names
abbrev pub BrokenStays : List Link → Type 0
BrokenStays [] = Unit {0}
BrokenStays (k ∷ l) = ((t : ℕ) → BreaksOff (pos t) k.event k.reply.code → UntilFreed t (LevelStays t) k.left l) × BrokenStays l

-- whatever `resumed` makes of this light has level y
abbrev pub LevelIs : Light → ℕ → Memory → Type 0
LevelIs l y m = (c : Curve) (s : List ℕ) (r : Shown) → Resumes c s l m r → r.light.level ≡ y

-- ---- a reading

-- the messages that lie in a mailbox, and the tasks that wait there, as the memory shows them
abbrev pub mail_in : Memory → ℤ → List ℕ
mail_in m a = line (view_in m) (mail (nat a))

abbrev pub waiters_in : Memory → ℤ → List ℕ
waiters_in m a = line (view_in m) (waiters mailbox (nat a))

-- whatever `resumed` makes of a light that waits for task t, by a good curve and once that task runs, is what message j gives: its slot's level
abbrev pub GivesSlot : ℕ → ℕ → Memory → Type 0
GivesSlot t j m =
    (c : Curve) (s : List ℕ) (l : Light) (r : Shown) → judged_of c ≡ good → l.waits ≡ t → Resumes c s l m r → (r.news ≡ Waits → ⊥) → r ≡ read_of c s (idle l) j
