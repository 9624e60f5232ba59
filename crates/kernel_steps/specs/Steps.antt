-- What an event makes of a memory, whatever the memory holds; and runs, in which each event gets the memory that the last one left.
use Rattle.std.specs.Prelude.{true, List, [], ◌∷◌, ◌≡◌, ℕ, ℤ}
use Rattle.rules.specs.Codes.{number, negative}
use Rattle.rules.specs.Breach.{breach}
use Rattle.rules.specs.Events.{Event, Words}
use Rattle.rules.specs.Answers.{Answer}
use Rattle.rules.specs.Kernel.{event}
use Rattle.memory_picture.specs.Picture.{Memory, view_in, SoundIn}
use Rattle.kernel_steps.specs.declared.Answer as Given

-- the five numbers that come back of an event
pub record Reply : Type 0 where
  pub code : ℤ
  pub w1 : ℕ
  pub w2 : ℕ
  pub runs : ℕ
  pub released : ℕ

abbrev pub reply : ℤ → ℕ → ℕ → ℕ → ℕ → Reply
reply c x y r n = record { code = c; w1 = x; w2 = y; runs = r; released = n }

-- those that a function gives
abbrev pub reply_of : Given.Answer → Reply
reply_of a = reply a.code a.w1 a.w2 a.running a.released

-- an answer of the rules, in numbers
abbrev pub told : Answer → Reply
told a = reply (number a.code) a.w1 a.w2 a.runs a.released

-- what comes back where the state is damaged: the first rule broken and, in w1, the smallest id at which it is, by the view shown; zeros, the
-- running task given as 0
abbrev pub unsound : Memory → Reply
unsound m = reply (number (breach (view_in m)).code) (breach (view_in m)).id 0 0 0

-- The event's words have 32 bits, as the functions' types say. A sound state: the rules' answer, and a memory that shows the rules' next state
-- and is accepted again. A damaged one: what is broken, and the memory as it was. A negative code leaves the memory as it was, whatever it
-- holds.
pub record Step (e : Event) (old : Memory) (r : Reply) (new : Memory) : Type 0 where
  pub words : Words e
  pub answers : SoundIn old → r ≡ told (event (view_in old) e).answer
  pub accepted : SoundIn old → SoundIn new
  pub shows : SoundIn old → view_in new ≡ (event (view_in old) e).next
  pub refuses : (SoundIn old → ⊥) → r ≡ unsound old
  pub kept : negative r.code ≡ true → new ≡ old

-- ---- runs

-- an event, what came back, and the memory that it left
pub record Link : Type 0 where
  pub event : Event
  pub reply : Reply
  pub left : Memory

-- steps, each from the memory that the last one left; the first from m
abbrev pub Chain : Memory → List Link → Type 0
Chain m [] = Unit {0}
Chain m (k ∷ l) = Step k.event m k.reply k.left × Chain k.left l

-- the memory behind the last one
abbrev pub last_memory : Memory → List Link → Memory
last_memory m [] = m
last_memory m (k ∷ l) = last_memory k.left l
