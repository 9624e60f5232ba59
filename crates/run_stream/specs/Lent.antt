-- A recorder as five numbers and the bytes held: any of them are a value. What the functions of src/lib.rt tell of an item.
use Rattle.std.specs.Prelude.{Bool, List, [], ◌∷◌, ◌≡◌, ℕ, zero, suc, ◌+◌, ◌-◌, ◌*◌, ◌≤◌, min, length, take, get_or, Result, Ok, Err}
use Rattle.rules.specs.Setup.{Fault, got, setup}
use Rattle.run_reading.specs.Recorded.{head_bytes, event_bytes, event_in, Head, Item, begins, occurs, refuses}
use Rattle.run_reading.specs.Recorder.{Recorder, heading, running, stopped, ended, eat}
use Rattle.setup_sections.specs.Judging.{Refusal, coded}
use Rattle.run_stream.specs.declared.Item.{Item as Completed}
use Rattle.run_stream.specs.declared.Item.TheVariants.{Nothing, Begins, Occurs}

-- ---- the numbers

abbrev pub phase : List ℕ → ℕ
phase n = get_or n 0 0

-- how many bytes are held
abbrev pub size : List ℕ → ℕ
size n = get_or n 1 0

-- how many events the run has, and how many are done
abbrev pub total : List ℕ → ℕ
total n = get_or n 2 0

abbrev pub done : List ℕ → ℕ
done n = get_or n 3 0

-- the place of the first event, and that of the next one
abbrev pub base : List ℕ → ℕ
base n = get_or n 4 0

abbrev pub place_of : List ℕ → ℕ
place_of n = base n + event_bytes * done n

-- all of them
abbrev pub numbers_of : ℕ → ℕ → ℕ → ℕ → ℕ → List ℕ
numbers_of p s t d b = p ∷ s ∷ t ∷ d ∷ b ∷ []

-- ---- the recorder

-- the bytes held, one fewer than are needed at most: there is always room for the next one
abbrev pub held_of : ℕ → List ℕ → List ℕ → List ℕ
held_of most n h = take (min (size n) (most - 1)) h

abbrev pub by_phase : ℕ → List ℕ → List ℕ → Recorder
by_phase zero n h = heading (held_of head_bytes n h)
by_phase (suc zero) n h = running (total n - done n) (suc (done n)) (place_of n) (held_of event_bytes n h)
by_phase (suc (suc zero)) n h = stopped
by_phase (suc (suc (suc k))) n h = ended

unfoldable pub recorder_of : List ℕ → List ℕ → Recorder
recorder_of n h = by_phase (phase n) n h

-- whatever bytes are held
abbrev pub Is : List ℕ → Recorder → Type 0
Is n r = (h : List ℕ) → recorder_of n h ≡ r

abbrev pub Tests : (Recorder → Bool) → List ℕ → Bool → Type 0
Tests f n t = (h : List ℕ) → t ≡ f (recorder_of n h)

-- ---- items

-- Nothing is completed; the setup's bytes are the first of those held, so many; the bytes of the event are the first of those held; a fault
abbrev pub Tells : Result Completed Refusal → List ℕ → List Item → Type 0
Tells (Ok Nothing) h l = l ≡ []
Tells (Ok (Begins end)) h l = (x : Head) × (l ≡ begins x ∷ []) × (setup (take end h) ≡ got x.setup end)
Tells (Ok (Occurs i)) h l = l ≡ occurs i (event_in (take event_bytes h)) ∷ []
Tells (Err e) h l = (f : Fault) × (l ≡ refuses f e.place ∷ []) × (e.fault ≡ coded f)

-- the setup's bytes are among those held
abbrev pub Sized : Result Completed Refusal → List ℕ → Type 0
Sized (Ok Nothing) h = Unit {0}
Sized (Ok (Begins end)) h = end ≤ length h
Sized (Ok (Occurs i)) h = Unit {0}
Sized (Err e) h = Unit {0}

-- a byte was taken: the recorder is the next one, and its items are told
pub record Takes (b : ℕ) (n h : List ℕ) (t : Result Completed Refusal) (n' h' : List ℕ) : Type 0 where
  pub next : recorder_of n' h' ≡ (eat (recorder_of n h) b).next
  pub tells : Tells t h' (eat (recorder_of n h) b).items
  pub sized : Sized t h'

-- what is said of a part or of the end: a number, which is the digit of a fault, and a place
pub record Said : Type 0 where
  pub number : ℕ
  pub place : ℕ

abbrev pub said : ℕ → ℕ → Said
said n p = record { number = n; place = p }
