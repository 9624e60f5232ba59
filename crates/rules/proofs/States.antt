-- What the tests on a state tell of each other, and what the changes of a state keep. Assumes nothing.
use mathlib.Core.Bool.{Bool, true, false, false≢true}
use mathlib.Core.Option.{Option, none}
use mathlib.Core.Path.{◌≡◌, refl, sym, ◌∙◌}
use Prim.Native.Nat.{ℕ}
use Rattle.rules.specs.State.{Kind, Wait, asleep, timed, on, State, dormant, ready, suspended, absent, waiting, waiting_suspended, wait_of, is_dormant, is_absent, is_ready, is_waiting, is_freed, sleeps}
use Rattle.rules.specs.Places.{Item, awaits}
use Rattle.rules.specs.Acts.{freed, halted, resumed, older, Move, stay, leave, last, released_move, halted_move, resumed_move, regraded_move}

-- a test that no absent task passes
pub there_by : (f : State → Bool) → f absent ≡ false → (s : State) → f s ≡ true → is_absent s ≡ false
there_by f n dormant e = refl
there_by f n absent e = absurd (false≢true (sym n ∙ e))
there_by f n ready e = refl
there_by f n suspended e = refl
there_by f n (waiting w) e = refl
there_by f n (waiting_suspended w) e = refl

-- a test that only a wait passes
pub waits_by : (f : Option Wait → Bool) → f none ≡ false → (s : State) → f (wait_of s) ≡ true → is_waiting s ≡ true
waits_by f n dormant e = absurd (false≢true (sym n ∙ e))
waits_by f n absent e = absurd (false≢true (sym n ∙ e))
waits_by f n ready e = absurd (false≢true (sym n ∙ e))
waits_by f n suspended e = absurd (false≢true (sym n ∙ e))
waits_by f n (waiting w) e = refl
waits_by f n (waiting_suspended w) e = refl

pub waiting_tells : (s : State) → is_waiting s ≡ true → (is_ready s ≡ false) × (is_freed s ≡ false) × (is_absent s ≡ false)
waiting_tells dormant e = absurd (false≢true e)
waiting_tells absent e = absurd (false≢true e)
waiting_tells ready e = absurd (false≢true e)
waiting_tells suspended e = absurd (false≢true e)
waiting_tells (waiting w) e = (refl, refl, refl)
waiting_tells (waiting_suspended w) e = (refl, refl, refl)

pub dormant_tells : (s : State) → is_dormant s ≡ true → wait_of s ≡ none
dormant_tells dormant e = refl
dormant_tells absent e = absurd (false≢true e)
dormant_tells ready e = absurd (false≢true e)
dormant_tells suspended e = absurd (false≢true e)
dormant_tells (waiting w) e = absurd (false≢true e)
dormant_tells (waiting_suspended w) e = absurd (false≢true e)

pub freed_tells : (s : State) → is_waiting s ≡ true → (wait_of (freed s) ≡ none) × (is_freed (freed s) ≡ true) × (is_dormant (freed s) ≡ false) × (is_absent (freed s) ≡ false)
freed_tells dormant e = absurd (false≢true e)
freed_tells absent e = absurd (false≢true e)
freed_tells ready e = absurd (false≢true e)
freed_tells suspended e = absurd (false≢true e)
freed_tells (waiting w) e = (refl, refl, refl, refl)
freed_tells (waiting_suspended w) e = (refl, refl, refl, refl)

pub halted_same : (s : State) → (wait_of (halted s) ≡ wait_of s) × (is_dormant (halted s) ≡ is_dormant s) × (is_freed (halted s) ≡ is_freed s) × (is_absent (halted s) ≡ is_absent s)
halted_same dormant = (refl, refl, refl, refl)
halted_same absent = (refl, refl, refl, refl)
halted_same ready = (refl, refl, refl, refl)
halted_same suspended = (refl, refl, refl, refl)
halted_same (waiting w) = (refl, refl, refl, refl)
halted_same (waiting_suspended w) = (refl, refl, refl, refl)

pub resumed_same : (s : State) → (wait_of (resumed s) ≡ wait_of s) × (is_dormant (resumed s) ≡ is_dormant s) × (is_freed (resumed s) ≡ is_freed s) × (is_absent (resumed s) ≡ is_absent s)
resumed_same dormant = (refl, refl, refl, refl)
resumed_same absent = (refl, refl, refl, refl)
resumed_same ready = (refl, refl, refl, refl)
resumed_same suspended = (refl, refl, refl, refl)
resumed_same (waiting w) = (refl, refl, refl, refl)
resumed_same (waiting_suspended w) = (refl, refl, refl, refl)

-- ---- a tick changes the ticks left, and nothing else

pub record Older (s : State) : Type 0 where
  pub ready : is_ready (older s) ≡ is_ready s
  pub waiting : is_waiting (older s) ≡ is_waiting s
  pub freed : is_freed (older s) ≡ is_freed s
  pub dormant : is_dormant (older s) ≡ is_dormant s
  pub absent : is_absent (older s) ≡ is_absent s
  pub sleeps : sleeps (wait_of (older s)) ≡ sleeps (wait_of s)
  pub awaits : (k : Kind) (o : ℕ) → awaits (older s) k o ≡ awaits s k o

ruleset alike = (refl)

pub older_same : (s : State) → Older s
older_same dormant = search alike
older_same absent = search alike
older_same ready = search alike
older_same suspended = search alike
older_same (waiting asleep) = search alike
older_same (waiting (timed t)) = search alike
older_same (waiting (on k o p m)) = search alike
older_same (waiting_suspended asleep) = search alike
older_same (waiting_suspended (timed t)) = search alike
older_same (waiting_suspended (on k o p m)) = search alike

-- ---- the moves that follow from the state: nobody moves, or the task leaves or goes last

data StaysOrLast (x : Item) : Move → Type 0 where
  stays : StaysOrLast x stay
  goes_last : StaysOrLast x (last x)

ruleset either_way = (stays, goes_last)

regraded_either : (x : Item) (s : State) → StaysOrLast x (regraded_move s x)
regraded_either x dormant = search either_way
regraded_either x absent = search either_way
regraded_either x ready = search either_way
regraded_either x suspended = search either_way
regraded_either x (waiting w) = search either_way
regraded_either x (waiting_suspended w) = search either_way

module _ (P : Move → Type 0) (x : Item) (unmoved : P stay) where
  pub released_move_lem : P (leave x) → P (last x) → (s : State) → P (released_move s x)
  released_move_lem leaves goes dormant = unmoved
  released_move_lem leaves goes absent = unmoved
  released_move_lem leaves goes ready = unmoved
  released_move_lem leaves goes suspended = unmoved
  released_move_lem leaves goes (waiting w) = goes
  released_move_lem leaves goes (waiting_suspended w) = leaves

  pub halted_move_lem : P (leave x) → (s : State) → P (halted_move s x)
  halted_move_lem leaves dormant = unmoved
  halted_move_lem leaves absent = unmoved
  halted_move_lem leaves ready = leaves
  halted_move_lem leaves suspended = unmoved
  halted_move_lem leaves (waiting w) = unmoved
  halted_move_lem leaves (waiting_suspended w) = unmoved

  pub resumed_move_lem : P (last x) → (s : State) → P (resumed_move s x)
  resumed_move_lem goes dormant = unmoved
  resumed_move_lem goes absent = unmoved
  resumed_move_lem goes ready = unmoved
  resumed_move_lem goes suspended = goes
  resumed_move_lem goes (waiting w) = unmoved
  resumed_move_lem goes (waiting_suspended w) = unmoved

  either_move : (m : Move) → P (last x) → StaysOrLast x m → P m
  either_move m goes stays = unmoved
  either_move m goes goes_last = goes

  pub regraded_move_lem : P (last x) → (s : State) → P (regraded_move s x)
  regraded_move_lem goes s = either_move (regraded_move s x) goes (regraded_either x s)
