-- A broken wait reads as broken, never as 0, until its task is next released, started or deleted; and nothing else reads as broken.
use Rattle.std.specs.Prelude.{Bool, true, false, not, ◌&&◌, ◌||◌, List, [], ◌∷◌, ◌⊎◌, ◌≡◌, ℕ, ℤ, pos}
use Rattle.rules.specs.Codes.{E-RLWAI, number}
use Rattle.rules.specs.State.{State, Cell, Task, task, is_dormant, is_absent, is_freed}
use Rattle.rules.specs.Events.{Event, tick, enter, exit, call, nat}
use Rattle.rules.specs.View.{View}
use Rattle.rules.specs.Answers.{is_released}
use Rattle.rules.specs.Kernel.{event, cell}

-- E_RLWAI and 0
abbrev pub broken : Cell
broken = record { code = E-RLWAI; word = 0 }

-- DORMANT before and READY, RUN or SUSPEND after: only a start does that
abbrev pub is_started : State → State → Bool
is_started before after = is_dormant before && is_freed after

-- there before and not after: only a deletion does that
abbrev pub is_deleted : State → State → Bool
is_deleted before after = not (is_absent before) && is_absent after

-- the task was released, started or deleted, read from the states before and after
abbrev pub is_fresh : State → State → Bool
is_fresh before after = is_released before after || (is_started before after || is_deleted before after)

-- A holds, unless the test does
abbrev pub Unless : Bool → Type 0 → Type 0
Unless true A = Unit {0}
Unless false A = A

-- along a run the cell of task a reads as broken, now and after each event, up to the event that releases, starts or deletes the task
abbrev pub StaysBroken : ℤ → View → List Event → Type 0
StaysBroken a v [] = cell v a ≡ broken
StaysBroken a v (e ∷ l) =
    (cell v a ≡ broken)
    × Unless (is_fresh (task v.body (nat a)).state (task (event v e).next.body (nat a)).state) (StaysBroken a (event v e).next l)

-- ---- only rel_wai breaks a wait off

-- the event is an accepted rel_wai that names task a: call 6, its first word a, and the number of the code that it is answered with is 0
abbrev pub BreaksOff : ℤ → Event → ℤ → Type 0
BreaksOff a tick code = ⊥
BreaksOff a enter code = ⊥
BreaksOff a exit code = ⊥
BreaksOff a (call x n w b c) code = (n ≡ pos 6) × (w ≡ a) × (code ≡ pos 0)

-- Of task i before and after an event, which is answered with that code: if its cell is E_RLWAI after the event, then the event is an
-- accepted rel_wai that names it, or the cell is as it was and the task was neither released nor started nor deleted.
abbrev pub OnlyRelWai : ℕ → Event → ℤ → Task → Task → Type 0
OnlyRelWai i e code before after =
    after.cell.code ≡ E-RLWAI → BreaksOff (pos i) e code ⊎ ((after.cell ≡ before.cell) × (is_fresh before.state after.state ≡ false))

-- no event of the run releases, starts or deletes task a
abbrev pub NeverFresh : ℤ → View → List Event → Type 0
NeverFresh a v [] = Unit {0}
NeverFresh a v (e ∷ l) =
    (is_fresh (task v.body (nat a)).state (task (event v e).next.body (nat a)).state ≡ false) × NeverFresh a (event v e).next l

-- some event of the run is an accepted rel_wai that names task a, and no event behind it releases, starts or deletes the task
abbrev pub BrokenOff : ℤ → View → List Event → Type 0
BrokenOff a v [] = ⊥
BrokenOff a v (e ∷ l) = (BreaksOff a e (number (event v e).answer.code) × NeverFresh a (event v e).next l) ⊎ BrokenOff a (event v e).next l
