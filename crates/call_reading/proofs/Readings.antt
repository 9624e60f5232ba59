-- What a column says of a task is what the view shows. Assumes nothing.
use mathlib.Core.Bool.{Bool, true, false, cond, ◌||◌, ◌&&◌}
use mathlib.Core.List.{List}
use mathlib.Core.Option.{some}
use mathlib.Core.Path.{◌≡◌, refl, sym, ◌∙◌}
use Prim.Native.Nat.{ℕ, zero, suc, ◌<◌}
use native.Mathlib.Decide.{dec_le}
use native.Mathlib.Omega.{arith}
use lib.Dec.{eqb, leb}
use lib.ListN.{get_or-eq_default}
use borrow.Author.Tests.{eq-eqb, ne_eqb, le-leb, lt-leb}
use Rattle.rules.specs.Ids.{In}
use Rattle.rules.specs.State.{Kind, semaphore, flag, mailbox, pool, Wait, Store, task, nobody, wait_of, is_dormant, is_absent, is_suspended, is_waiting, sleeps}
use Rattle.rules.specs.Tasks.{state_number}
use Rattle.rules.specs.View.{running}
use Rattle.memory_running.proofs.Running.{running_law}
use Rattle.rules.specs.Sound.{WaitNumbers}
use Rattle.memory_picture.proofs.Cases.{kind_cases, status_cases}
use Rattle.call_words.specs.Naming.{NamesTask}
use Rattle.call_words.proofs.Tasks.{tasks_count, task_shown_lem, absent_read, dormant_read}
use Rattle.call_reading.specs.Reading.{waits_at, halted_at, sleeps_at, wakeups_at, number_at}
use Rattle.memory_columns.specs.Layout as Layout
use Rattle.memory_columns.specs.Layout.{entry}
use Rattle.memory_picture.specs.Picture.{kind_number, wait_shown, state_shown, task_shown, tasks_shown, view_shown, Accepted}

past : (b m : List ℕ) (i : ℕ) → (i ≡ 0 → ⊥) → tasks_shown b < i → task (view_shown b m).body i ≡ nobody
past b m zero ne h = absurd (ne refl)
past b m (suc i) ne h = get_or-eq_default (view_shown b m).body.tasks nobody (omega (arith, tasks_count b m))

-- By the status; no sound wait has 0 ticks left.
module _ (u : Store) (s : ℕ) (w : Wait) where
  suspended_number : WaitNumbers u (wait_of (state_shown s w)) → is_suspended (state_shown s w) ≡ (eqb s 4 || eqb s 5)
  suspended_number = status_cases s w (λ st. WaitNumbers u (wait_of st) → is_suspended st ≡ (eqb s 4 || eqb s 5)) (λ e h. rw e) (λ e h. rw e) (λ e h. rw e) (λ e h. rw e) (λ e h. rw e) (λ e h. rw e)
      (λ h. absurd (omega (arith, h.0)))

  waiting_number : WaitNumbers u (wait_of (state_shown s w)) → is_waiting (state_shown s w) ≡ (eqb s 3 || eqb s 5)
  waiting_number = status_cases s w (λ st. WaitNumbers u (wait_of st) → is_waiting st ≡ (eqb s 3 || eqb s 5)) (λ e h. rw e) (λ e h. rw e) (λ e h. rw e) (λ e h. rw e) (λ e h. rw e) (λ e h. rw e)
      (λ h. absurd (omega (arith, h.0)))

  sleeping_number : (t : Bool) → (WaitNumbers u (some w) → sleeps (some w) ≡ t) → WaitNumbers u (wait_of (state_shown s w)) → sleeps (wait_of (state_shown s w)) ≡ ((eqb s 3 || eqb s 5) && t)
  sleeping_number t f = status_cases s w (λ st. WaitNumbers u (wait_of st) → sleeps (wait_of st) ≡ ((eqb s 3 || eqb s 5) && t)) (λ e h. rw e) (λ e h. rw e) (λ e h. rw e (f h)) (λ e h. rw e) (λ e h. rw e (f h)) (λ e h. rw e)
      (λ h. absurd (omega (arith, h.0)))

-- RUN is the running task's
number_state : (u : Store) (s : ℕ) (w : Wait) (r : Bool) → WaitNumbers u (wait_of (state_shown s w)) → state_number (state_shown s w) r ≡ cond (eqb s 1) (cond r 2 1) s
unfolding state_number
number_state u s w r = status_cases s w (λ st. WaitNumbers u (wait_of st) → state_number st r ≡ cond (eqb s 1) (cond r 2 1) s) (λ e h. rw e) (λ e h. rw e) (λ e h. rw e) (λ e h. rw e) (λ e h. rw e) (λ e h. rw e)
    (λ h. absurd (omega (arith, h.0)))

not_asleep : (c : Kind) → leb (kind_number c) 1 ≡ false
not_asleep semaphore = refl
not_asleep flag = refl
not_asleep mailbox = refl
not_asleep pool = refl

kind_sleeps : (u : Store) (k o p m t : ℕ) → WaitNumbers u (some (wait_shown k o p m t)) → sleeps (some (wait_shown k o p m t)) ≡ leb k 1
kind_sleeps u k o p m t = kind_cases k o p m t (λ w. WaitNumbers u (some w) → sleeps (some w) ≡ leb k 1) (λ e h. rw e) (λ e h. rw e) (λ c e h. rw e (sym (not_asleep c))) (λ h. absurd (omega (arith, h.0)))

-- of the caller, who may be any number but 0
pub stored_read : (b m : List ℕ) (i : ℕ) → (i ≡ 0 → ⊥) → (task (view_shown b m).body i).wakeups ≡ wakeups_at b i
unfolding wakeups_at task_shown
stored_read b m i ne = elim (dec_le i (tasks_shown b)) [
  | yes h ↦ rw (le-leb i (tasks_shown b) h, task_shown_lem b m i (omega arith, h))
  | no h ↦ rw (lt-leb i (tasks_shown b) (omega arith), past b m i ne (omega arith))
]

module _ (b m : List ℕ) (i : ℕ) (k : NamesTask i (view_shown b m)) where
  h : In i (tasks_shown b)
  h = rw (tasks_count b m) at k

  -- by the status as the code has read it
  module _ {s : ℕ} (e : s ≡ entry Layout.status b i) where
    pub reads_dormant : s ≡ 0 → is_dormant (task (view_shown b m).body i).state ≡ true
    reads_dormant z = dormant_read b m i h ∙ eq-eqb _ _ (sym e ∙ z)

    pub reads_alive : (s ≡ 0 → ⊥) → is_dormant (task (view_shown b m).body i).state ≡ false
    reads_alive n = dormant_read b m i h ∙ ne_eqb _ _ (λ z. n (e ∙ z))

    pub reads_absent : s ≡ 6 → is_absent (task (view_shown b m).body i).state ≡ true
    reads_absent z = absent_read b m i h ∙ eq-eqb _ _ (sym e ∙ z)

    pub reads_there : (s ≡ 6 → ⊥) → is_absent (task (view_shown b m).body i).state ≡ false
    reads_there n = absent_read b m i h ∙ ne_eqb _ _ (λ z. n (e ∙ z))

  pub wakeups_read : (task (view_shown b m).body i).wakeups ≡ entry Layout.wakeups b i
  unfolding task_shown
  wakeups_read = rw (task_shown_lem b m i h)

  pub priority_read : (task (view_shown b m).body i).priority ≡ entry Layout.priority b i
  unfolding task_shown
  priority_read = rw (task_shown_lem b m i h)

  module _ (A : Accepted b m) where
    sound_wait : WaitNumbers (view_shown b m).body.store (wait_of (task_shown b i).state)
    sound_wait = rw (task_shown_lem b m i h) at (A.sound.body.tasks i k).wait

    pub suspended_read : is_suspended (task (view_shown b m).body i).state ≡ halted_at b i
    unfolding task_shown
    suspended_read = rw (task_shown_lem b m i h) (suspended_number (view_shown b m).body.store _ _ sound_wait)

    pub waiting_read : is_waiting (task (view_shown b m).body i).state ≡ waits_at b i
    unfolding task_shown
    waiting_read = rw (task_shown_lem b m i h) (waiting_number (view_shown b m).body.store _ _ sound_wait)

    pub sleeping_read : sleeps (wait_of (task (view_shown b m).body i).state) ≡ sleeps_at b i
    unfolding task_shown
    sleeping_read = rw (task_shown_lem b m i h) (sleeping_number (view_shown b m).body.store _ _ _ (kind_sleeps (view_shown b m).body.store _ _ _ _ _) sound_wait)

    pub number_read : state_number (task (view_shown b m).body i).state (eqb i (running (view_shown b m))) ≡ number_at b i
    unfolding task_shown number_at
    number_read = rw (task_shown_lem b m i h, running_law b m A) (number_state (view_shown b m).body.store _ _ _ sound_wait)
