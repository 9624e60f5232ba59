-- How many there are, and the task that the view shows, as the columns say. Assumes nothing.
use mathlib.Core.Bool.{Bool, true, false, cond}
use mathlib.Core.List.{List}
use mathlib.Core.Path.{◌≡◌, refl}
use Prim.Native.Nat.{ℕ, ◌≤◌}
use lib.Dec.{eqb}
use lib.ListN.{length}
use Rattle.rules.specs.Ids.{In}
use Rattle.rules.specs.State.{Kind, semaphore, flag, mailbox, pool, objects, Wait, dormant, ready, suspended, waiting, waiting_suspended, absent, task, nobody, is_dormant, is_absent}
use Rattle.rules.proofs.Ids.{of_ids, length_ids}
use native.Mathlib.Decide.{ℕ_discrete}
use native.Mathlib.Omega.{arith}
use borrow.Author.Tests.{ne_eqb}
use Rattle.memory_columns.specs.Layout as Layout
use Rattle.memory_columns.specs.Layout.{entry}
use Rattle.memory_picture.proofs.OneTask.{sizes}
use Rattle.memory_picture.specs.Picture.{kind_number, no_wait, state_shown, task_shown, tasks_shown, messages_shown, store_shown, body_shown, view_shown, Accepted}

pub tasks_count : (b m : List ℕ) → length (view_shown b m).body.tasks ≡ tasks_shown b
unfolding view_shown body_shown
tasks_count b m = length_ids (task_shown b) (tasks_shown b)

pub task_shown_lem : (b m : List ℕ) (i : ℕ) → In i (tasks_shown b) → task (view_shown b m).body i ≡ task_shown b i
unfolding view_shown body_shown
task_shown_lem b m i h = of_ids (task_shown b) (tasks_shown b) i nobody h

dormant_number : (s : ℕ) (w : Wait) → is_dormant (state_shown s w) ≡ eqb s 0
unfolding state_shown
dormant_number s w = go (eqb s 0) (eqb s 1) (eqb s 3) (eqb s 4) (eqb s 5) (eqb s 6)
  where
    go : (t0 t1 t3 t4 t5 t6 : Bool) → is_dormant (cond t0 dormant (cond t1 ready (cond t3 (waiting w) (cond t4 suspended (cond t5 (waiting_suspended w) (cond t6 absent (waiting no_wait))))))) ≡ t0
    go true t1 t3 t4 t5 t6 = refl
    go false true t3 t4 t5 t6 = refl
    go false false true t4 t5 t6 = refl
    go false false false true t5 t6 = refl
    go false false false false true t6 = refl
    go false false false false false true = refl
    go false false false false false false = refl

absent_number : (s : ℕ) (w : Wait) → is_absent (state_shown s w) ≡ eqb s 6
unfolding state_shown
absent_number s w = elim (ℕ_discrete s 6) [ yes e ↦ rw e | no n ↦ rw (ne_eqb s 6 n) (go (eqb s 0) (eqb s 1) (eqb s 3) (eqb s 4) (eqb s 5)) ]
  where
    go : (t0 t1 t3 t4 t5 : Bool) → is_absent (cond t0 dormant (cond t1 ready (cond t3 (waiting w) (cond t4 suspended (cond t5 (waiting_suspended w) (waiting no_wait)))))) ≡ false
    go true t1 t3 t4 t5 = refl
    go false true t3 t4 t5 = refl
    go false false true t4 t5 = refl
    go false false false true t5 = refl
    go false false false false true = refl
    go false false false false false = refl

pub dormant_read : (b m : List ℕ) (i : ℕ) → In i (tasks_shown b) → is_dormant (task (view_shown b m).body i).state ≡ eqb (entry Layout.status b i) 0
unfolding task_shown
dormant_read b m i h = rw (task_shown_lem b m i h) (dormant_number _ _)

pub absent_read : (b m : List ℕ) (i : ℕ) → In i (tasks_shown b) → is_absent (task (view_shown b m).body i).state ≡ eqb (entry Layout.status b i) 6
unfolding task_shown
absent_read b m i h = rw (task_shown_lem b m i h) (absent_number _ _)

pub objects_count : (k : Kind) (b m : List ℕ) → objects (view_shown b m).body.store k ≡ entry Layout.system b (kind_number k)
unfolding view_shown body_shown store_shown
objects_count semaphore b m = length_ids _ _
objects_count flag b m = length_ids _ _
objects_count mailbox b m = refl
objects_count pool b m = length_ids _ _

pub messages_count : (b m : List ℕ) → length (view_shown b m).body.store.messages ≡ messages_shown b
unfolding view_shown body_shown store_shown
messages_count b m = length_ids _ _

pub few_tasks : (b m : List ℕ) → Accepted b m → entry Layout.system b 1 ≤ 32
unfolding body_shown
few_tasks b m A = omega (arith, (sizes b m A).tasks.1, length_ids (task_shown b) (entry Layout.system b 1))
