-- What is shown by a kind's number and by a status: a statement holds of the wait, or of the state, if it holds in each case. Assumes nothing.
use mathlib.Core.Bool.{Bool, true, false, cond}
use mathlib.Core.Path.{◌≡◌, refl}
use Prim.Native.Nat.{ℕ}
use lib.Dec.{eqb}
use borrow.Author.Tests.{eqb-true}
use Rattle.rules.specs.State.{Kind, semaphore, flag, mailbox, pool, Wait, asleep, timed, on, State, dormant, ready, suspended, absent, waiting, waiting_suspended}
use Rattle.memory_picture.specs.Picture.{no_wait, wait_shown, state_shown, kind_number}

-- pattern and mode are a flag wait's alone
abbrev pub asked : Kind → ℕ → ℕ
asked semaphore p = 0
asked flag p = p
asked mailbox p = 0
asked pool p = 0

pub kind_cases : (k o p m t : ℕ) (P : Wait → Type 0) → (k ≡ 0 → P asleep) → (k ≡ 1 → P (timed t)) → ((c : Kind) → k ≡ kind_number c → P (on c o (asked c p) (asked c m))) → P no_wait
    → P (wait_shown k o p m t)
unfolding wait_shown
kind_cases k o p m t P f g h n = go (eqb k 0) (eqb k 1) (eqb k 2) (eqb k 3) (eqb k 4) (eqb k 5) refl refl refl refl refl refl
  where
    go : (t0 t1 t2 t3 t4 t5 : Bool) → eqb k 0 ≡ t0 → eqb k 1 ≡ t1 → eqb k 2 ≡ t2 → eqb k 3 ≡ t3 → eqb k 4 ≡ t4 → eqb k 5 ≡ t5
        → P (cond t0 asleep (cond t1 (timed t) (cond t2 (on semaphore o 0 0) (cond t3 (on flag o p m) (cond t4 (on mailbox o 0 0) (cond t5 (on pool o 0 0) no_wait))))))
    go true t1 t2 t3 t4 t5 e0 e1 e2 e3 e4 e5 = f (eqb-true k 0 e0)
    go false true t2 t3 t4 t5 e0 e1 e2 e3 e4 e5 = g (eqb-true k 1 e1)
    go false false true t3 t4 t5 e0 e1 e2 e3 e4 e5 = h semaphore (eqb-true k 2 e2)
    go false false false true t4 t5 e0 e1 e2 e3 e4 e5 = h flag (eqb-true k 3 e3)
    go false false false false true t5 e0 e1 e2 e3 e4 e5 = h mailbox (eqb-true k 4 e4)
    go false false false false false true e0 e1 e2 e3 e4 e5 = h pool (eqb-true k 5 e5)
    go false false false false false false e0 e1 e2 e3 e4 e5 = n

pub status_cases : (s : ℕ) (w : Wait) (P : State → Type 0) → (s ≡ 0 → P dormant) → (s ≡ 1 → P ready) → (s ≡ 3 → P (waiting w)) → (s ≡ 4 → P suspended) → (s ≡ 5 → P (waiting_suspended w))
    → (s ≡ 6 → P absent) → P (waiting no_wait) → P (state_shown s w)
unfolding state_shown
status_cases s w P f0 f1 f3 f4 f5 f6 n = go (eqb s 0) (eqb s 1) (eqb s 3) (eqb s 4) (eqb s 5) (eqb s 6) refl refl refl refl refl refl
  where
    go : (t0 t1 t3 t4 t5 t6 : Bool) → eqb s 0 ≡ t0 → eqb s 1 ≡ t1 → eqb s 3 ≡ t3 → eqb s 4 ≡ t4 → eqb s 5 ≡ t5 → eqb s 6 ≡ t6
        → P (cond t0 dormant (cond t1 ready (cond t3 (waiting w) (cond t4 suspended (cond t5 (waiting_suspended w) (cond t6 absent (waiting no_wait)))))))
    go true t1 t3 t4 t5 t6 e0 e1 e3 e4 e5 e6 = f0 (eqb-true s 0 e0)
    go false true t3 t4 t5 t6 e0 e1 e3 e4 e5 e6 = f1 (eqb-true s 1 e1)
    go false false true t4 t5 t6 e0 e1 e3 e4 e5 e6 = f3 (eqb-true s 3 e3)
    go false false false true t5 t6 e0 e1 e3 e4 e5 e6 = f4 (eqb-true s 4 e4)
    go false false false false true t6 e0 e1 e3 e4 e5 e6 = f5 (eqb-true s 5 e5)
    go false false false false false true e0 e1 e3 e4 e5 e6 = f6 (eqb-true s 6 e6)
    go false false false false false false e0 e1 e3 e4 e5 e6 = n
