-- The acts on one task, one by one: what is written of the task, and how it moves. Some look at its status first.
use mathlib.Core.Bool.{Bool, true, false, cond, false≢true}
use mathlib.Core.List.{List}
use mathlib.Core.Path.{◌≡◌, refl, sym, ap, ◌∙◌, subst}
use Prim.Native.Nat.{ℕ, zero, suc, ◌+◌}
use native.Mathlib.Omega.{arith}
use lib.Dec.{eqb, leb}
use lib.ListN.{length, get_or, set}
use lib.Seq.{set-get_or}
use borrow.Author.Tests.{eqb-true}
use Rattle.rules.specs.Ids.{of, put, In}
use Rattle.rules.specs.State.{Kind, semaphore, flag, mailbox, pool, Wait, asleep, timed, on, State, dormant, ready, suspended, absent, waiting, waiting_suspended, Task, Store, task, nobody, objects, wait_of, is_absent, is_ready}
use Rattle.rules.specs.Acts.{start, retire, create, delete, rotate, regrade, wait, release, suspend, resume, wakeups, after, move, with_state, with_priority, with_wakeups, halted_move, resumed_move, released_move, regraded_move}
use Rattle.rules.specs.Acts as Acts
use Rattle.rules.specs.Places.{Place, ready_at, waiters, mail, free_in, a_task}
use Rattle.rules.proofs.Fits.{stands}
use Rattle.rules.specs.Codes.{Code}
use mathlib.Core.Option.{some}
use Rattle.rules.specs.Sound.{WaitNumbers, WishNumbers}
use Rattle.memory_rings.specs.Columns.{col}
use Rattle.memory_rings.proofs.Columns.{col_store}
use Rattle.memory_columns.specs.Layout as Layout
use Rattle.memory_columns.specs.Layout.{state_words}
use Rattle.memory_columns.specs.Layout.{entry}
use Rattle.memory_tasks.specs.Moves.{rotated, started, readied, retired, ranked, created, deleted, regraded}
use Rattle.memory_waits.specs.Waits.{awaiting, halted, resumed, released, slept, waited}
use Rattle.memory_picture.specs.Picture.{code_of, no_wait, wait_shown, state_shown, task_shown, store_shown, body_shown, kind_number, Accepted}
use Rattle.memory_picture.specs.Perform.{code_kept, put_to_wait}
use Rattle.memory_queues.proofs.Relinks.{put_at}
use Rattle.memory_picture.proofs.Lines.{rest}
use Rattle.memory_picture.proofs.Done.{Done}
use Rattle.memory_picture.proofs.Touched.{Touched, untouched, touched_put}
use Rattle.memory_picture.proofs.OneTask.{wait_at, low, before, sound_before, stay_done, leave_done, lost_done, ready_done, wait_done}

-- ---- the status of a sound task

data Status (s : ℕ) : Type 0 where
  is_dormant_lem : s ≡ 0 → Status s
  is_ready_lem : s ≡ 1 → Status s
  is_waiting_lem : s ≡ 3 → Status s
  is_suspended_lem : s ≡ 4 → Status s
  is_both : s ≡ 5 → Status s
  is_absent_lem : s ≡ 6 → Status s

status_of : (u : Store) (s : ℕ) (w : Wait) → WaitNumbers u (wait_of (state_shown s w)) → Status s
unfolding state_shown
status_of u s w = go (eqb s 0) (eqb s 1) (eqb s 3) (eqb s 4) (eqb s 5) (eqb s 6) refl refl refl refl refl refl
  where
    go : (a b c d e f : Bool) → eqb s 0 ≡ a → eqb s 1 ≡ b → eqb s 3 ≡ c → eqb s 4 ≡ d → eqb s 5 ≡ e → eqb s 6 ≡ f
        → WaitNumbers u (wait_of (cond a dormant (cond b ready (cond c (waiting w) (cond d suspended (cond e (waiting_suspended w) (cond f absent (waiting no_wait)))))))) → Status s
    go true b c d e f p q r x y z h = is_dormant_lem (eqb-true s 0 p)
    go false true c d e f p q r x y z h = is_ready_lem (eqb-true s 1 q)
    go false false true d e f p q r x y z h = is_waiting_lem (eqb-true s 3 r)
    go false false false true e f p q r x y z h = is_suspended_lem (eqb-true s 4 x)
    go false false false false true f p q r x y z h = is_both (eqb-true s 5 y)
    go false false false false false true p q r x y z h = is_absent_lem (eqb-true s 6 z)
    go false false false false false false p q r x y z h = absurd (omega (arith, h.0))

only_ready : (s : State) → is_ready s ≡ true → s ≡ ready
only_ready dormant e = absurd (false≢true e)
only_ready ready e = refl
only_ready suspended e = absurd (false≢true e)
only_ready absent e = absurd (false≢true e)
only_ready (waiting w) e = absurd (false≢true e)
only_ready (waiting_suspended w) e = absurd (false≢true e)

-- a sleeper belongs to no queue
asleep_lost : (x : Task) (q : Place) → stands (with_state (waiting asleep) x) q ≡ false
asleep_lost x (ready_at p) = refl
asleep_lost x (waiters k o) = refl
asleep_lost x (mail m) = refl
asleep_lost x (free_in p) = refl

timed_lost : (n : ℕ) (x : Task) (q : Place) → stands (with_state (waiting (timed n)) x) q ≡ false
timed_lost n x (ready_at p) = refl
timed_lost n x (waiters k o) = refl
timed_lost n x (mail m) = refl
timed_lost n x (free_in p) = refl

put_same : {A : Type 0} (l : List A) (i : ℕ) (d : A) → l ≡ put l i (of l i d)
put_same l zero d = refl
put_same l (suc i) d = sym (set-get_or l i d)

module _ (b msgs : List ℕ) (A : Accepted b msgs) (t : ℕ) (h : In t (length (body_shown b msgs).tasks)) where
  size : length b ≡ state_words
  size = A.whole.size

  -- an entry of the task that was just written
  written : (p v : ℕ) → get_or (set (col p (Layout.status).width b) t v) t 0 ≡ cond (leb (p + (Layout.status).width) state_words) v (get_or (set (col p (Layout.status).width b) t v) t 0)
  written p v = put_at b size p (Layout.status).width t v (low b msgs A t h)

  pub start_done : is_absent (task (body_shown b msgs) t).state ≡ false → Done (start t) b msgs (started t b) msgs
  unfolding started readied after move task_shown state_shown code_of
  start_done e = ready_done b msgs A t h (start t) Acts.started refl _
      (touched_put Layout.status 1 refl (touched_put Layout.word 0 refl (touched_put Layout.code 0 refl (touched_put Layout.priority _ refl (untouched size)))))
      (simp (col_store, written)) refl refl ((sound_before b msgs A t h).start (subst (λ (x : Task). is_absent x.state ≡ false) (before b msgs A t h) e))

  pub retire_done : Done (retire t) b msgs (retired t b) msgs
  unfolding retired after move task_shown state_shown
  retire_done = leave_done b msgs A t h (retire t) Acts.retired refl _
      (touched_put Layout.ticks 0 refl (touched_put Layout.wakeups 0 refl (touched_put Layout.priority _ refl (touched_put Layout.status 0 refl (untouched size))))) (simp (col_store, written)) refl

  pub create_done : (p : ℕ) → Done (create t p) b msgs (created t p b) msgs
  unfolding created ranked after move task_shown state_shown
  create_done p = leave_done b msgs A t h (create t p) (Acts.created p) refl _
      (touched_put Layout.wakeups 0 refl (touched_put Layout.start p refl (touched_put Layout.priority p refl (touched_put Layout.status 0 refl (untouched size)))))
      (simp (col_store, written)) refl

  pub delete_done : Done (delete t) b msgs (deleted t b) msgs
  unfolding deleted ranked after move task_shown state_shown code_of
  delete_done = leave_done b msgs A t h (delete t) (λ x. nobody) refl _
      (touched_put Layout.word 0 refl (touched_put Layout.code 0 refl (touched_put Layout.wakeups 0 refl (touched_put Layout.start 0 refl (touched_put Layout.priority 0 refl (touched_put Layout.status 6 refl (untouched size)))))))
      (simp (col_store, written)) refl

  pub rotate_done : is_ready (task (body_shown b msgs) t).state ≡ true → Done (rotate t) b msgs (rotated t b) msgs
  unfolding after move
  rotate_done r = ready_done b msgs A t h (rotate t) (λ x. x) (λ z. record { tasks = put_same (body_shown b msgs).tasks t nobody z; store = (body_shown b msgs).store; handlers = (body_shown b msgs).handlers; counter = (body_shown b msgs).counter }) b (untouched size) refl refl
      (is_ready_now) ((sound_before b msgs A t h).priority (ap is_absent is_ready_now))
    where
      is_ready_now : (task_shown b t).state ≡ ready
      is_ready_now = only_ready _ (subst (λ (x : Task). is_ready x.state ≡ true) (before b msgs A t h) r)

  pub wakeups_done : (n : ℕ) → Done (wakeups t n) b msgs (Layout.put Layout.wakeups t n b) msgs
  unfolding after move task_shown
  wakeups_done n = stay_done b msgs A t h (wakeups t n) (with_wakeups n) refl _ (touched_put Layout.wakeups n refl (untouched size)) (simp (col_store, written)) refl

  slept_done : (n : ℕ) (w : Wait) (k : ℕ) → wait_shown k 0 0 0 n ≡ w → ((q : Place) → stands (with_state (waiting w) (task_shown b t)) q ≡ false) → Done (wait t w) b msgs (slept t k n b) msgs
  unfolding slept awaiting after move task_shown state_shown
  slept_done n w k e g = lost_done b msgs A t h (wait t w) (with_state (waiting w)) refl _
      (touched_put Layout.ticks n refl (touched_put Layout.mode 0 refl (touched_put Layout.wish 0 refl (touched_put Layout.object 0 refl (touched_put Layout.kind k refl (touched_put Layout.status 3 refl (untouched size)))))))
      (simp (col_store, written, e)) refl g

  waited_done : (k : Kind) (o p m : ℕ) → wait_shown (kind_number k) o p m 0 ≡ on k o p m → In o (objects (store_shown b msgs) k) → Done (wait t (on k o p m)) b msgs (waited t (kind_number k) o p m b) msgs
  unfolding waited awaiting after move task_shown state_shown
  waited_done k o p m e r = wait_done b msgs A t h (wait t (on k o p m)) (with_state (waiting (on k o p m))) refl _
      (touched_put Layout.ticks 0 refl (touched_put Layout.mode m refl (touched_put Layout.wish p refl (touched_put Layout.object o refl (touched_put Layout.kind _ refl (touched_put Layout.status 3 refl (untouched size)))))))
      (simp (col_store, written, e)) k o p m refl refl r

  -- ---- the acts that look at the state

  status : Status (entry Layout.status b t)
  unfolding task_shown
  status = status_of (store_shown b msgs) _ _ (sound_before b msgs A t h).wait

  was : (k : ℕ) → entry Layout.status b t ≡ k → (task (body_shown b msgs) t).state ≡ state_shown k (wait_at b t)
  unfolding task_shown
  was k e = ap (λ (x : Task). x.state) (before b msgs A t h) ∙ ap (λ (x : ℕ). state_shown x (wait_at b t)) e

  pub suspend_done : Done (suspend t) b msgs (halted t b) msgs
  unfolding halted after move task_shown state_shown
  suspend_done = go status
    where
      F : Task → Task
      F x = with_state (Acts.halted x.state) x

      m : (k : ℕ) → entry Layout.status b t ≡ k → move (body_shown b msgs) (suspend t) ≡ halted_move (state_shown k (wait_at b t)) (a_task t)
      m k e = ap (λ (s : State). halted_move s (a_task t)) (was k e)

      go : Status (entry Layout.status b t) → Done (suspend t) b msgs (halted t b) msgs
      go (is_dormant_lem e) = rw e (stay_done b msgs A t h (suspend t) F refl b (untouched size) (simp e) (m 0 e))
      go (is_ready_lem e) = rw e (leave_done b msgs A t h (suspend t) F refl _ (touched_put Layout.status 4 refl (untouched size)) (simp (col_store, written, e)) (m 1 e))
      go (is_waiting_lem e) = rw e (stay_done b msgs A t h (suspend t) F refl _ (touched_put Layout.status 5 refl (untouched size)) (simp (col_store, written, e)) (m 3 e))
      go (is_suspended_lem e) = rw e (stay_done b msgs A t h (suspend t) F refl b (untouched size) (simp e) (m 4 e))
      go (is_both e) = rw e (stay_done b msgs A t h (suspend t) F refl b (untouched size) (simp e) (m 5 e))
      go (is_absent_lem e) = rw e (stay_done b msgs A t h (suspend t) F refl b (untouched size) (simp e) (m 6 e))

  pub resume_done : Done (resume t) b msgs (resumed t b) msgs
  unfolding resumed readied after move task_shown state_shown
  resume_done = go status
    where
      F : Task → Task
      F x = with_state (Acts.resumed x.state) x

      m : (k : ℕ) → entry Layout.status b t ≡ k → move (body_shown b msgs) (resume t) ≡ resumed_move (state_shown k (wait_at b t)) (a_task t)
      m k e = ap (λ (s : State). resumed_move s (a_task t)) (was k e)

      go : Status (entry Layout.status b t) → Done (resume t) b msgs (resumed t b) msgs
      go (is_dormant_lem e) = rw e (stay_done b msgs A t h (resume t) F refl b (untouched size) (simp e) (m 0 e))
      go (is_ready_lem e) = rw e (stay_done b msgs A t h (resume t) F refl b (untouched size) (simp e) (m 1 e))
      go (is_waiting_lem e) = rw e (stay_done b msgs A t h (resume t) F refl b (untouched size) (simp e) (m 3 e))
      go (is_suspended_lem e) =
          rw e (ready_done b msgs A t h (resume t) F refl _ (touched_put Layout.status 1 refl (untouched size)) (simp (col_store, written, e)) (m 4 e) (simp e) ((sound_before b msgs A t h).priority (simp e)))
      go (is_both e) = rw e (stay_done b msgs A t h (resume t) F refl _ (touched_put Layout.status 3 refl (untouched size)) (simp (col_store, written, e)) (m 5 e))
      go (is_absent_lem e) = rw e (stay_done b msgs A t h (resume t) F refl b (untouched size) (simp e) (m 6 e))

  pub release_done : (c : Code) (w : ℕ) → code_of (code_kept c) ≡ c → Done (release t c w) b msgs (released t (code_kept c) w b) msgs
  unfolding released readied after move task_shown state_shown
  release_done c w g = go status
    where
      F : Task → Task
      F = Acts.released_task c w

      m : (k : ℕ) → entry Layout.status b t ≡ k → move (body_shown b msgs) (release t c w) ≡ released_move (state_shown k (wait_at b t)) (a_task t)
      m k e = ap (λ (s : State). released_move s (a_task t)) (was k e)

      go : Status (entry Layout.status b t) → Done (release t c w) b msgs (released t (code_kept c) w b) msgs
      go (is_dormant_lem e) = rw e (stay_done b msgs A t h (release t c w) F refl b (untouched size) (simp e) (m 0 e))
      go (is_ready_lem e) = rw e (stay_done b msgs A t h (release t c w) F refl b (untouched size) (simp e) (m 1 e))
      go (is_waiting_lem e) =
          rw e (ready_done b msgs A t h (release t c w) F refl _ (touched_put Layout.status 1 refl (touched_put Layout.ticks 0 refl (touched_put Layout.word w refl (touched_put Layout.code _ refl (untouched size)))))
          (simp (col_store, written, e, g)) (m 3 e) (simp e) (simp e ((sound_before b msgs A t h).priority (simp e))))
      go (is_suspended_lem e) = rw e (stay_done b msgs A t h (release t c w) F refl b (untouched size) (simp e) (m 4 e))
      go (is_both e) =
          rw e (leave_done b msgs A t h (release t c w) F refl _ (touched_put Layout.status 4 refl (touched_put Layout.ticks 0 refl (touched_put Layout.word w refl (touched_put Layout.code _ refl (untouched size))))) (simp (col_store, written, e, g)) (m 5 e))
      go (is_absent_lem e) = rw e (stay_done b msgs A t h (release t c w) F refl b (untouched size) (simp e) (m 6 e))

  pub regrade_done : (p : ℕ) → In p (store_shown b msgs).priorities → Done (regrade t p) b msgs (regraded t p b) msgs
  unfolding regraded after move task_shown state_shown
  regrade_done p g = go status
    where
      T : Touched t rest b (Layout.put Layout.priority t p b)
      T = touched_put Layout.priority p refl (untouched size)

      f : task_shown (Layout.put Layout.priority t p b) t ≡ with_priority p (task_shown b t)
      f = simp (col_store, written)

      m : (k : ℕ) → entry Layout.status b t ≡ k → move (body_shown b msgs) (regrade t p) ≡ regraded_move (state_shown k (wait_at b t)) (a_task t)
      m k e = ap (λ (s : State). regraded_move s (a_task t)) (was k e)

      go : Status (entry Layout.status b t) → Done (regrade t p) b msgs (regraded t p b) msgs
      go (is_dormant_lem e) = rw e (stay_done b msgs A t h (regrade t p) (with_priority p) refl _ T f (m 0 e))
      go (is_ready_lem e) = rw e (ready_done b msgs A t h (regrade t p) (with_priority p) refl _ T f (m 1 e) (simp e) g)
      go (is_waiting_lem e) = rw e (stay_done b msgs A t h (regrade t p) (with_priority p) refl _ T f (m 3 e))
      go (is_suspended_lem e) = rw e (stay_done b msgs A t h (regrade t p) (with_priority p) refl _ T f (m 4 e))
      go (is_both e) = rw e (stay_done b msgs A t h (regrade t p) (with_priority p) refl _ T f (m 5 e))
      go (is_absent_lem e) = rw e (stay_done b msgs A t h (regrade t p) (with_priority p) refl _ T f (m 6 e))

  -- ---- the waits

  wish_shown : (k : Kind) (o p m : ℕ) → WishNumbers k p m → wait_shown (kind_number k) o p m 0 ≡ on k o p m
  unfolding wait_shown
  wish_shown semaphore o p m e = rw (e.0, e.1)
  wish_shown flag o p m e = refl
  wish_shown mailbox o p m e = rw (e.0, e.1)
  wish_shown pool o p m e = rw (e.0, e.1)

  pub wait_act_done : (w : Wait) → WaitNumbers (store_shown b msgs) (some w) → Done (wait t w) b msgs (put_to_wait t w b) msgs
  unfolding put_to_wait wait_shown
  wait_act_done asleep g = slept_done 0 asleep 0 refl (asleep_lost (task_shown b t))
  wait_act_done (timed n) g = slept_done n (timed n) 1 refl (timed_lost n (task_shown b t))
  wait_act_done (on k o p m) g = waited_done k o p m (wish_shown k o p m g.1) g.0
