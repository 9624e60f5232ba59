-- Each act moves whom it says: nobody else comes to a queue, or leaves one. Shown for a change of one task, then act by act.
use mathlib.Core.Bool.{Bool, true, false, not, cond, ◌&&◌, and-true}
use mathlib.Core.List.{List, []}
use mathlib.Core.Option.{Option, none, some}
use mathlib.Core.Path.{◌≡◌, refl, sym, ap, ◌∙◌}
use Prim.Native.Nat.{ℕ}
use lib.Dec.{eqb}
use Rattle.rules.specs.Ids.{of, put, In}
use Rattle.rules.specs.Codes.{Code}
use Rattle.rules.specs.State.{Kind, Wait, State, dormant, ready, suspended, absent, waiting, waiting_suspended, Task, Body, task, nobody, is_ready, is_waiting}
use Rattle.rules.specs.Places.{Place, ready_at, waiters, mail, free_in, Sort, tasks, messages, blocks, a_task, a_message, a_block, item, same, population, many, belongs, awaits, lies}
use Rattle.rules.specs.Acts.{Act, start, retire, create, delete, rotate, regrade, wait, release, suspend, resume, wakeups, count, pattern, post, receive, mark, elapse, nest, alarm, after, Move, stay, leave, last, move, change, started, retired, created, released_task, halted, resumed, older, with_state, with_priority, with_wakeups, released_move, halted_move, resumed_move, regraded_move, marked_move}
use Rattle.rules.proofs.Sizes.{sizes_after}
use Rattle.rules.proofs.States.{older_same}
use Rattle.rules.proofs.Ids.{of_put_other, of_put_test, of_put_change, put_empty, put_gone, of_map, tested}

-- what a move says of who belongs where, before and after
abbrev pub Fits : Body → Body → Move → Type 0
Fits b c stay = (q : Place) (i : ℕ) → belongs c q i ≡ belongs b q i
Fits b c (leave x) = (q : Place) (i : ℕ) → belongs c q i ≡ (belongs b q i && not (same x (item q i)))
Fits b c (last x) = (q : Place) (i : ℕ) → same x (item q i) ≡ false → belongs c q i ≡ belongs b q i

-- ---- one task is changed

-- the task belongs to that place
abbrev pub stands : Task → Place → Bool
stands t (ready_at p) = is_ready t.state && eqb t.priority p
stands t (waiters k o) = awaits t.state k o
stands t (mail m) = false
stands t (free_in p) = false

stands_by : (t u : Task) → ((k : Kind) (o : ℕ) → awaits t.state k o ≡ awaits u.state k o) → is_ready t.state ≡ is_ready u.state → t.priority ≡ u.priority
    → (q : Place) → stands t q ≡ stands u q
stands_by t u w r p (ready_at n) = λ z. r z && eqb (p z) n
stands_by t u w r p (waiters k o) = w k o
stands_by t u w r p (mail m) = refl
stands_by t u w r p (free_in n) = refl

-- a state that is in no queue
nowhere : (t : Task) → is_ready t.state ≡ false → ((k : Kind) (o : ℕ) → awaits t.state k o ≡ false) → (q : Place) → stands t q ≡ false
nowhere t r w (ready_at p) = rw r
nowhere t r w (waiters k o) = w k o
nowhere t r w (mail m) = refl
nowhere t r w (free_in p) = refl

module _ (f : Task → Task) (i : ℕ) (b : Body) where
  change_stay : ((q : Place) → stands (f (task b i)) q ≡ stands (task b i) q) → Fits b (change f i b) stay
  unfolding belongs
  change_stay h (ready_at p) j = of_put_test (λ t. stands t (ready_at p)) b.tasks i j (f (task b i)) nobody (h (ready_at p))
  change_stay h (waiters k o) j = of_put_test (λ t. stands t (waiters k o)) b.tasks i j (f (task b i)) nobody (h (waiters k o))
  change_stay h (mail m) j = refl
  change_stay h (free_in p) j = refl

  change_last : Fits b (change f i b) (last (a_task i))
  unfolding belongs
  change_last (ready_at p) j e = ap (λ (t : Task). stands t (ready_at p)) (of_put_other b.tasks i j (f (task b i)) nobody e)
  change_last (waiters k o) j e = ap (λ (t : Task). stands t (waiters k o)) (of_put_other b.tasks i j (f (task b i)) nobody e)
  change_last (mail m) j e = refl
  change_last (free_in p) j e = refl

  change_leave : ((q : Place) → stands (f (task b i)) q ≡ false) → Fits b (change f i b) (leave (a_task i))
  unfolding belongs
  change_leave h (ready_at p) j = put_gone (λ t. stands t (ready_at p)) b.tasks i j (f (task b i)) nobody (h (ready_at p)) refl
  change_leave h (waiters k o) j = put_gone (λ t. stands t (waiters k o)) b.tasks i j (f (task b i)) nobody (h (waiters k o)) refl
  change_leave h (mail m) j = sym (and-true _)
  change_leave h (free_in p) j = sym (and-true _)

-- ---- the acts whose move follows from the state

-- a change of priority alone is seen by READY and RUN tasks only
regraded_place : (p : ℕ) (t : Task) → is_ready t.state ≡ false → (q : Place) → stands (with_priority p t) q ≡ stands t q
regraded_place p t e (ready_at n) = rw e
regraded_place p t e (waiters k o) = refl
regraded_place p t e (mail m) = refl
regraded_place p t e (free_in n) = refl

-- whoever belongs where it belonged may stay there, or go last
abbrev NoneLeaves : Move → Type 0
NoneLeaves stay = Unit {0}
NoneLeaves (leave x) = ⊥
NoneLeaves (last x) = Unit {0}

unready_fits : (i p : ℕ) (b : Body) → is_ready (task b i).state ≡ false → (m : Move) → NoneLeaves m → Fits b (change (with_priority p) i b) m
unready_fits i p b e stay n = change_stay (with_priority p) i b (regraded_place p (task b i) e)
unready_fits i p b e (leave x) n = absurd n
unready_fits i p b e (last x) n = λ q j d. change_stay (with_priority p) i b (regraded_place p (task b i) e) q j

regrade_fits : (i p : ℕ) (b : Body) (s : State) → (task b i).state ≡ s → Fits b (change (with_priority p) i b) (regraded_move s (a_task i))
regrade_fits i p b dormant e = unready_fits i p b (rw e) (regraded_move dormant (a_task i)) tt
regrade_fits i p b absent e = unready_fits i p b (rw e) (regraded_move absent (a_task i)) tt
regrade_fits i p b ready e = change_last (with_priority p) i b
regrade_fits i p b suspended e = unready_fits i p b (rw e) (regraded_move suspended (a_task i)) tt
regrade_fits i p b (waiting w) e = unready_fits i p b (rw e) (regraded_move (waiting w) (a_task i)) tt
regrade_fits i p b (waiting_suspended w) e = unready_fits i p b (rw e) (regraded_move (waiting_suspended w) (a_task i)) tt

-- a task that does not wait is not released; one in WAIT-SUSPEND comes into no queue
unreleased : (c : Code) (w : ℕ) (t : Task) → is_waiting t.state ≡ false → (q : Place) → stands (released_task c w t) q ≡ stands t q
unreleased c w t e q = rw e

released_nowhere : (c : Code) (w : ℕ) (t : Task) (x : Wait) → t.state ≡ waiting_suspended x → (q : Place) → stands (released_task c w t) q ≡ false
released_nowhere c w t x e = nowhere (released_task c w t) (rw e) (λ k o. rw e)

release_fits : (i : ℕ) (c : Code) (w : ℕ) (b : Body) (s : State) → (task b i).state ≡ s → Fits b (change (released_task c w) i b) (released_move s (a_task i))
release_fits i c w b dormant e = change_stay (released_task c w) i b (unreleased c w (task b i) (rw e))
release_fits i c w b absent e = change_stay (released_task c w) i b (unreleased c w (task b i) (rw e))
release_fits i c w b ready e = change_stay (released_task c w) i b (unreleased c w (task b i) (rw e))
release_fits i c w b suspended e = change_stay (released_task c w) i b (unreleased c w (task b i) (rw e))
release_fits i c w b (waiting x) e = change_last (released_task c w) i b
release_fits i c w b (waiting_suspended x) e = change_leave (released_task c w) i b (released_nowhere c w (task b i) x e)

-- a state changed by f to one that stands where it stood, or nowhere
module _ (f : State → State) (i : ℕ) (b : Body) where
  abbrev by_state : Task → Task
  by_state t = with_state (f t.state) t

  state_stay : ((k : Kind) (o : ℕ) → awaits (f (task b i).state) k o ≡ awaits (task b i).state k o) → is_ready (f (task b i).state) ≡ is_ready (task b i).state
      → Fits b (change by_state i b) stay
  state_stay w r = change_stay by_state i b (stands_by (by_state (task b i)) (task b i) w r refl)

suspend_fits : (i : ℕ) (b : Body) (s : State) → (task b i).state ≡ s → Fits b (change (λ t. with_state (halted t.state) t) i b) (halted_move s (a_task i))
suspend_fits i b dormant e = state_stay halted i b (λ k o. rw e) (rw e)
suspend_fits i b absent e = state_stay halted i b (λ k o. rw e) (rw e)
suspend_fits i b ready e = change_leave (λ t. with_state (halted t.state) t) i b (nowhere (with_state (halted (task b i).state) (task b i)) (rw e) (λ k o. rw e))
suspend_fits i b suspended e = state_stay halted i b (λ k o. rw e) (rw e)
suspend_fits i b (waiting w) e = state_stay halted i b (λ k o. rw e) (rw e)
suspend_fits i b (waiting_suspended w) e = state_stay halted i b (λ k o. rw e) (rw e)

resume_fits : (i : ℕ) (b : Body) (s : State) → (task b i).state ≡ s → Fits b (change (λ t. with_state (resumed t.state) t) i b) (resumed_move s (a_task i))
resume_fits i b dormant e = state_stay resumed i b (λ k o. rw e) (rw e)
resume_fits i b absent e = state_stay resumed i b (λ k o. rw e) (rw e)
resume_fits i b ready e = state_stay resumed i b (λ k o. rw e) (rw e)
resume_fits i b suspended e = change_last (λ t. with_state (resumed t.state) t) i b
resume_fits i b (waiting w) e = state_stay resumed i b (λ k o. rw e) (rw e)
resume_fits i b (waiting_suspended w) e = state_stay resumed i b (λ k o. rw e) (rw e)

-- ---- the other acts

-- no task, no message and no block is changed
untouched : (b c : Body) → c.tasks ≡ b.tasks → c.store.messages ≡ b.store.messages → c.store.pools ≡ b.store.pools → Fits b c stay
unfolding belongs
untouched b c t l x (ready_at p) i = ap (λ (ts : List Task). stands (of ts i nobody) (ready_at p)) t
untouched b c t l x (waiters k o) i = ap (λ (ts : List Task). stands (of ts i nobody) (waiters k o)) t
untouched b c t l x (mail m) i = ap (λ (ls : List (Option ℕ)). lies (of ls i none) m) l
untouched b c t l x (free_in p) i = ap (λ (ls : List (List Bool)). of (of ls p []) i false) x

post_fits : (j m : ℕ) (b : Body) → Fits b (after (post j m) b) (last (a_message j))
unfolding belongs after
post_fits j m b (ready_at p) i e = refl
post_fits j m b (waiters k o) i e = refl
post_fits j m b (mail n) i e = ap (λ (x : Option ℕ). lies x n) (of_put_other b.store.messages j i (some m) none e)
post_fits j m b (free_in p) i e = refl

receive_fits : (j : ℕ) (b : Body) → Fits b (after (receive j) b) (leave (a_message j))
unfolding belongs after
receive_fits j b (ready_at p) i = sym (and-true _)
receive_fits j b (waiters k o) i = sym (and-true _)
receive_fits j b (mail n) i = put_gone (λ x. lies x n) b.store.messages j i none none refl refl
receive_fits j b (free_in p) i = sym (and-true _)

-- the marks of pool q after a mark is set
pub marked : (b : Body) (p k : ℕ) (t : Bool) (q : ℕ) → of (after (mark p k t) b).store.pools q [] ≡ cond (eqb p q) (put (of b.store.pools q []) k t) (of b.store.pools q [])
unfolding after
marked b p k t q = of_put_change (λ l. put l k t) b.store.pools p q [] (put_empty k t)

freed_fits : (p k : ℕ) (b : Body) → Fits b (after (mark p k true) b) (last (a_block p k))
unfolding belongs after
freed_fits p k b (ready_at n) i e = refl
freed_fits p k b (waiters n o) i e = refl
freed_fits p k b (mail m) i e = refl
freed_fits p k b (free_in q) i e = ap (λ (l : List Bool). of l i false) (marked b p k true q) ∙ go (eqb p q) (of b.store.pools q []) e
  where
    go : (s : Bool) (l : List Bool) → (s && eqb k i) ≡ false → of (cond s (put l k true) l) i false ≡ of l i false
    go true l d = of_put_other l k i true false d
    go false l d = refl

taken_fits : (p k : ℕ) (b : Body) → Fits b (after (mark p k false) b) (leave (a_block p k))
unfolding belongs after
taken_fits p k b (ready_at n) i = sym (and-true _)
taken_fits p k b (waiters n o) i = sym (and-true _)
taken_fits p k b (mail m) i = sym (and-true _)
taken_fits p k b (free_in q) i = ap (λ (l : List Bool). of l i false) (marked b p k false q) ∙ go (eqb p q) (of b.store.pools q [])
  where
    go : (s : Bool) (l : List Bool) → of (cond s (put l k false) l) i false ≡ (of l i false && not (s && eqb k i))
    go true l = put_gone (λ x. x) l k i false false refl refl
    go false l = sym (and-true _)

mark_fits : (p k : ℕ) (t : Bool) (b : Body) → Fits b (after (mark p k t) b) (marked_move t (a_block p k))
mark_fits p k true b = freed_fits p k b
mark_fits p k false b = taken_fits p k b

elapse_fits : (b : Body) → Fits b (after elapse b) stay
unfolding belongs after
elapse_fits b (ready_at p) i = rw (of_map (λ t. with_state (older t.state) t) b.tasks i nobody refl, (older_same (task b i).state).ready)
elapse_fits b (waiters k o) i = rw (of_map (λ t. with_state (older t.state) t) b.tasks i nobody refl) ((older_same (task b i).state).awaits k o)
elapse_fits b (mail m) i = refl
elapse_fits b (free_in p) i = refl

pub fits : (a : Act) (b : Body) → Fits b (after a b) (move b a)
unfolding after move
fits (start i) b = change_last started i b
fits (retire i) b = change_leave retired i b (nowhere (retired (task b i)) refl (λ k o. refl))
fits (create i p) b = change_leave (created p) i b (nowhere (created p (task b i)) refl (λ k o. refl))
fits (delete i) b = change_leave (λ t. nobody) i b (nowhere nobody refl (λ k o. refl))
fits (rotate i) b = λ q j e. refl
fits (regrade i p) b = regrade_fits i p b (task b i).state refl
fits (wait i w) b = change_last (with_state (waiting w)) i b
fits (release i c w) b = release_fits i c w b (task b i).state refl
fits (suspend i) b = suspend_fits i b (task b i).state refl
fits (resume i) b = resume_fits i b (task b i).state refl
fits (wakeups i n) b = change_stay (with_wakeups n) i b (stands_by (with_wakeups n (task b i)) (task b i) (λ k o. refl) refl refl)
fits (count s n) b = untouched b (after (count s n) b) refl refl refl
fits (pattern f n) b = untouched b (after (pattern f n) b) refl refl refl
fits (post j m) b = post_fits j m b
fits (receive j) b = receive_fits j b
fits (mark p k t) b = mark_fits p k t b
fits elapse b = elapse_fits b
fits (nest h) b = untouched b (after (nest h) b) refl refl refl
fits (alarm k c s) b = untouched b (after (alarm k c s) b) refl refl refl

-- ---- no task, no message and no block comes into being, and whoever belongs to a queue is there

pub population_after : (a : Act) (b : Body) (t : Sort) → population (after a b) t ≡ population b t
unfolding population
population_after a b tasks = (sizes_after a b).tasks
population_after a b messages = (sizes_after a b).messages
population_after a b (blocks p) = (sizes_after a b).blocks p

pub in_range_lem : (b : Body) (q : Place) (i : ℕ) → belongs b q i ≡ true → In i (many b q)
unfolding belongs population
in_range_lem b (ready_at p) i e = tested (λ t. stands t (ready_at p)) b.tasks i nobody refl e
in_range_lem b (waiters k o) i e = tested (λ t. stands t (waiters k o)) b.tasks i nobody refl e
in_range_lem b (mail m) i e = tested (λ x. lies x m) b.store.messages i none refl e
in_range_lem b (free_in p) i e = tested (λ x. x) (of b.store.pools p []) i false refl e
