-- The blocks' accounts: at each event the grants less the returns of a block are the change of its mark. Only get_blk, pget_blk and
-- rel_blk touch a mark or hand a block over; every other event is still. Assumes nothing.
use mathlib.Core.Bool.{Bool, true, false, not, cond, ◌&&◌, ◌||◌, and-false, false≢true}
use mathlib.Core.List.{List, [], ◌∷◌, ◌++◌, map, append-nil}
use mathlib.Core.Logic.{◌≢◌}
use mathlib.Core.Option.{Option, none, some}
use mathlib.Core.Path.{◌≡◌, refl, sym, ap, ◌∙◌}
use Prim.Native.Nat.{ℕ, zero, suc, ◌+◌, ◌<◌}
use native.Mathlib.Nat.{add-zero, zero-add}
use native.Mathlib.Omega.{arith}
use lib.Dec.{eqb}
use lib.IntN.{ℤ}
use lib.ListN.{length, get_or, set}
use borrow.Author.Tests.{eqb-true}
use Rattle.rules.specs.Ids.{of, put, ids, In, keep, once, times}
use Rattle.rules.specs.Codes.{Code, OK, E-TMOUT, E-RLWAI, number}
use Rattle.rules.specs.State.{Kind, flag, pool, Wait, asleep, timed, on, Setting, State, dormant, ready, suspended, absent, waiting, waiting_suspended, Task, Handlers, Body, task, nobody, objects, wait_of, wish, is_dormant, is_waiting, is_freed, sleeps}
use Rattle.rules.specs.Places.{waiters, free_in, blocks, same_sort, a_task, belongs, same_kind, waits_on, awaits}
use Rattle.rules.specs.Events.{Event, tick, enter, exit, call, nat}
use Rattle.rules.specs.Acts.{Act, start, release, wakeups, pattern, mark, elapse, nest, alarm, started, freed, released_task, older, with_state, with_wakeups, with_cell, after, afters, Move, stay, leave, last, move}
use Rattle.rules.specs.View.{View, line, moved, act, acts}
use Rattle.rules.specs.Verdicts.{Verdict, gives, done}
use Rattle.rules.specs.Objects.{met, left, serve_flag}
use Rattle.rules.specs.Alarms.{rings}
use Rattle.rules.specs.Time.{ending, endings, timeout, lapse, ticked}
use Rattle.rules.specs.Handling.{entered, exited}
use Rattle.rules.specs.Table.{judge}
use Rattle.rules.specs.Sound.{Sound}
use Rattle.rules.specs.Answers.{answer}
use Rattle.rules.specs.Kernel.{next, served}
use Rattle.rules.specs.Blocks.{is_free, is, ok, taken, handed, handed_count, returned}
use Rattle.rules.proofs.Ids.{of_put_same, of_put_other, tested, kept_passes, times_head, times_tail, keep_all}
use Rattle.rules.proofs.States.{waits_by, waiting_tells, dormant_tells, older_same, released_move_lem, halted_move_lem, resumed_move_lem, regraded_move_lem}
use Rattle.rules.proofs.Firings.{Along, along_append, FiringAct, starts, wakes, stores, keeps, rings_along}
use Rattle.rules.proofs.Cells.{change_each, map_each, body_acts, Simple, of_retire, of_create, of_delete, of_rotate, of_regrade, of_wait, of_suspend, of_resume, of_wakeups, of_count, of_pattern, of_post, of_receive, Calm, simple_calm, simple_leaves}
use Rattle.rules.proofs.Judge.{bad_not_ok, checked_acts}
use Rattle.rules.proofs.Ways.{OutBlock, deals, Finds, simple, rouses, breaks, serves, sets as alarm-sets, Way, refused, looked, acted, waited, walked, granted, freed as block-freed, handed as way-handed, call_way}
use Rattle.rules.proofs.Lines.{exists_before, line_act}
use Rattle.rules.proofs.Queues.{body_act, stands_belongs, first_belongs}
use Rattle.rules.proofs.Waits.{neither, waits_other}

-- ---- no block is handed to a task

abbrev Empty-handed : Task → Task → Type 0
Empty-handed t u = (p k : ℕ) → handed p k t u ≡ false

-- it waits on the same pools as before, or it is not freed, or its cell's code is not 0
by_state : (t u : Task) → ((p : ℕ) → awaits t.state pool p ≡ true → is_freed u.state ≡ false) → Empty-handed t u
by_state t u h p k = go (awaits t.state pool p) refl
  where
    go : (w : Bool) → awaits t.state pool p ≡ w → (w && (is_freed u.state && (ok u.cell.code && eqb u.cell.word k))) ≡ false
    go true e = rw (h p e)
    go false e = refl

by_code : (t u : Task) → ok u.cell.code ≡ false → Empty-handed t u
by_code t u e p k = rw (e, and-false, and-false)

waits_not_freed : (s : State) (p : ℕ) → awaits s pool p ≡ true → is_freed s ≡ false
waits_not_freed s p e = (waiting_tells s (waits_by (λ w. waits_on w pool p) refl s e)).1

-- the same pools are waited on
abbrev Same-pools : Task → Task → Type 0
Same-pools t u = (p : ℕ) → awaits u.state pool p ≡ awaits t.state pool p

pools_empty : (t u : Task) → Same-pools t u → Empty-handed t u
pools_empty t u h = by_state t u (λ p e. waits_not_freed u.state p (h p ∙ e))

same_task : (t : Task) → Same-pools t t
same_task t p = refl

empty_same : (t : Task) → Empty-handed t t
empty_same t = pools_empty t t (same_task t)

-- a task that waits on no pool
abbrev No-pool : State → Type 0
No-pool s = (p : ℕ) → awaits s pool p ≡ false

released_pools : (c : Code) (w : ℕ) (t : Task) → No-pool t.state → Same-pools t (released_task c w t)
released_pools c w t h p = go t.state refl
  where
    go : (s : State) → t.state ≡ s → awaits (released_task c w t).state pool p ≡ awaits t.state pool p
    go dormant e = rw e
    go absent e = rw e
    go ready e = rw e
    go suspended e = rw e
    go (waiting x) e = rw (h p) (rw e)
    go (waiting_suspended x) e = rw (h p) (rw e)

older_pools : (t : Task) → Same-pools t (with_state (older t.state) t)
older_pools t p = (older_same t.state).awaits pool p

dormant_no_pool : (s : State) → is_dormant s ≡ true → No-pool s
dormant_no_pool s e p = rw (dormant_tells s e)

-- released with a code that is not 0
refused_empty : (c : Code) (w : ℕ) (t : Task) → ok c ≡ false → Empty-handed t (released_task c w t)
refused_empty c w t n = go (is_waiting t.state) refl
  where
    go : (x : Bool) → is_waiting t.state ≡ x → Empty-handed t (released_task c w t)
    go true e = rw e (by_code t (with_cell (record { code = c; word = w }) (with_state (freed t.state) t)) n)
    go false e = rw e (empty_same t)

-- an act that lets nobody go
calm_empty : {t u : Task} → Calm t u → Empty-handed t u
calm_empty {t} {u} k = by_state t u (λ p e. go (is_freed u.state) k.freed (waits_not_freed t.state p e))
  where
    go : (f : Bool) → (f ≡ true → is_freed t.state ≡ true) → is_freed t.state ≡ false → f ≡ false
    go true h n = absurd (false≢true (sym n ∙ h refl))
    go false h n = refl

-- ---- the lines of free blocks move by marks alone

-- whoever moves is no block
abbrev Elsewhere : Move → Type 0
Elsewhere stay = Unit {0}
Elsewhere (leave x) = (p : ℕ) → same_sort x.sort (blocks p) ≡ false
Elsewhere (last x) = (p : ℕ) → same_sort x.sort (blocks p) ≡ false

elsewhere_moved : (c : Body) (m : Move) (p : ℕ) (l : List ℕ) → Elsewhere m → moved c m (free_in p) l ≡ l
unfolding moved keep
elsewhere_moved c stay p l h = refl
elsewhere_moved c (leave x) p l h = rw (h p) (keep_all l)
elsewhere_moved c (last x) p l h = rw (h p) (append-nil _ ∙ keep_all l)

simple_elsewhere : {a : Act} → Simple a → (c : Body) → Elsewhere (move c a)
unfolding move
simple_elsewhere of_retire c = λ p. refl
simple_elsewhere of_create c = λ p. refl
simple_elsewhere of_delete c = λ p. refl
simple_elsewhere of_rotate c = λ p. refl
simple_elsewhere (of_regrade {i = j}) c = regraded_move_lem Elsewhere (a_task j) tt (λ p. refl) (task c j).state
simple_elsewhere of_wait c = λ p. refl
simple_elsewhere (of_suspend {i = j}) c = halted_move_lem Elsewhere (a_task j) tt (λ p. refl) (task c j).state
simple_elsewhere (of_resume {i = j}) c = resumed_move_lem Elsewhere (a_task j) tt (λ p. refl) (task c j).state
simple_elsewhere of_wakeups c = tt
simple_elsewhere of_count c = tt
simple_elsewhere of_pattern c = tt
simple_elsewhere of_post c = λ p. refl
simple_elsewhere of_receive c = λ p. refl

-- the acts leave these lines alone
abbrev pub Unmoved : List Act → Type 0
Unmoved l = (v : View) (p : ℕ) → In p (length v.body.store.pools) → line (acts l v) (free_in p) ≡ line v (free_in p)

act_unmoved : (a : Act) → ((c : Body) → Elsewhere (move c a)) → (v : View) (p : ℕ) → In p (length v.body.store.pools) → line (act a v) (free_in p) ≡ line v (free_in p)
act_unmoved a h v p r = line_act a v (free_in p) r ∙ elsewhere_moved _ (move v.body a) p (line v (free_in p)) (h v.body)

pub start_unmoved : (i : ℕ) → Unmoved (start i ∷ [])
unfolding acts move
start_unmoved i v p r = act_unmoved (start i) (λ b q. refl) v p r

pub release_unmoved : (i : ℕ) (c : Code) (w : ℕ) → Unmoved (release i c w ∷ [])
unfolding acts move
release_unmoved i c w v p r = act_unmoved (release i c w) (λ b. released_move_lem Elsewhere (a_task i) tt (λ p. refl) (λ p. refl) (task b i).state) v p r

-- ---- a list of acts: releases of tasks that wait on no pool, starts of dormant ones, a pattern set, a tick gone by, an alarm set

abbrev Pools-kept : Body → Body → Type 0
Pools-kept b c = (i : ℕ) → Same-pools (task b i) (task c i)

data Aside (b : Body) : Act → Type 0 where
  frees : (i : ℕ) (c : Code) (w : ℕ) → No-pool (task b i).state → Aside b (release i c w)
  begins : (i : ℕ) → is_dormant (task b i).state ≡ true → Aside b (start i)
  counts : (i n : ℕ) → Aside b (wakeups i n)
  sets : (f n : ℕ) → Aside b (pattern f n)
  elapses : Aside b elapse
  rung : (k : ℕ) (c : Code) (s : Setting) → Aside b (alarm k c s)

abbrev Asides : Body → List Act → Type 0
Asides b l = Along Aside b l

aside_act : (b : Body) (a : Act) → Aside b a → Pools-kept b (after a b)
unfolding after
aside_act b a (frees j d w n) = change_each Same-pools same_task (released_task d w) j b (λ t e. released_pools d w t (rw e n))
aside_act b a (begins j d) = change_each Same-pools same_task started j b (λ t e q. sym (dormant_no_pool t.state (rw e d) q))
aside_act b a (counts j n) = change_each Same-pools same_task (with_wakeups n) j b (λ t e q. refl)
aside_act b a (sets f n) = λ i p. refl
aside_act b a elapses = λ i. map_each Same-pools same_task (λ t. with_state (older t.state) t) older_pools b.tasks i nobody
aside_act b a (rung k c s) = λ i p. refl

aside_pools : (b : Body) (a : Act) → Aside b a → (after a b).store.pools ≡ b.store.pools
unfolding after
aside_pools b a (frees j d w n) = refl
aside_pools b a (begins j d) = refl
aside_pools b a (counts j n) = refl
aside_pools b a (sets f n) = refl
aside_pools b a elapses = refl
aside_pools b a (rung k c s) = refl

aside_elsewhere : (b : Body) (a : Act) → Aside b a → (c : Body) → Elsewhere (move c a)
unfolding move
aside_elsewhere b a (frees j d w n) c = released_move_lem Elsewhere (a_task j) tt (λ p. refl) (λ p. refl) (task c j).state
aside_elsewhere b a (begins j d) c = λ p. refl
aside_elsewhere b a (counts j n) c = tt
aside_elsewhere b a (sets f n) c = tt
aside_elsewhere b a elapses c = tt
aside_elsewhere b a (rung k x s) c = tt

asides_act : (l : List Act) (b : Body) → Asides b l → Pools-kept b (afters l b) × ((afters l b).store.pools ≡ b.store.pools)
unfolding afters
asides_act [] b g = ((λ i p. refl), refl)
asides_act (a ∷ l) b g =
    let r = asides_act l (after a b) g.1 in
    ((λ i p. r.0 i p ∙ aside_act b a g.0 i p), r.1 ∙ aside_pools b a g.0)

asides_unmoved : (l : List Act) (b : Body) → Asides b l → Unmoved l
unfolding acts
asides_unmoved [] b g v p r = refl
asides_unmoved (a ∷ l) b g v p r =
    asides_unmoved l (after a b) g.1 (act a v) p (rw (body_act a v) (exists_before a v.body (free_in p) r))
    ∙ act_unmoved a (aside_elsewhere b a g.0) v p r

-- ---- a verdict that hands nothing over and leaves the pools alone

pub record Still (b : Body) (l : List Act) : Type 0 where
  pub pools : (afters l b).store.pools ≡ b.store.pools
  pub empty : (i : ℕ) → Empty-handed (task b i) (task (afters l b) i)
  pub unmoved : Unmoved l

still_none : (b : Body) → Still b []
unfolding afters acts
still_none b = record { pools = refl; empty = λ i. empty_same (task b i); unmoved = λ v p r. refl }

still_simple : (b : Body) {a : Act} → Simple a → Still b (a ∷ [])
unfolding afters acts
still_simple b {a} g = record { pools = (simple_leaves b g).2; empty = λ i. calm_empty (simple_calm b g i); unmoved = λ v p r. act_unmoved a (simple_elsewhere g) v p r }

still_broken : (b : Body) (i : ℕ) → Still b (release i E-RLWAI 0 ∷ [])
unfolding afters after ok number
still_broken b i = record {
  pools = refl;
  empty = change_each Empty-handed empty_same (released_task E-RLWAI 0) i b (λ t e. refused_empty E-RLWAI 0 t refl);
  unmoved = release_unmoved i E-RLWAI 0;
}

still_nest : (b : Body) (h : Handlers) → Still b (nest h ∷ [])
unfolding afters after acts move
still_nest b h = record { pools = refl; empty = λ i. empty_same (task b i); unmoved = λ v p r. act_unmoved (nest h) (λ c. tt) v p r }

still_list : (b : Body) (l : List Act) → Asides b l → Still b l
still_list b l g = let r = asides_act l b g in
    record { pools = r.1; empty = λ i. pools_empty (task b i) (task (afters l b) i) (r.0 i); unmoved = asides_unmoved l b g }

still_aside : (b : Body) {a : Act} → Aside b a → Still b (a ∷ [])
still_aside b {a} g = still_list b (a ∷ []) (g, tt)

-- ---- who is released by other calls waits on no pool

sleeper_no_pool : (x : Option Wait) → sleeps x ≡ true → (p : ℕ) → waits_on x pool p ≡ false
sleeper_no_pool none e p = refl
sleeper_no_pool (some asleep) e p = refl
sleeper_no_pool (some (timed t)) e p = refl
sleeper_no_pool (some (on k o q m)) e p = absurd (false≢true e)

ending_no_pool : (x : Option Wait) → ending x ≡ true → (p : ℕ) → waits_on x pool p ≡ false
ending_no_pool none e p = refl
ending_no_pool (some asleep) e p = refl
ending_no_pool (some (timed t)) e p = refl
ending_no_pool (some (on k o q m)) e p = absurd (false≢true e)

-- nobody of a list waits on a pool
abbrev Off-pools : Body → List ℕ → Type 0
Off-pools b l = (x : ℕ) → times x l ≢ 0 → No-pool (task b x).state

off_later : (b : Body) (x : ℕ) (l : List ℕ) → Off-pools b (x ∷ l) → Off-pools b l
off_later b x l h y z = h y (times_tail x y l z)

off_release : (b : Body) (x : ℕ) (c : Code) (w : ℕ) (l : List ℕ) → Off-pools b (x ∷ l) → Off-pools (after (release x c w) b) l
off_release b x c w l h y z p = aside_act b _ (frees x c w (h x (times_head x l))) y p ∙ off_later b x l h y z p

module _ (v : View) (s : Sound v) where
  waiter_waits : (k : Kind) (o : ℕ) → In o (objects v.body.store k) → (x : ℕ) (m : List ℕ) → line v (waiters k o) ≡ x ∷ m → awaits (task v.body x).state k o ≡ true
  unfolding belongs
  waiter_waits k o r x m e = first_belongs v s (waiters k o) r x m e

  -- a waiter on an object of another kind
  other_kind : (k : Kind) (o : ℕ) → same_kind k pool ≡ false → (x : ℕ) → awaits (task v.body x).state k o ≡ true → No-pool (task v.body x).state
  other_kind k o n x e p = waits_other (wait_of (task v.body x).state) k pool o p e ∙ rw n

  -- set_flg
  flag_asides : (c : Body) (f have : ℕ) (l : List ℕ) → Off-pools c l → Asides c (serve_flag v.body f have l)
  flag_asides c f have [] h = (sets f have, tt)
  flag_asides c f have (x ∷ l) h =
      go (met have (wish (wait_of (task v.body x).state)).0 (wish (wait_of (task v.body x).state)).1)
      (flag_asides (after (release x OK have) c) f (left have (wish (wait_of (task v.body x).state)).1) l (off_release c x OK have l h)) (flag_asides c f have l (off_later c x l h))
    where
      go : (t : Bool) → Asides (after (release x OK have) c) (serve_flag v.body f (left have (wish (wait_of (task v.body x).state)).1) l) → Asides c (serve_flag v.body f have l)
          → Asides c (cond t (release x OK have ∷ serve_flag v.body f (left have (wish (wait_of (task v.body x).state)).1) l) (serve_flag v.body f have l))
      go true g k = (frees x OK have (h x (times_head x l)), g)
      go false g k = k

  still_walk : (f have : ℕ) → In f (length v.body.store.flags) → Still v.body (serve_flag v.body f have (line v (waiters flag f)))
  unfolding belongs
  still_walk f have r = still_list v.body _ (flag_asides v.body f have (line v (waiters flag f)) (λ x z. other_kind flag f refl x (stands_belongs v s (waiters flag f) r x z)))

-- the tick
lapse_asides : (b : Body) (l : List ℕ) → Off-pools b l → Asides b (map timeout l ++ elapse ∷ [])
lapse_asides b [] h = (elapses, tt)
lapse_asides b (x ∷ l) h = (frees x E-TMOUT 0 (h x (times_head x l)), lapse_asides (after (timeout x) b) l (off_release b x E-TMOUT 0 l h))

firing_aside : (b : Body) (a : Act) → FiringAct b a → Aside b a
firing_aside b a (starts i d) = begins i d
firing_aside b a (wakes i s) = frees i OK 0 (sleeper_no_pool (wait_of (task b i).state) s)
firing_aside b a (stores i x d s m) = counts i _
firing_aside b a (keeps k c g f) = rung k c _

pub tick_still : (b : Body) (n : ℕ) → Still b (lapse b ++ rings (afters (lapse b) b) n 1)
tick_still b n =
    still_list b _ (along_append Aside (lapse b) _ b
    (lapse_asides b (endings b) (λ x z. ending_no_pool (wait_of (task b x).state) (kept_passes (λ i. ending (wait_of (task b i).state)) x (ids (length b.tasks)) z)))
    (rings_along Aside firing_aside n 1 (afters (lapse b) b)))

-- ---- handed over, counted

handed_same : (p k : ℕ) (l : List Task) → handed_count p k l l ≡ 0
unfolding handed_count
handed_same p k [] = refl
handed_same p k (t ∷ l) = rw (empty_same t p k, handed_same p k l)

-- nobody is handed anything
handed_none : (p k : ℕ) (l m : List Task) → ((i : ℕ) → handed p k (get_or l i nobody) (get_or m i nobody) ≡ false) → handed_count p k l m ≡ 0
unfolding handed_count
handed_none p k [] m h = refl
handed_none p k (t ∷ l) [] h = refl
handed_none p k (t ∷ l) (u ∷ m) h = rw (h 0, handed_none p k l m (λ i. h (suc i)))

-- one task is changed
handed_set : (p k : ℕ) (l : List Task) (i : ℕ) (u : Task) → i < length l → handed_count p k l (set l i u) ≡ once (handed p k (get_or l i nobody) u)
unfolding handed_count
handed_set p k [] i u h = absurd (omega arith)
handed_set p k (t ∷ l) zero u h = rw (handed_same p k l) (add-zero _)
handed_set p k (t ∷ l) (suc i) u h = rw (empty_same t p k) (zero-add _ ∙ handed_set p k l i u (omega arith))

handed_put : (p k : ℕ) (l : List Task) (i : ℕ) (u : Task) → In i (length l) → handed_count p k l (put l i u) ≡ once (handed p k (of l i nobody) u)
handed_put p k l zero u h = absurd (omega (arith, h.0))
handed_put p k l (suc i) u h = handed_set p k l i u h.1

-- ---- the account of one block at one event

-- its mark before and after, and whether it was taken or returned
abbrev pub Balance : Body → Body → Bool → Bool → ℕ → ℕ → Type 0
Balance b c took gave p k = once (not (is_free b p k)) + (once took + handed_count p k b.tasks c.tasks) ≡ once (not (is_free c p k)) + once gave

still_balance : (b : Body) (l : List Act) → Still b l → (p k : ℕ) → Balance b (afters l b) false false p k
still_balance b l s p k =
    rw (handed_none p k b.tasks (afters l b).tasks (λ i. s.empty (suc i) p k))
    (ap (λ (x : List (List Bool)). once (not (of (of x p []) k true)) + 0) (sym s.pools))

-- a mark is set
mark_reads : (b : Body) (q j : ℕ) (x : Bool) (p k : ℕ) → In p (length b.store.pools) → In k (length (of b.store.pools p []))
    → is_free (after (mark q j x) b) p k ≡ cond (eqb q p && eqb j k) x (is_free b p k)
unfolding after
mark_reads b q j x p k rp rk = go (eqb q p) refl
  where
    inner : (t : Bool) → eqb j k ≡ t → of (put (of b.store.pools p []) j x) k true ≡ cond t x (is_free b p k)
    inner true e = rw (eqb-true j k e) (of_put_same (of b.store.pools p []) k x true rk)
    inner false e = of_put_other (of b.store.pools p []) j k x true e

    go : (t : Bool) → eqb q p ≡ t → of (of (put b.store.pools q (put (of b.store.pools q []) j x)) p []) k true ≡ cond (t && eqb j k) x (is_free b p k)
    go true e = rw (eqb-true q p e, of_put_same b.store.pools p (put (of b.store.pools p []) j x) [] rp) (inner (eqb j k) refl)
    go false e = ap (λ (l : List Bool). of l k true) (of_put_other b.store.pools q p _ [] e)

-- block j of pool q, whose mark was y, is marked the other way
mark_balance : (b : Body) (q j : ℕ) (y : Bool) → is_free b q j ≡ y → (p k : ℕ) → In p (length b.store.pools) → In k (length (of b.store.pools p []))
    → Balance b (after (mark q j (not y)) b) (y && (eqb q p && eqb j k)) (not y && (eqb q p && eqb j k)) p k
unfolding after
mark_balance b q j y e p k rp rk =
    ap (λ (n : ℕ). once (not (is_free b p k)) + (once (y && (eqb q p && eqb j k)) + n)) (handed_same p k b.tasks)
    ∙ go (eqb q p) (eqb j k) refl refl y e
    ∙ ap (λ (x : Bool). once (not x) + once (not y && (eqb q p && eqb j k))) (sym (mark_reads b q j (not y) p k rp rk))
  where
    hit : (y : Bool) → is_free b p k ≡ y → once (not (is_free b p k)) + (once (y && true) + 0) ≡ once (not (not y)) + once (not y && true)
    hit true e = rw e
    hit false e = rw e

    miss : (y x : Bool) → once (not x) + (once (y && false) + 0) ≡ once (not x) + once (not y && false)
    miss true x = refl
    miss false x = refl

    go : (s t : Bool) → eqb q p ≡ s → eqb j k ≡ t → (y : Bool) → is_free b q j ≡ y
        → once (not (is_free b p k)) + (once (y && (s && t)) + 0) ≡ once (not (cond (s && t) (not y) (is_free b p k))) + once (not y && (s && t))
    go true true c d y e = hit y (rw (← eqb-true q p c, ← eqb-true j k d) e)
    go true false c d y e = miss y (is_free b p k)
    go false t c d y e = miss y (is_free b p k)

-- a waiter on pool q is released with block j
handed_over : (t : Task) (q j : ℕ) → awaits t.state pool q ≡ true → (p k : ℕ) → handed p k t (released_task OK j t) ≡ (eqb q p && eqb j k)
unfolding ok number
handed_over t q j e p k = rw (waits_other (wait_of t.state) pool pool q p e) (go t.state refl e)
  where
    go : (s : State) → t.state ≡ s → awaits s pool q ≡ true
        → (eqb q p && (is_freed (released_task OK j t).state && (ok (released_task OK j t).cell.code && eqb (released_task OK j t).cell.word k))) ≡ (eqb q p && eqb j k)
    go dormant c w = absurd (false≢true w)
    go absent c w = absurd (false≢true w)
    go ready c w = absurd (false≢true w)
    go suspended c w = absurd (false≢true w)
    go (waiting x) c w = rw c
    go (waiting_suspended x) c w = rw c

hand_balance : (b : Body) (i q j : ℕ) → awaits (task b i).state pool q ≡ true → (p k : ℕ) → Balance b (after (release i OK j) b) false (eqb q p && eqb j k) p k
unfolding after
hand_balance b i q j e p k =
    ap (λ (n : ℕ). once (not (is_free b p k)) + (0 + n))
    (handed_put p k b.tasks i (released_task OK j (task b i)) (tested (λ t. awaits t.state pool q) b.tasks i nobody refl e) ∙ ap once (handed_over (task b i) q j e p k))
    ∙ ap (λ (n : ℕ). once (not (is_free b p k)) + n) (zero-add _)

-- ---- what an event deals out: nothing; a block that is granted, returned to the free ones, or handed over to a waiter

module _ (v : View) (e : Event) where
  -- the answer says that no block is taken; that this one is; the same of a return
  abbrev pub NoneTaken : Verdict → Type 0
  NoneTaken r = (p k : ℕ) → taken e (number r.code) r.w1 p k ≡ false

  abbrev pub Taken : Verdict → ℕ → ℕ → Type 0
  Taken r q j = (p k : ℕ) → taken e (number r.code) r.w1 p k ≡ (eqb q p && eqb j k)

  abbrev pub NoneReturned : Verdict → Type 0
  NoneReturned r = (p k : ℕ) → returned e (number r.code) p k ≡ false

  abbrev pub Returned : Verdict → ℕ → ℕ → Type 0
  Returned r q j = (p k : ℕ) → returned e (number r.code) p k ≡ (eqb q p && eqb j k)

  pub data Deal : Verdict → Type 0 where
    nothing : (r : Verdict) → NoneTaken r → NoneReturned r → Still v.body r.acts → Deal r
    grant : (q j : ℕ) (m : List ℕ) → Taken (gives j 0 (mark q j false ∷ [])) q j → NoneReturned (gives j 0 (mark q j false ∷ []))
        → In q (length v.body.store.pools) → line v (free_in q) ≡ j ∷ m → Deal (gives j 0 (mark q j false ∷ []))
    free : (q j : ℕ) → NoneTaken (done (mark q j true ∷ [])) → Returned (done (mark q j true ∷ [])) q j → OutBlock v.body q j → Deal (done (mark q j true ∷ []))
    hand : (q j i : ℕ) → NoneTaken (done (release i OK j ∷ [])) → Returned (done (release i OK j ∷ [])) q j → OutBlock v.body q j
        → awaits (task v.body i).state pool q ≡ true → Deal (done (release i OK j ∷ []))

-- ---- a call

finds_still : {v : View} {a p n : ℤ} {d : Act} → Sound v → Finds v a p n d → Still v.body (d ∷ [])
finds_still {v} s (simple g f) = still_simple v.body g
finds_still {v} s (rouses g e) = still_aside v.body (firing_aside v.body _ g)
finds_still {v} {a} s (breaks e w) = still_broken v.body (nat a)
finds_still {v} {a} s (serves k {w} {i} {m} o r z e) = still_aside v.body (frees i OK w (other_kind v s k (nat a) o i (waiter_waits v s k (nat a) r i m e)))
finds_still {v} s (alarm-sets {c} {s = x} o f) = still_aside v.body (rung _ c x)

module _ {v : View} {n : ℤ} (s : Sound v) (x a p c : ℤ) where
  -- a call on no block
  others : (r : Verdict) → deals n ≡ false → Still v.body r.acts → Deal v (call x n a p c) r
  others r q g = let o = neither (is n 23 || is n 24) (is n 25) q in nothing r (λ i k. rw o.0) (λ i k. rw o.1) g

  -- a code that is not 0 takes nothing and returns nothing
  not_done : (r : Verdict) → ok r.code ≡ false → Still v.body r.acts → Deal v (call x n a p c) r
  unfolding ok
  not_done r e g = nothing r (λ i k. rw e (and-false (is n 23 || is n 24))) (λ i k. rw e (and-false (is n 25))) g

  way_deal : {r : Verdict} → Way v a p n r → Deal v (call x n a p c) r
  unfolding ok number
  way_deal (refused d e) = not_done _ (bad_not_ok d e) (still_none v.body)
  way_deal (looked q) = others _ q (still_none v.body)
  way_deal (acted q f) = others _ q (finds_still s f)
  way_deal (waited f) = not_done _ refl (still_simple v.body of_wait)
  way_deal (walked have q i z) = others _ q (still_walk v s (nat a) have i)
  way_deal (granted {j} {m} y z i e) = grant (nat a) j m (λ i k. rw y) (λ i k. rw z) i e
  way_deal (block-freed e o l) = free (nat a) (nat p) (λ i k. rw e) (λ i k. rw e) o
  way_deal (way-handed {i} {m} e o l) = hand (nat a) (nat p) i (λ i k. rw e) (λ i k. rw e) o (waiter_waits v s pool (nat a) o.pool i m l)

-- ---- an event

pub event_deal : (v : View) → Sound v → (e : Event) → Deal v e (judge v e)
unfolding judge ticked entered exited
event_deal v s tick = nothing _ (λ p k. refl) (λ p k. refl) (tick_still v.body _)
event_deal v s enter = nothing _ (λ p k. refl) (λ p k. refl) (checked_acts (Still v.body) _ _ _ (still_none v.body) (λ e. still_nest v.body _))
event_deal v s exit = nothing _ (λ p k. refl) (λ p k. refl) (checked_acts (Still v.body) _ _ _ (still_none v.body) (λ e. still_nest v.body _))
event_deal v s (call x n a p c) = way_deal s x a p c (call_way v x n a p c)

-- ---- the accounts

-- a block that is listed as free may be granted
marked_free : (l : List Bool) (k : ℕ) → of l k false ≡ true → of l k true ≡ true
marked_free l zero e = refl
marked_free [] (suc k) e = refl
marked_free (x ∷ l) (suc zero) e = e
marked_free (x ∷ l) (suc (suc k)) e = marked_free l (suc k) e

deal_balance : (v : View) → Sound v → (e : Event) (r : Verdict) → Deal v e r → (p k : ℕ) → In p (length v.body.store.pools) → In k (length (of v.body.store.pools p []))
    → Balance v.body (afters r.acts v.body) (taken e (number r.code) r.w1 p k) (returned e (number r.code) p k) p k
unfolding afters belongs
deal_balance v s e r (nothing w t g h) p k rp rk = rw (t p k, g p k) (still_balance v.body r.acts h p k)
deal_balance v s e r (grant q j m t g i l) p k rp rk =
    rw (t p k, g p k) (mark_balance v.body q j true (marked_free (of v.body.store.pools q []) j (first_belongs v s (free_in q) i j m l)) p k rp rk)
deal_balance v s e r (free q j t g b) p k rp rk = rw (t p k, g p k) (mark_balance v.body q j false b.out p k rp rk)
deal_balance v s e r (hand q j i t g b w) p k rp rk = rw (t p k, g p k) (hand_balance v.body i q j w p k)

-- the account of every block at every event on a sound state
pub event_balance : (v : View) → Sound v → (e : Event) (p k : ℕ) → In p (length v.body.store.pools) → In k (length (of v.body.store.pools p []))
    → Balance v.body (next v e).body (taken e (number (served v e).answer.code) (served v e).answer.w1 p k) (returned e (number (served v e).answer.code) p k) p k
unfolding next served answer
event_balance v s e p k rp rk = rw (body_acts (judge v e).acts v) (deal_balance v s e (judge v e) (event_deal v s e) p k rp rk)
