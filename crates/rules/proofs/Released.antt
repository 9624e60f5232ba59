-- The number released, which compares the states before and after, is the number of release acts: each release of a verdict finds its task waiting, and no other act
-- lets a waiting task go.
use mathlib.Core.Bool.{Bool, true, false, cond, false≢true}
use mathlib.Core.List.{List, [], ◌∷◌, ◌++◌, map}
use mathlib.Core.Logic.{inl, inr, ◌≢◌}
use mathlib.Core.Path.{◌≡◌, refl, sym, ◌∙◌}
use Prim.Native.Nat.{ℕ, zero, suc, ◌+◌}
use native.Mathlib.Nat.{add-zero}
use native.Mathlib.Omega.{arith}
use lib.Dec.{eqb}
use lib.IntN.{ℤ}
use lib.ListN.{length, get_or, set}
use Rattle.rules.specs.Ids.{of, put, ids, In, once, times}
use Rattle.rules.specs.Codes.{Code, OK, E-RLWAI}
use Rattle.rules.specs.State.{Kind, flag, pool, State, dormant, ready, suspended, absent, waiting, waiting_suspended, Task, Body, task, nobody, objects, wait_of, wish, is_dormant, is_waiting, is_freed, sleeps}
use Rattle.rules.specs.Places.{waiters, belongs, waits_on, at, line_at}
use Rattle.rules.specs.Events.{Event, tick, enter, exit, call, nat}
use Rattle.rules.specs.Acts.{Act, release, pattern, mark, elapse, nest, alarm, with_state, older, after, afters}
use Rattle.rules.specs.View.{View, line}
use Rattle.rules.specs.Verdicts.{Verdict}
use Rattle.rules.specs.Objects.{met, left, serve_flag}
use Rattle.rules.specs.Alarms.{rings}
use Rattle.rules.specs.Time.{ending, endings, timeout, lapse, ticked}
use Rattle.rules.specs.Handling.{entered, exited}
use Rattle.rules.specs.Table.{judge}
use Rattle.rules.specs.Answers.{is_released, released_count}
use Rattle.rules.specs.Sound.{Sound}
use Rattle.rules.specs.Kernel.{next}
use Rattle.rules.specs.Releases.{is_release, releases}
use Rattle.rules.proofs.Ids.{of_put_other, inside, tested, times_keep, kept_passes, times_head, times_tail, times_ids}
use Rattle.rules.proofs.Queues.{stands_belongs, first_belongs, belongs_stands}
use Rattle.rules.proofs.Firings.{Along, FiringAct, starts, wakes, stores, keeps, rings_acts}
use Rattle.rules.proofs.Cells.{body_acts, rest_tells, dormant_rests, Mild, untouched, let_go, mild_same, mild_then, gentle_mild, list_mild, lapse_gentle, firing_gentle, Simple, of_wait, simple_calm, simple_leaves, calm_unreleased}
use Rattle.rules.proofs.States.{waits_by, waiting_tells, freed_tells, older_same}
use Rattle.rules.proofs.Refused.{released_none, none_released}
use Rattle.rules.proofs.Judge.{checked_acts}
use Rattle.rules.proofs.Ways.{Finds, simple, rouses, breaks, serves, sets, Way, refused, looked, acted, waited as way-waited, walked, granted, freed as block-freed, handed, call_way}

-- ---- an act that is no release

started_unreleased : (s : State) → is_dormant s ≡ true → is_released s ready ≡ false
started_unreleased dormant e = refl
started_unreleased absent e = refl
started_unreleased ready e = refl
started_unreleased suspended e = refl
started_unreleased (waiting w) e = absurd (false≢true e)
started_unreleased (waiting_suspended w) e = absurd (false≢true e)

none_let_go : (l m : List Task) → ((i : ℕ) → is_released (get_or l i nobody).state (get_or m i nobody).state ≡ false) → released_count l m ≡ 0
unfolding released_count
none_let_go [] m h = refl
none_let_go (t ∷ l) [] h = refl
none_let_go (t ∷ l) (u ∷ m) h = rw (h 0, none_let_go l m (λ i. h (suc i)))

-- a tick that goes by releases nobody more
released_older : (l m : List Task) → released_count l (map (λ t. with_state (older t.state) t) m) ≡ released_count l m
unfolding released_count
released_older [] m = refl
released_older (t ∷ l) [] = refl
released_older (t ∷ l) (u ∷ m) = rw ((older_same u.state).freed, released_older l m)

-- ---- a list of releases, each of a task that waits at the start, in b, and still when its turn comes, in c

data Frees (b : Body) : Body → List Act → Type 0 where
  ends : (c : Body) → Frees b c []
  -- an act that is no release and lets nobody go
  passes : (c : Body) (a : Act) (l : List Act) → is_release a ≡ false → released_count b.tasks (after a c).tasks ≡ released_count b.tasks c.tasks → Frees b (after a c) l → Frees b c (a ∷ l)
  frees : (c : Body) (i : ℕ) (d : Code) (w : ℕ) (l : List Act) → is_waiting (task b i).state ≡ true → is_waiting (task c i).state ≡ true
      → Frees b (after (release i d w) c) l → Frees b c (release i d w ∷ l)

one_more_set : (l m : List Task) (i : ℕ) (u : Task) → is_waiting (get_or l i nobody).state ≡ true → is_waiting (get_or m i nobody).state ≡ true → is_freed u.state ≡ true
    → released_count l (set m i u) ≡ 1 + released_count l m
unfolding released_count
one_more_set [] m i u e d f = absurd (false≢true e)
one_more_set (t ∷ l) [] i u e d f = absurd (false≢true d)
one_more_set (t ∷ l) (s ∷ m) zero u e d f = rw (e, f, (waiting_tells s.state d).1) (omega arith)
one_more_set (t ∷ l) (s ∷ m) (suc i) u e d f = rw (one_more_set l m i u e d f) (omega arith)

one_more : (b c : Body) (i : ℕ) (d : Code) (w : ℕ) → is_waiting (task b i).state ≡ true → is_waiting (task c i).state ≡ true
    → released_count b.tasks (after (release i d w) c).tasks ≡ 1 + released_count b.tasks c.tasks
unfolding after
one_more b c zero d w e f = absurd (false≢true e)
one_more b c (suc i) d w e f = one_more_set b.tasks c.tasks i _ e f (rw f (freed_tells (task c (suc i)).state f).1)

frees_count : {b c : Body} {l : List Act} → Frees b c l → released_count b.tasks (afters l c).tasks ≡ released_count b.tasks c.tasks + releases l
unfolding afters after
frees_count (ends c) = sym (add-zero _)
frees_count (passes c a l n e g) = frees_count g ∙ rw (e, n) (omega arith)
frees_count {b} (frees c i d w l e f g) = rw (frees_count g, one_more b c i d w e f) (omega arith)

counted : (b : Body) (l : List Act) → Frees b b l → released_count b.tasks (afters l b).tasks ≡ releases l
counted b l g = rw (frees_count g, none_released b.tasks) (omega arith)

-- ---- the walk of set_flg, and the tick

module _ (b : Body) where
  -- those to come stand once each, and wait, at the start and still
  abbrev Coming : Body → List ℕ → Type 0
  Coming c l = (y : ℕ) → times y l ≢ 0 → (times y l ≡ 1) × (is_waiting (task b y).state ≡ true) × (is_waiting (task c y).state ≡ true)

  coming_skip : (c : Body) (x : ℕ) (l : List ℕ) → Coming c (x ∷ l) → Coming c l
  unfolding times
  coming_skip c x l h y z = let r = h y (times_tail x y l z) in (omega (arith, r.0, z), r.1, r.2)

  -- the task released does not come again, and the others are as they were
  coming_release : (c : Body) (x : ℕ) (d : Code) (w : ℕ) (l : List ℕ) → Coming c (x ∷ l) → Coming (after (release x d w) c) l
  unfolding times after
  coming_release c x d w l h y z = let r = h y (times_tail x y l z) in ((coming_skip c x l h y z).0, r.1, go (eqb x y) refl r.0 r.2)
    where
      go : (t : Bool) → eqb x y ≡ t → once t + times y l ≡ 1 → is_waiting (task c y).state ≡ true → is_waiting (task (after (release x d w) c) y).state ≡ true
      go true e k q = absurd (z (omega arith))
      go false e k q = rw (of_put_other c.tasks x y _ nobody e) q

  first_comes : (c : Body) (x : ℕ) (d : Code) (w : ℕ) (l : List ℕ) (m : List Act) → Coming c (x ∷ l) → Frees b (after (release x d w) c) m → Frees b c (release x d w ∷ m)
  first_comes c x d w l m h g = let r = h x (times_head x l) in frees c x d w m r.1 r.2 g

  flag_frees : (c : Body) (f have : ℕ) (l : List ℕ) → Coming c l → Frees b c (serve_flag b f have l)
  unfolding after
  flag_frees c f have [] h = passes c (pattern f have) [] refl refl (ends _)
  flag_frees c f have (x ∷ l) h =
      go (met have (wish (wait_of (task b x).state)).0 (wish (wait_of (task b x).state)).1)
      (flag_frees (after (release x OK have) c) f (left have (wish (wait_of (task b x).state)).1) l (coming_release c x OK have l h)) (flag_frees c f have l (coming_skip c x l h))
    where
      go : (t : Bool) → Frees b (after (release x OK have) c) (serve_flag b f (left have (wish (wait_of (task b x).state)).1) l) → Frees b c (serve_flag b f have l)
          → Frees b c (cond t (release x OK have ∷ serve_flag b f (left have (wish (wait_of (task b x).state)).1) l) (serve_flag b f have l))
      go true g k = first_comes c x OK have l _ h g
      go false g k = k

  lapse_frees : (c : Body) (l : List ℕ) → Coming c l → Frees b c (map timeout l ++ elapse ∷ [])
  unfolding after
  lapse_frees c [] h = passes c elapse [] refl (released_older b.tasks c.tasks) (ends _)
  lapse_frees c (x ∷ l) h = first_comes c x _ 0 l _ h (lapse_frees (after (timeout x) c) l (coming_release c x _ 0 l h))

-- those whose wait ends
endings_come : (b : Body) → Coming b b (endings b)
endings_come b y z = (times_keep y test (ids (length b.tasks)) ∙ rw ends (times_ids y _ there), waits, waits)
  where
    test : ℕ → Bool
    test i = ending (wait_of (task b i).state)

    ends : ending (wait_of (task b y).state) ≡ true
    ends = kept_passes test y (ids (length b.tasks)) z

    there : In y (length b.tasks)
    there = tested (λ t. ending (wait_of t.state)) b.tasks y nobody refl ends

    waits : is_waiting (task b y).state ≡ true
    waits = waits_by ending refl (task b y).state ends

-- ---- alarms: whoever is at rest when they fire was so before the tick

frees_append : {b c : Body} {l : List Act} (m : List Act) → Frees b c l → Frees b (afters l c) m → Frees b c (l ++ m)
unfolding afters
frees_append m (ends c) h = h
frees_append m (passes c a l n e g) h = passes c a (l ++ m) n e (frees_append m g h)
frees_append m (frees c i d w l e f g) h = frees c i d w (l ++ m) e f (frees_append m g h)

-- one task is changed, and it was released before if and only if it is so now
count_set : (l m : List Task) (i : ℕ) (u : Task) → is_released (get_or l i nobody).state u.state ≡ is_released (get_or l i nobody).state (get_or m i nobody).state
    → released_count l (set m i u) ≡ released_count l m
unfolding released_count
count_set [] m i u h = refl
count_set (t ∷ l) [] i u h = refl
count_set (t ∷ l) (s ∷ m) zero u h = rw h
count_set (t ∷ l) (s ∷ m) (suc i) u h = rw (count_set l m i u h)

count_put : (l m : List Task) (i : ℕ) (u : Task) → is_released (of l i nobody).state u.state ≡ is_released (of l i nobody).state (of m i nobody).state
    → released_count l (put m i u) ≡ released_count l m
count_put l m zero u h = refl
count_put l m (suc i) u h = count_set l m i u h

module _ (b : Body) where
  abbrev MildSince : Body → Type 0
  MildSince c = (i : ℕ) → Mild (task b i) (task c i)

  -- who rests waits now if and only if it waited then
  waited : {t u : Task} → Mild t u → is_freed u.state ≡ false → is_waiting t.state ≡ is_waiting u.state
  waited (untouched a w c d) e = sym w
  waited (let_go x y) e = absurd (false≢true (sym e ∙ y))

  firing_frees : (c : Body) (a : Act) (l : List Act) → MildSince c → FiringAct c a → Frees b (after a c) l → Frees b c (a ∷ l)
  unfolding after
  firing_frees c a l h (starts i d) g = passes c a l refl (count_put b.tasks c.tasks i _ still) g
    where
      still : is_released (task b i).state ready ≡ is_released (task b i).state (task c i).state
      still =
          rw (waited (h i) (rest_tells (task c i).state (dormant_rests (task c i).state d)))
          (started_unreleased (task c i).state d ∙ sym (released_none (task c i).state))
  firing_frees c a l h (wakes i s) g =
      let w = waits_by sleeps refl (task c i).state s in
      frees c i OK 0 l (waited (h i) (waiting_tells (task c i).state w).1 ∙ w) w g
  firing_frees c a l h (stores i x d s m) g = passes c a l refl (count_put b.tasks c.tasks i _ refl) g
  firing_frees c a l h (keeps k x y f) g = passes c a l refl refl g

  rings_frees : (l : List Act) (c : Body) → MildSince c → Along FiringAct c l → Frees b c l
  rings_frees [] c h g = ends c
  rings_frees (a ∷ l) c h g = firing_frees c a l h g.0 (rings_frees l (after a c) (λ i. mild_then (h i) (gentle_mild c (firing_gentle c a g.0) i)) g.1)

  tick_frees : (n : ℕ) → Frees b b (lapse b ++ rings (afters (lapse b) b) n 1)
  tick_frees n =
      frees_append _ (lapse_frees b b (endings b) (endings_come b)) (rings_frees _ (afters (lapse b) b) (list_mild (lapse b) b (lapse_gentle b)) (rings_acts n 1 (afters (lapse b) b)))

-- the waiters on an object
module _ (v : View) (s : Sound v) (k : Kind) (o : ℕ) where
  -- where somebody stands, there is an object
  there : (x : ℕ) (m : List ℕ) → line v (waiters k o) ≡ x ∷ m → In o (objects v.body.store k)
  unfolding line_at
  there x m e = elim (inside (at v.lines.waiting k) o []) [ inl r ↦ rw (s.shape.waiting k) at r | inr z ↦ absurd (empty (sym z ∙ e)) ]
    where
      empty : {x : ℕ} {m : List ℕ} → [] ≡ x ∷ m → ⊥
      empty e = let z : ◌≡◌ {A = ℕ} 0 1 = cc in omega arith

  belongs_waits : (y : ℕ) → belongs v.body (waiters k o) y ≡ true → is_waiting (task v.body y).state ≡ true
  unfolding belongs
  belongs_waits y e = waits_by (λ x. waits_on x k o) refl (task v.body y).state e

  first_waits : (x : ℕ) (m : List ℕ) → line v (waiters k o) ≡ x ∷ m → is_waiting (task v.body x).state ≡ true
  first_waits x m e = belongs_waits x (first_belongs v s (waiters k o) (there x m e) x m e)

  waiters_come : In o (objects v.body.store k) → Coming v.body v.body (line v (waiters k o))
  waiters_come r y z =
      let b = stands_belongs v s (waiters k o) r y z in
      let w = belongs_waits y b in
      (belongs_stands v.body (waiters k o) _ (s.queues (waiters k o) r) y b, w, w)

-- ---- acts that release as many as there are release acts

module _ (b : Body) where
  abbrev Counted : List Act → Type 0
  Counted l = released_count b.tasks (afters l b).tasks ≡ releases l

  count_none : Counted []
  unfolding afters
  count_none = none_released b.tasks

  count_simple : {a : Act} → Simple a → Counted (a ∷ [])
  unfolding afters
  count_simple {a} g = rw (simple_leaves b g).3 (none_let_go b.tasks (after a b).tasks (λ i. calm_unreleased (simple_calm b g (suc i))))

  -- a mark, an alarm, or handlers that change: the tasks stay
  count_still : (a : Act) → is_release a ≡ false → (after a b).tasks ≡ b.tasks → Counted (a ∷ [])
  unfolding afters
  count_still a n e = rw (n, e) (none_released b.tasks)

  count_firing : {a : Act} → FiringAct b a → Counted (a ∷ [])
  count_firing {a} g = counted b (a ∷ []) (firing_frees b b a [] (λ i. mild_same (task b i)) g (ends _))

  count_release : (i : ℕ) (c : Code) (w : ℕ) → is_waiting (task b i).state ≡ true → Counted (release i c w ∷ [])
  count_release i c w h = counted b _ (frees b i c w [] h h (ends _))

-- ---- a call

module _ {v : View} {a p n : ℤ} (s : Sound v) where
  finds_counted : {d : Act} → Finds v a p n d → Counted v.body (d ∷ [])
  unfolding after
  finds_counted (simple g f) = count_simple v.body g
  finds_counted (rouses g e) = count_firing v.body g
  finds_counted (breaks e w) = count_release v.body (nat a) E-RLWAI 0 w
  finds_counted (serves k {w} {i} {m} o r z e) = count_release v.body i OK w (first_waits v s k (nat a) i m e)
  finds_counted (sets {c} {s = x} o f) = count_still v.body (alarm (nat a) c x) refl refl

  way_counted : {r : Verdict} → Way v a p n r → Counted v.body r.acts
  unfolding after
  way_counted (refused c e) = count_none v.body
  way_counted (looked q) = count_none v.body
  way_counted (acted q f) = finds_counted f
  way_counted (way-waited f) = count_simple v.body of_wait
  way_counted (walked have q i z) = counted v.body _ (flag_frees v.body v.body (nat a) have _ (waiters_come v s flag (nat a) i))
  way_counted (granted {j} y z i e) = count_still v.body (mark (nat a) j false) refl refl
  way_counted (block-freed e o l) = count_still v.body (mark (nat a) (nat p) true) refl refl
  way_counted (handed {i} {m} e o l) = count_release v.body i OK (nat p) (first_waits v s pool (nat a) i m l)

-- ---- an event

-- the number released is the number of release acts
pub released_by_acts : (v : View) (e : Event) → Sound v → released_count v.body.tasks (next v e).body.tasks ≡ releases (judge v e).acts
unfolding next judge ticked entered exited after
released_by_acts v tick s = rw (body_acts (ticked v).acts v) (counted v.body _ (tick_frees v.body _))
released_by_acts v enter s = rw (body_acts (entered v).acts v) (checked_acts (Counted v.body) _ _ _ (count_none v.body) (λ k. count_still v.body (nest _) refl refl))
released_by_acts v exit s = rw (body_acts (exited v).acts v) (checked_acts (Counted v.body) _ _ _ (count_none v.body) (λ k. count_still v.body (nest _) refl refl))
released_by_acts v (call x n a p c) s = rw (body_acts (judge v (call x n a p c)).acts v) (way_counted s (call_way v x n a p c))
