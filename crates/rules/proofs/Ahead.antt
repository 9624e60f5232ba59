-- The place in a wait queue: over an event whoever keeps waiting keeps its place or comes forward, and comes forward when the first is
-- released. No act moves a task that waits behind the others, and who comes, comes last. Assumes nothing.
use mathlib.Core.Bool.{Bool, true, false, cond, not, ◌&&◌, and-false, false≢true}
use mathlib.Core.List.{List, [], ◌∷◌, ◌++◌}
use mathlib.Core.Logic.{inl, inr, ◌≢◌}
use mathlib.Core.Option.{Option, none}
use mathlib.Core.Path.{◌≡◌, refl, sym, ap, ◌∙◌, subst}
use Prim.Native.Nat.{ℕ, suc, ◌≤◌}
use native.Mathlib.Nat.{le_refl, le_trans}
use native.Mathlib.Omega.{arith}
use lib.Dec.{eqb}
use borrow.Author.Tests.{eqb-true, eq-eqb}
use Rattle.rules.specs.Ids.{keep, times}
use Rattle.rules.specs.Codes.{Code}
use Rattle.rules.specs.State.{Kind, Wait, State, dormant, ready, suspended, absent, waiting, waiting_suspended, Task, Body, task, nobody, wait_of, is_ready, is_waiting}
use Rattle.rules.specs.Places.{waiters, tasks, Item, a_task, same, belongs, waits_on, awaits, Exists}
use Rattle.rules.specs.Events.{Event, Words}
use Rattle.rules.specs.Acts.{Act, start, retire, create, delete, rotate, regrade, wait, release, suspend, resume, wakeups, count, pattern, post, receive, mark, elapse, nest, alarm, with_state, with_wakeups, change, started, released_task, older, after, afters, Move, stay, leave, last, released_move, resumed_move, regraded_move, move}
use Rattle.rules.specs.View.{View, line, without, moved, act, acts}
use Rattle.rules.specs.Verdicts.{Verdict}
use Rattle.rules.specs.Table.{judge}
use Rattle.rules.specs.Sound.{Queue, Sound}
use Rattle.rules.specs.Kernel.{next}
use Rattle.rules.specs.Ahead.{waits_at, before, ahead}
use Rattle.rules.proofs.Ids.{put_either, times_keep}
use Rattle.rules.proofs.States.{waits_by, older_same, released_move_lem, halted_move_lem}
use Rattle.rules.proofs.Fits.{Fits, fits, population_after}
use Rattle.rules.proofs.Lines.{exists_before, line_act}
use Rattle.rules.proofs.Keeps.{Pre}
use Rattle.rules.proofs.Queues.{belongs_stands, queue_moved, body_act}
use Rattle.rules.proofs.Calls.{Steps, released_waits, steps_of_judge}
use Rattle.rules.proofs.Cells.{change_each, map_each, body_acts, Gentle, releases, begins, counts, sets, elapses, rung, AllGentle, Careful-list, nothing, one, several, breaks, marks}
use Rattle.rules.proofs.Clean.{refused, given, waited, CleanEvent, clean_verdict, nests, judge_clean}

-- ---- lists

-- others that are dropped bring nobody back
before_keep : (i : ℕ) (p : ℕ → Bool) (l : List ℕ) → p i ≡ true → before i (keep p l) ≤ before i l
unfolding keep
before_keep i p [] h = le_refl 0
before_keep i p (x ∷ l) h = go (p x) (eqb x i) refl refl (before_keep i p l h)
  where
    go : (s t : Bool) → p x ≡ s → eqb x i ≡ t → before i (keep p l) ≤ before i l → before i (cond s (x ∷ keep p l) (keep p l)) ≤ cond t 0 (suc (before i l))
    go true true d e k = rw e (le_refl 0)
    go true false d e k = rw e (omega arith)
    go false true d e k = absurd (false≢true (sym d ∙ ap p (eqb-true x i e) ∙ h))
    go false false d e k = omega arith

-- nor does who comes behind
before_append : (i : ℕ) (l m : List ℕ) → times i l ≢ 0 → before i (l ++ m) ≡ before i l
unfolding times
before_append i [] m h = absurd (h refl)
before_append i (x ∷ l) m h = go (eqb x i) refl (before_append i l m)
  where
    go : (t : Bool) → eqb x i ≡ t → (times i l ≢ 0 → before i (l ++ m) ≡ before i l) → cond t 0 (suc (before i (l ++ m))) ≡ cond t 0 (suc (before i l))
    go true e k = refl
    go false e k = ap suc (k (λ z. h (rw (e, z))))

-- ---- a line after a move

-- somebody else moves, or nobody
abbrev Passes : ℕ → Move → Type 0
Passes i stay = Unit {0}
Passes i (leave x) = same x (a_task i) ≡ false
Passes i (last x) = same x (a_task i) ≡ false

module _ (c : Body) (k : Kind) (o i : ℕ) (l : List ℕ) (h : times i l ≢ 0) where
  other_left : (x : Item) → same x (a_task i) ≡ false → before i (without x (waiters k o) l) ≤ before i l
  other_left x e = before_keep i (λ j. not (same x (a_task j))) l (ap not e)

  -- whoever goes last comes behind those that are left
  goes_behind : (x : Item) → same x (a_task i) ≡ false → before i (moved c (last x) (waiters k o) l) ≡ before i (without x (waiters k o) l)
  unfolding moved
  goes_behind x e = before_append i (without x (waiters k o) l) _ (rw (times_keep i (λ j. not (same x (a_task j))) l, e) h)

  moved_before : (m : Move) → Passes i m → before i (moved c m (waiters k o) l) ≤ before i l
  unfolding moved
  moved_before stay p = le_refl _
  moved_before (leave x) p = other_left x p
  moved_before (last x) p = rw (goes_behind x p) (other_left x p)

-- the first is released, and it is another one
module _ (c : Body) (k : Kind) (o i x : ℕ) (l : List ℕ) (h : times i (x ∷ l) ≢ 0) (e : eqb x i ≡ false) where
  first_left : suc (before i (without (a_task x) (waiters k o) (x ∷ l))) ≤ before i (x ∷ l)
  unfolding keep
  first_left = rw (eq-eqb x x refl, e) (omega (arith, before_keep i (λ j. not (eqb x j)) l (ap not e)))

  first_gone : (s : State) → is_waiting s ≡ true → suc (before i (moved c (released_move s (a_task x)) (waiters k o) (x ∷ l))) ≤ before i (x ∷ l)
  unfolding moved
  first_gone dormant w = absurd (false≢true w)
  first_gone absent w = absurd (false≢true w)
  first_gone ready w = absurd (false≢true w)
  first_gone suspended w = absurd (false≢true w)
  first_gone (waiting y) w = rw (goes_behind c k o i (x ∷ l) h (a_task x) e) first_left
  first_gone (waiting_suspended y) w = first_left

-- ---- who goes last does not wait, or waits no more

ready_awake : (s : State) → is_ready s ≡ true → is_waiting s ≡ false
ready_awake dormant e = refl
ready_awake absent e = refl
ready_awake ready e = refl
ready_awake suspended e = refl
ready_awake (waiting w) e = absurd (false≢true e)
ready_awake (waiting_suspended w) e = absurd (false≢true e)

pub awaits_waits : (s : State) (k : Kind) (o : ℕ) → awaits s k o ≡ true → is_waiting s ≡ true
awaits_waits s k o e = waits_by (λ x. waits_on x k o) refl s e

module _ (k : Kind) (o i : ℕ) where
  module _ (b : Body) (w : awaits (task b i).state k o ≡ true) where
    -- a task that does not wait is another one
    another : (j : ℕ) → is_waiting (task b j).state ≡ false → eqb j i ≡ false
    another j n = go (eqb j i) refl
      where
        go : (t : Bool) → eqb j i ≡ t → t ≡ false
        go true e = absurd (false≢true (sym n ∙ ap (λ (x : ℕ). is_waiting (task b x).state) (eqb-true j i e) ∙ awaits_waits (task b i).state k o w))
        go false e = refl

    -- so is one that waits for nothing after a change
    free_another : (f : Task → Task) → ((t : Task) → wait_of (f t).state ≡ none) → (j : ℕ) → awaits (task (change f j b) i).state k o ≡ true → eqb j i ≡ false
    free_another f n j u = go (eqb j i) refl
      where
        free : wait_of (task (change f j b) j).state ≡ none
        free = elim (put_either b.tasks j (f (task b j)) nobody)
            [ inl e ↦ ap (λ (t : Task). wait_of t.state) e ∙ n (task b j) | inr e ↦ ap (λ (t : Task). wait_of t.state) e ]

        go : (t : Bool) → eqb j i ≡ t → t ≡ false
        go true e =
            absurd (false≢true (ap (λ (x : Option Wait). waits_on x k o) (sym free)
            ∙ ap (λ (x : ℕ). awaits (task (change f j b) x).state k o) (eqb-true j i e) ∙ u))
        go false e = refl

    pub unreleased : (j : ℕ) (c : Code) (y : ℕ) → awaits (task (after (release j c y) b) i).state k o ≡ true → eqb j i ≡ false
    unfolding after
    unreleased j c y u = free_another (released_task c y) (released_waits c y) j u

    abbrev NotLast : Move → Type 0
    NotLast stay = Unit {0}
    NotLast (leave x) = Unit {0}
    NotLast (last x) = same x (a_task i) ≡ false

    regraded_not : (j : ℕ) (s : State) → (task b j).state ≡ s → NotLast (regraded_move s (a_task j))
    regraded_not j dormant e = tt
    regraded_not j absent e = tt
    regraded_not j ready e = another j (ap is_waiting e)
    regraded_not j suspended e = tt
    regraded_not j (waiting x) e = tt
    regraded_not j (waiting_suspended x) e = tt

    resumed_not : (j : ℕ) (s : State) → (task b j).state ≡ s → NotLast (resumed_move s (a_task j))
    resumed_not j dormant e = tt
    resumed_not j absent e = tt
    resumed_not j ready e = tt
    resumed_not j suspended e = another j (ap is_waiting e)
    resumed_not j (waiting x) e = tt
    resumed_not j (waiting_suspended x) e = tt

    marked_not : (q n : ℕ) (t : Bool) → NotLast (move b (mark q n t))
    unfolding move
    marked_not q n true = refl
    marked_not q n false = tt

    not_last : (a : Act) → Pre b a → awaits (task (after a b) i).state k o ≡ true → NotLast (move b a)
    unfolding move after
    not_last (start j) p u = free_another started (λ t. refl) j u
    not_last (retire j) p u = tt
    not_last (create j n) p u = tt
    not_last (delete j) p u = tt
    not_last (rotate j) p u = another j (ready_awake (task b j).state p)
    not_last (regrade j n) p u = regraded_not j (task b j).state refl
    not_last (wait j y) p u = another j (ready_awake (task b j).state p.2)
    not_last (release j c y) p u = released_move_lem NotLast (a_task j) tt tt (unreleased j c y u) (task b j).state
    not_last (suspend j) p u = halted_move_lem NotLast (a_task j) tt tt (task b j).state
    not_last (resume j) p u = resumed_not j (task b j).state refl
    not_last (wakeups j n) p u = tt
    not_last (count j n) p u = tt
    not_last (pattern j n) p u = tt
    not_last (post j m) p u = refl
    not_last (receive j) p u = tt
    not_last (mark q n t) p u = marked_not q n t
    not_last elapse p u = tt
    not_last (nest h) p u = tt
    not_last (alarm n c x) p u = tt

    -- nor does one leave that waits before and after
    passes : (c : Body) (m : Move) → awaits (task c i).state k o ≡ true → Fits b c m → NotLast m → Passes i m
    unfolding belongs
    passes c stay u f n = tt
    passes c (leave x) u f n = go (same x (a_task i)) (sym u ∙ f (waiters k o) i)
      where
        go : (t : Bool) → true ≡ (awaits (task b i).state k o && not t) → t ≡ false
        go true e = absurd (false≢true (sym (e ∙ and-false (awaits (task b i).state k o))))
        go false e = refl
    passes c (last x) u f n = n

  -- ---- acts

  -- the line of the object is a queue: whoever waits there stands there once
  pub record Lined (v : View) : Type 0 where
    pub there : Exists v.body.store (waiters k o)
    pub queue : Queue v.body (waiters k o) (line v (waiters k o))

  pub stands : (v : View) → Lined v → waits_at v k o i ≡ true → times i (line v (waiters k o)) ≢ 0
  unfolding belongs
  stands v q w z = let d : ◌≡◌ {A = ℕ} 0 1 = sym z ∙ belongs_stands v.body (waiters k o) (line v (waiters k o)) q.queue i w in omega arith

  lined_act : (a : Act) (v : View) → Lined v → Lined (act a v)
  lined_act a v q = record {
    there = rw (body_act a v) (exists_before a v.body (waiters k o) q.there);
    queue = rw (body_act a v, line_act a v (waiters k o) q.there) (queue_moved v.body (after a v.body) (move v.body a) (waiters k o) (line v (waiters k o)) (fits a v.body) (population_after a v.body tasks) q.queue);
  }

  -- one act
  act_ahead : (a : Act) (v : View) → Lined v → Pre v.body a → waits_at v k o i ≡ true → awaits (task (after a v.body) i).state k o ≡ true → ahead (act a v) k o i ≤ ahead v k o i
  act_ahead a v q p w u =
      rw (line_act a v (waiters k o) q.there) (moved_before (after a v.body) k o i (line v (waiters k o)) (stands v q w) (move v.body a)
      (passes v.body w (after a v.body) (move v.body a) u (fits a v.body) (not_last v.body w a p u)))

  -- the first of the line is released: one place forward
  pub first_released : (v : View) → Lined v → (x : ℕ) (l : List ℕ) → line v (waiters k o) ≡ x ∷ l → is_waiting (task v.body x).state ≡ true → (c : Code) (y : ℕ)
      → waits_at v k o i ≡ true → awaits (task (after (release x c y) v.body) i).state k o ≡ true → suc (ahead (act (release x c y) v) k o i) ≤ ahead v k o i
  unfolding move
  first_released v q x l e f c y w u =
      rw (line_act (release x c y) v (waiters k o) q.there, e)
      (first_gone (after (release x c y) v.body) k o i x l (subst (λ (m : List ℕ). times i m ≢ 0) e (stands v q w)) (unreleased v.body w x c y u) (task v.body x).state f)

  -- no act of a list puts a task into a wait
  abbrev Back : Task → Task → Type 0
  Back t u = awaits u.state k o ≡ true → awaits t.state k o ≡ true

  gentle_back : {a : Act} (b : Body) → Gentle b a → Back (task b i) (task (after a b) i)
  unfolding after
  gentle_back b (releases j c y n) =
      change_each Back (λ t e. e) (released_task c y) j b (λ t d e. absurd (false≢true (ap (λ (x : Option Wait). waits_on x k o) (sym (released_waits c y t)) ∙ e))) i
  gentle_back b (begins j d) = change_each Back (λ t e. e) started j b (λ t d e. absurd (false≢true e)) i
  gentle_back b (counts j n) = change_each Back (λ t e. e) (with_wakeups n) j b (λ t d e. e) i
  gentle_back b (sets f n) = λ e. e
  gentle_back b elapses = map_each Back (λ t e. e) (λ t. with_state (older t.state) t) (λ t e. sym ((older_same t.state).awaits k o) ∙ e) b.tasks i nobody
  gentle_back b (rung n c x) = λ e. e

  list_back : (l : List Act) (b : Body) → AllGentle b l → Back (task b i) (task (afters l b) i)
  unfolding afters
  list_back [] b g = λ e. e
  list_back (a ∷ l) b g = λ e. gentle_back b g.0 (list_back l (after a b) g.1 e)

  list_ahead : (l : List Act) (v : View) → AllGentle v.body l → Steps v.body l → Lined v → awaits (task (afters l v.body) i).state k o ≡ true → ahead (acts l v) k o i ≤ ahead v k o i
  unfolding afters acts
  list_ahead [] v g p q u = le_refl _
  list_ahead (a ∷ l) v g p q u =
      let m : awaits (task (after a v.body) i).state k o ≡ true = list_back l (after a v.body) g.1 u in
      le_trans (list_ahead l (act a v) (rw (body_act a v) g.1) (rw (body_act a v) p.1) (lined_act a v q) (rw (body_act a v) u))
      (act_ahead a v q p.0 (gentle_back v.body g.0 m) m)

  -- ---- an event

  module _ (v : View) (q : Lined v) (w : waits_at v k o i ≡ true) where
    one_ahead : (a : Act) → Steps v.body (a ∷ []) → awaits (task (afters (a ∷ []) v.body) i).state k o ≡ true → ahead (acts (a ∷ []) v) k o i ≤ ahead v k o i
    unfolding acts afters
    one_ahead a p u = act_ahead a v q p.0 w u

    acts_ahead : (l : List Act) → Careful-list v.body l → Steps v.body l → awaits (task (afters l v.body) i).state k o ≡ true → ahead (acts l v) k o i ≤ ahead v k o i
    unfolding acts
    acts_ahead l nothing p u = le_refl _
    acts_ahead l (one {a} g) p u = one_ahead a p u
    acts_ahead l (several m g) p u = list_ahead m v g p q u
    acts_ahead l (breaks j) p u = one_ahead _ p u
    acts_ahead l (marks y n t) p u = one_ahead _ p u

    verdict_ahead : (r : Verdict) → CleanEvent v.body r → Steps v.body r.acts → awaits (task (afters r.acts v.body) i).state k o ≡ true
        → ahead (acts r.acts v) k o i ≤ ahead v k o i
    verdict_ahead r (clean_verdict (refused c n)) p u = acts_ahead [] nothing p u
    verdict_ahead r (clean_verdict (given x y l g)) p u = acts_ahead l g p u
    verdict_ahead r (clean_verdict (waited j y)) p u = one_ahead (wait j y) p u
    verdict_ahead r (nests h) p u = one_ahead (nest h) p u

    -- whoever keeps waiting does not fall back
    pub next_ahead : Sound v → (e : Event) → Words e → waits_at (next v e) k o i ≡ true → ahead (next v e) k o i ≤ ahead v k o i
    unfolding next
    next_ahead s e n u = verdict_ahead (judge v e) (judge_clean v e) (steps_of_judge v e s n) (rw (body_acts (judge v e).acts v) at u)
