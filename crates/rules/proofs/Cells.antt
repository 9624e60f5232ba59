-- Only release and start change a cell: a task whose cell an event changed was released or started, as the states before and after
-- tell. And only entry and return change the handlers. Assumes nothing.
use mathlib.Core.Bool.{Bool, true, false, not, cond, ◌&&◌, ◌||◌, and-false, false≢true}
use mathlib.Core.List.{List, [], ◌∷◌, ◌++◌, map}
use mathlib.Core.Logic.{◌⊎◌, inl, inr, ◌≢◌}
use mathlib.Core.Path.{◌≡◌, refl, sym, ap, ◌∙◌}
use Prim.Native.Nat.{ℕ, zero, suc}
use native.Mathlib.Omega.{arith}
use lib.ListN.{get_or, set}
use Rattle.rules.specs.Ids.{of, put}
use Rattle.rules.specs.Codes.{Code, OK, E-TMOUT, E-RLWAI}
use Rattle.rules.specs.State.{Wait, Setting, State, dormant, ready, suspended, absent, waiting, waiting_suspended, Task, Body, task, nobody, wait_of, wish, is_dormant, is_absent, is_waiting, is_freed}
use Rattle.rules.specs.Acts.{Act, start, retire, create, delete, rotate, regrade, wait, release, suspend, resume, wakeups, count, pattern, post, receive, mark, elapse, alarm, change, started, retired, created, freed, released_task, halted, resumed, older, with_state, with_priority, with_wakeups, after, afters}
use Rattle.rules.specs.View.{View, act, acts}
use Rattle.rules.specs.Objects.{met, left, serve_flag}
use Rattle.rules.specs.Alarms.{rings}
use Rattle.rules.specs.Time.{endings, timeout, lapse}
use Rattle.rules.specs.Answers.{is_released}
use Rattle.rules.specs.Releases.{is_release}
use Rattle.rules.specs.Broken.{is_deleted, is_fresh}
use Rattle.rules.proofs.States.{halted_same, resumed_same, older_same}
use Rattle.rules.proofs.Firings.{Along, along_append, FiringAct, starts, wakes, stores, keeps, rings_along}

-- ---- what an act makes of each task, task by task

-- what a reflexive relation says of the task that is changed, it says of every task
module _ (R : Task → Task → Type 0) (same : (t : Task) → R t t) where
  set_each : (f : Task → Task) (l : List Task) (j i : ℕ) (d : Task) → ((t : Task) → t ≡ get_or l j d → R t (f t)) → R (get_or l i d) (get_or (set l j (f (get_or l j d))) i d)
  set_each f [] j i d h = same d
  set_each f (x ∷ l) zero zero d h = h x refl
  set_each f (x ∷ l) zero (suc i) d h = same _
  set_each f (x ∷ l) (suc j) zero d h = same x
  set_each f (x ∷ l) (suc j) (suc i) d h = set_each f l j i d h

  put_each : (f : Task → Task) (l : List Task) (j i : ℕ) (d : Task) → ((t : Task) → t ≡ of l j d → R t (f t)) → R (of l i d) (of (put l j (f (of l j d))) i d)
  put_each f l zero i d h = same _
  put_each f l (suc j) zero d h = same d
  put_each f l (suc j) (suc i) d h = set_each f l j i d h

  pub change_each : (f : Task → Task) (j : ℕ) (b : Body) → ((t : Task) → t ≡ task b j → R t (f t)) → (i : ℕ) → R (task b i) (task (change f j b) i)
  change_each f j b h i = put_each f b.tasks j i nobody h

pub map_each : (R : Task → Task → Type 0) → ((t : Task) → R t t) → (f : Task → Task) → ((t : Task) → R t (f t)) → (l : List Task) (i : ℕ) (d : Task) → R (of l i d) (of (map f l) i d)
map_each R same f h l zero d = same d
map_each R same f h l (suc i) d = go l i
  where
    go : (l : List Task) (i : ℕ) → R (get_or l i d) (get_or (map f l) i d)
    go [] i = same d
    go (x ∷ l) zero = h x
    go (x ∷ l) (suc i) = go l i

-- the body after a verdict's acts
pub body_acts : (l : List Act) (v : View) → (acts l v).body ≡ afters l v.body
unfolding acts act afters
body_acts [] v = refl
body_acts (a ∷ l) v = body_acts l (act a v)

pub acts_join : (l m : List Act) (v : View) → acts (l ++ m) v ≡ acts m (acts l v)
unfolding acts
acts_join [] m v = refl
acts_join (a ∷ l) m v = acts_join l m (act a v)

-- ---- the cell is as it was, or the task was released or started, or is not there after

abbrev pub Kept : Task → Task → Type 0
Kept t u = (u.cell ≡ t.cell) ⊎ ((is_fresh t.state u.state ≡ true) ⊎ (is_absent u.state ≡ true))

kept_same : (t : Task) → Kept t t
kept_same t = inl refl

-- it waits or is dormant
abbrev pub at_rest : State → Bool
at_rest s = is_waiting s || is_dormant s

pub rest_tells : (s : State) → at_rest s ≡ true → is_freed s ≡ false
rest_tells dormant e = refl
rest_tells absent e = absurd (false≢true e)
rest_tells ready e = absurd (false≢true e)
rest_tells suspended e = absurd (false≢true e)
rest_tells (waiting w) e = refl
rest_tells (waiting_suspended w) e = refl

-- For lists of acts: nothing has changed but what does not matter here, or the task was released or started.
pub data Mild (t u : Task) : Type 0 where
  untouched : u.cell ≡ t.cell → is_waiting u.state ≡ is_waiting t.state → is_freed u.state ≡ is_freed t.state → is_dormant u.state ≡ is_dormant t.state → Mild t u
  let_go : at_rest t.state ≡ true → is_freed u.state ≡ true → Mild t u

pub mild_same : (t : Task) → Mild t t
mild_same t = untouched refl refl refl refl

pub mild_then : {t u w : Task} → Mild t u → Mild u w → Mild t w
mild_then (untouched a b c d) (untouched a' b' c' d') = untouched (a' ∙ a) (b' ∙ b) (c' ∙ c) (d' ∙ d)
mild_then (untouched a b c d) (let_go x y) = let_go (rw (b, d) at x) y
mild_then (let_go x y) (untouched a b c d) = let_go x (c ∙ y)
mild_then {u} (let_go x y) (let_go x' y') = absurd (false≢true (sym (rest_tells u.state x') ∙ y))

fresh_by : (s r : State) → at_rest s ≡ true → is_freed r ≡ true → is_fresh s r ≡ true
fresh_by dormant r e f = rw f
fresh_by absent r e f = absurd (false≢true e)
fresh_by ready r e f = absurd (false≢true e)
fresh_by suspended r e f = absurd (false≢true e)
fresh_by (waiting w) r e f = rw f
fresh_by (waiting_suspended w) r e f = rw f

mild_kept : {t u : Task} → Mild t u → Kept t u
mild_kept (untouched a b c d) = inl a
mild_kept {t} {u} (let_go x y) = inr (inl (fresh_by t.state u.state x y))

released_mild : (c : Code) (w : ℕ) (t : Task) → Mild t (released_task c w t)
released_mild c w t = go t.state refl
  where
    as_was : is_waiting t.state ≡ false → Mild t (released_task c w t)
    as_was e = rw e (mild_same t)

    gone : is_waiting t.state ≡ true → is_freed (freed t.state) ≡ true → Mild t (released_task c w t)
    gone e f = rw e (let_go (rw e) f)

    go : (s : State) → t.state ≡ s → Mild t (released_task c w t)
    go dormant e = as_was (rw e)
    go absent e = as_was (rw e)
    go ready e = as_was (rw e)
    go suspended e = as_was (rw e)
    go (waiting x) e = gone (rw e) (rw e)
    go (waiting_suspended x) e = gone (rw e) (rw e)

older_mild : (t : Task) → Mild t (with_state (older t.state) t)
older_mild t = untouched refl (older_same t.state).waiting (older_same t.state).freed (older_same t.state).dormant

freed_moves : (s : State) → is_freed s ≡ true → ((is_waiting s && true) ≡ false) × ((is_dormant s && true) ≡ false)
freed_moves dormant e = absurd (false≢true e)
freed_moves absent e = absurd (false≢true e)
freed_moves ready e = (refl, refl)
freed_moves suspended e = (refl, refl)
freed_moves (waiting w) e = absurd (false≢true e)
freed_moves (waiting_suspended w) e = absurd (false≢true e)

pub dormant_rests : (s : State) → is_dormant s ≡ true → at_rest s ≡ true
dormant_rests dormant e = refl
dormant_rests absent e = absurd (false≢true e)
dormant_rests ready e = absurd (false≢true e)
dormant_rests suspended e = absurd (false≢true e)
dormant_rests (waiting w) e = refl
dormant_rests (waiting_suspended w) e = refl

-- the acts of which a list may be made; none breaks a wait off
pub data Gentle (b : Body) : Act → Type 0 where
  releases : (i : ℕ) (c : Code) (w : ℕ) → c ≢ E-RLWAI → Gentle b (release i c w)
  begins : (i : ℕ) → is_dormant (task b i).state ≡ true → Gentle b (start i)
  counts : (i n : ℕ) → Gentle b (wakeups i n)
  sets : (f n : ℕ) → Gentle b (pattern f n)
  elapses : Gentle b elapse
  rung : (k : ℕ) (c : Code) (s : Setting) → Gentle b (alarm k c s)

pub gentle_mild : {a : Act} (b : Body) → Gentle b a → (i : ℕ) → Mild (task b i) (task (after a b) i)
unfolding after
gentle_mild b (releases j c w n) i = change_each Mild mild_same (released_task c w) j b (λ t e. released_mild c w t) i
gentle_mild b (begins j d) i = change_each Mild mild_same started j b (λ t e. let_go (dormant_rests t.state (rw e d)) refl) i
gentle_mild b (counts j n) i = change_each Mild mild_same (with_wakeups n) j b (λ t e. untouched refl refl refl refl) i
gentle_mild b (sets f n) i = mild_same _
gentle_mild b elapses i = map_each Mild mild_same _ older_mild b.tasks i nobody
gentle_mild b (rung k c s) i = mild_same _

abbrev pub AllGentle : Body → List Act → Type 0
AllGentle b l = Along Gentle b l

pub list_mild : (l : List Act) (b : Body) → AllGentle b l → (i : ℕ) → Mild (task b i) (task (afters l b) i)
unfolding afters
list_mild [] b g i = mild_same _
list_mild (a ∷ l) b g i = mild_then (gentle_mild b g.0 i) (list_mild l (after a b) g.1 i)

pub served_whole : OK ≢ E-RLWAI
served_whole e = let z : ◌≡◌ {A = ℕ} 0 1 = cc in omega arith

timeout_whole : E-TMOUT ≢ E-RLWAI
timeout_whole e = let z : ◌≡◌ {A = ℕ} 0 1 = cc in omega arith

-- set_flg and the tick are such lists
pub flag_gentle : (b c : Body) (f have : ℕ) (l : List ℕ) → AllGentle c (serve_flag b f have l)
flag_gentle b c f have [] = (sets f have, tt)
flag_gentle b c f have (x ∷ l) =
    go (met have (wish (wait_of (task b x).state)).0 (wish (wait_of (task b x).state)).1)
    (flag_gentle b (after (release x OK have) c) f (left have (wish (wait_of (task b x).state)).1) l) (flag_gentle b c f have l)
  where
    go : (t : Bool) → AllGentle (after (release x OK have) c) (serve_flag b f (left have (wish (wait_of (task b x).state)).1) l) → AllGentle c (serve_flag b f have l)
        → AllGentle c (cond t (release x OK have ∷ serve_flag b f (left have (wish (wait_of (task b x).state)).1) l) (serve_flag b f have l))
    go true g h = (releases x OK have served_whole, g)
    go false g h = h

pub lapse_list : (l : List ℕ) (b : Body) → AllGentle b (map timeout l ++ elapse ∷ [])
lapse_list [] b = (elapses, tt)
lapse_list (i ∷ l) b = (releases i E-TMOUT 0 timeout_whole, lapse_list l (after (timeout i) b))

pub lapse_gentle : (b : Body) → AllGentle b (lapse b)
lapse_gentle b = lapse_list (endings b) b

pub firing_gentle : (b : Body) (a : Act) → FiringAct b a → Gentle b a
firing_gentle b a (starts i d) = begins i d
firing_gentle b a (wakes i s) = releases i OK 0 served_whole
firing_gentle b a (stores i x d s m) = counts i _
firing_gentle b a (keeps k c g f) = rung k c _

pub tick_gentle : (b : Body) (n : ℕ) → AllGentle b (lapse b ++ rings (afters (lapse b) b) n 1)
tick_gentle b n = along_append Gentle (lapse b) _ b (lapse_gentle b) (rings_along Gentle firing_gentle n 1 (afters (lapse b) b))

-- ---- the acts that let nobody go, and leave the handlers, the counter and the blocks' marks alone

pub data Simple : Act → Type 0 where
  of_retire : {i : ℕ} → Simple (retire i)
  of_create : {i p : ℕ} → Simple (create i p)
  of_delete : {i : ℕ} → Simple (delete i)
  of_rotate : {i : ℕ} → Simple (rotate i)
  of_regrade : {i p : ℕ} → Simple (regrade i p)
  of_wait : {i : ℕ} {w : Wait} → Simple (wait i w)
  of_suspend : {i : ℕ} → Simple (suspend i)
  of_resume : {i : ℕ} → Simple (resume i)
  of_wakeups : {i n : ℕ} → Simple (wakeups i n)
  of_count : {s n : ℕ} → Simple (count s n)
  of_pattern : {f n : ℕ} → Simple (pattern f n)
  of_post : {j m : ℕ} → Simple (post j m)
  of_receive : {j : ℕ} → Simple (receive j)

-- of a task: it keeps its cell and is not deleted, or it is; and it is not let go
pub record Calm (t u : Task) : Type 0 where
  pub cell : ((u.cell ≡ t.cell) × (is_deleted t.state u.state ≡ false)) ⊎ (u ≡ nobody)
  pub freed : is_freed u.state ≡ true → is_freed t.state ≡ true

-- another state, dormant or waiting; or one that is as near to being let go or deleted as before
calm_rest : (t u : Task) → u.cell ≡ t.cell → is_absent u.state ≡ false → is_freed u.state ≡ false → Calm t u
calm_rest t u c n f = record { cell = inl (c, rw n (and-false (not (is_absent t.state)))); freed = λ e. absurd (false≢true (sym f ∙ e)) }

calm_near : (t u : Task) → u.cell ≡ t.cell → is_absent u.state ≡ is_absent t.state → is_freed u.state ≡ is_freed t.state → Calm t u
calm_near t u c n f = record { cell = inl (c, rw n (never (is_absent t.state))); freed = λ e. sym f ∙ e }
  where
    never : (x : Bool) → (not x && x) ≡ false
    never true = refl
    never false = refl

calm_same : (t : Task) → Calm t t
calm_same t = calm_near t t refl refl refl

module _ (b : Body) (f : Task → Task) (j : ℕ) where
  changed : ((t : Task) → Calm t (f t)) → (i : ℕ) → Calm (task b i) (task (change f j b) i)
  changed h i = change_each Calm calm_same f j b (λ t e. h t) i

pub simple_calm : {a : Act} (b : Body) → Simple a → (i : ℕ) → Calm (task b i) (task (after a b) i)
unfolding after
simple_calm b (of_retire {i = j}) = changed b retired j (λ t. calm_rest t (retired t) refl refl refl)
simple_calm b (of_create {i = j} {p}) = changed b (created p) j (λ t. calm_rest t (created p t) refl refl refl)
simple_calm b (of_delete {i = j}) = changed b (λ t. nobody) j (λ t. record { cell = inr refl; freed = λ e. absurd (false≢true e) })
simple_calm b of_rotate = λ i. calm_same (task b i)
simple_calm b (of_regrade {i = j} {p}) = changed b (with_priority p) j (λ t. calm_near t (with_priority p t) refl refl refl)
simple_calm b (of_wait {i = j} {w}) = changed b (with_state (waiting w)) j (λ t. calm_rest t (with_state (waiting w) t) refl refl refl)
simple_calm b (of_suspend {i = j}) = changed b (λ t. with_state (halted t.state) t) j (λ t. let h = halted_same t.state in calm_near t (with_state (halted t.state) t) refl h.3 h.2)
simple_calm b (of_resume {i = j}) = changed b (λ t. with_state (resumed t.state) t) j (λ t. let h = resumed_same t.state in calm_near t (with_state (resumed t.state) t) refl h.3 h.2)
simple_calm b (of_wakeups {i = j} {n}) = changed b (with_wakeups n) j (λ t. calm_near t (with_wakeups n t) refl refl refl)
simple_calm b of_count = λ i. calm_same (task b i)
simple_calm b of_pattern = λ i. calm_same (task b i)
simple_calm b of_post = λ i. calm_same (task b i)
simple_calm b of_receive = λ i. calm_same (task b i)

pub simple_leaves : {a : Act} (b : Body) → Simple a
    → ((after a b).handlers ≡ b.handlers) × ((after a b).counter ≡ b.counter) × ((after a b).store.pools ≡ b.store.pools) × (is_release a ≡ false)
unfolding after
simple_leaves b of_retire = (refl, refl, refl, refl)
simple_leaves b of_create = (refl, refl, refl, refl)
simple_leaves b of_delete = (refl, refl, refl, refl)
simple_leaves b of_rotate = (refl, refl, refl, refl)
simple_leaves b of_regrade = (refl, refl, refl, refl)
simple_leaves b of_wait = (refl, refl, refl, refl)
simple_leaves b of_suspend = (refl, refl, refl, refl)
simple_leaves b of_resume = (refl, refl, refl, refl)
simple_leaves b of_wakeups = (refl, refl, refl, refl)
simple_leaves b of_count = (refl, refl, refl, refl)
simple_leaves b of_pattern = (refl, refl, refl, refl)
simple_leaves b of_post = (refl, refl, refl, refl)
simple_leaves b of_receive = (refl, refl, refl, refl)

calm_kept : {t u : Task} → Calm t u → Kept t u
calm_kept k = elim k.cell [ inl c ↦ inl c.0 | inr e ↦ inr (inr (ap (λ (x : Task). is_absent x.state) e)) ]

-- who waits or is dormant is not let go
calm_rests : {t u : Task} → Calm t u → ((is_waiting t.state && is_freed u.state) ≡ false) × ((is_dormant t.state && is_freed u.state) ≡ false)
calm_rests {t} {u} k = go (is_freed u.state) k.freed
  where
    go : (f : Bool) → (f ≡ true → is_freed t.state ≡ true) → ((is_waiting t.state && f) ≡ false) × ((is_dormant t.state && f) ≡ false)
    go false h = (and-false (is_waiting t.state), and-false (is_dormant t.state))
    go true h = freed_moves t.state (h refl)

pub calm_unreleased : {t u : Task} → Calm t u → is_released t.state u.state ≡ false
calm_unreleased k = (calm_rests k).0

-- it has its old cell and is not fresh, or it is deleted
pub calm_stays : {t u : Task} → Calm t u → ((u.cell ≡ t.cell) × (is_fresh t.state u.state ≡ false)) ⊎ (u ≡ nobody)
calm_stays k = let r = calm_rests k in elim k.cell [ inl c ↦ inl (c.0, rw (r.0, r.1, c.1)) | inr e ↦ inr e ]

-- ---- every verdict

-- no act; a simple one; a list of gentle ones; a wait that is broken off; a block's mark
pub data Careful-list (b : Body) : List Act → Type 0 where
  nothing : Careful-list b []
  one : {a : Act} → Simple a → Careful-list b (a ∷ [])
  several : (l : List Act) → AllGentle b l → Careful-list b l
  breaks : (i : ℕ) → Careful-list b (release i E-RLWAI 0 ∷ [])
  marks : (p k : ℕ) (t : Bool) → Careful-list b (mark p k t ∷ [])

-- the handlers stay
handlers_after : {a : Act} (b : Body) → Gentle b a → (after a b).handlers ≡ b.handlers
unfolding after
handlers_after b (releases i c w n) = refl
handlers_after b (begins i d) = refl
handlers_after b (counts i n) = refl
handlers_after b (sets f n) = refl
handlers_after b elapses = refl
handlers_after b (rung k c s) = refl

handlers_gentle : (l : List Act) (b : Body) → AllGentle b l → (afters l b).handlers ≡ b.handlers
unfolding afters
handlers_gentle [] b g = refl
handlers_gentle (a ∷ l) b g = handlers_gentle l (after a b) g.1 ∙ handlers_after b g.0

pub handlers_kept : (b : Body) (l : List Act) → Careful-list b l → (afters l b).handlers ≡ b.handlers
unfolding afters after
handlers_kept b l nothing = refl
handlers_kept b l (one g) = (simple_leaves b g).0
handlers_kept b l (several m g) = handlers_gentle m b g
handlers_kept b l (breaks i) = refl
handlers_kept b l (marks p k t) = refl

pub list_kept : (b : Body) (l : List Act) → Careful-list b l → (i : ℕ) → Kept (task b i) (task (afters l b) i)
unfolding afters after
list_kept b l nothing i = inl refl
list_kept b l (one g) i = calm_kept (simple_calm b g i)
list_kept b l (several m g) i = mild_kept (list_mild m b g i)
list_kept b l (breaks j) i = change_each Kept kept_same (released_task E-RLWAI 0) j b (λ t e. mild_kept (released_mild E-RLWAI 0 t)) i
list_kept b l (marks p k t) i = inl refl
