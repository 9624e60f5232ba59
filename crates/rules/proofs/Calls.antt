-- Every event keeps a sound state sound: it is a list of acts, each of which finds what it needs. Of a call by the ways in which it ends.
use mathlib.Core.Bool.{Bool, true, false, cond, not, false≢true}
use mathlib.Core.List.{List, [], ◌∷◌, ◌++◌, map}
use mathlib.Core.Logic.{◌⊎◌, inl, inr, ◌≢◌}
use mathlib.Core.Option.{Option, none, some}
use mathlib.Core.Path.{◌≡◌, refl, sym, ap, ◌∙◌, subst}
use Prim.Native.Nat.{ℕ, zero, suc, ◌+◌, ◌^◌, ◌<◌}
use native.Mathlib.Nat.{mod-lt}
use native.Mathlib.Omega.{arith}
use lib.Dec.{eqb, lit<}
use lib.IntN.{ℤ}
use lib.ListN.{length}
use borrow.Author.Tests.{eqb-true, leb-false}
use Rattle.rules.specs.Ids.{from, ids, In, once, times}
use Rattle.rules.specs.Codes.{Code, OK, E-TMOUT}
use Rattle.rules.specs.State.{Kind, flag, pool, Wait, State, dormant, ready, suspended, absent, waiting, waiting_suspended, Task, depth, Setting, unset, due, no_alarm, Counter, alarm_of, Body, task, nobody, objects, wait_of, is_dormant, is_absent, is_waiting, sleeps, wish}
use Rattle.rules.specs.Places.{waiters, free_in, many, population, belongs}
use Rattle.rules.specs.Setup.{Entry, Setup}
use Rattle.rules.specs.Events.{Event, tick, enter, exit, call, Word, Words, nat}
use Rattle.rules.specs.Acts.{Act, start, release, mark, elapse, after, afters, started, freed, released_task, with_state, with_cell}
use Rattle.rules.specs.View.{View, line, act, acts}
use Rattle.rules.specs.Verdicts.{Verdict}
use Rattle.rules.specs.Objects.{met, left, serve_flag}
use Rattle.rules.specs.Alarms.{fires, again, rings}
use Rattle.rules.specs.Time.{ending, endings, timeout, lapse, ticked}
use Rattle.rules.specs.Handling.{entered, exited}
use Rattle.rules.specs.Table.{judge}
use Rattle.rules.specs.Sound.{Known, SettingFits, SoundBody, Sound}
use Rattle.rules.specs.Kernel.{frees, starts, begins, next}
use Rattle.rules.proofs.Ids.{length_put, of_put_other, put_all, put_either, tested, times_keep, times_ids}
use Rattle.rules.proofs.Keeps.{NoneAt, Asks, Pre, Names, Ready, asks_waits, sound_after}
use Rattle.rules.proofs.Queues.{sound_act, body_act, first_belongs, none_waits, belongs_stands}
use Rattle.rules.proofs.Handling.{inner_fits, outer_fits}
use Rattle.rules.proofs.Firings.{Along, along_append, along_map, along_both, along_keeps, FiringAct, starts as begun, wakes, stores, keeps, rings_acts}
use Rattle.rules.proofs.States.{there_by}
use Rattle.rules.proofs.Judge.{checked_acts}
use Rattle.rules.proofs.Fits.{in_range_lem}
use Rattle.rules.proofs.Waiters.{nat_small, asks_well, left_unmet, left_small}
use Rattle.rules.proofs.Ways.{Finds, simple, rouses, breaks, serves, sets, Way, refused, looked, acted, waited, walked, granted, freed as block-freed, handed, call_way}

-- ---- a list of acts, each of which finds what it needs

abbrev pub Steps : Body → List Act → Type 0
Steps = Along Pre

pub sound_acts : (l : List Act) (v : View) → Sound v → Steps v.body l → Sound (acts l v)
unfolding acts
sound_acts [] v h k = h
sound_acts (a ∷ l) v h k = sound_acts l (act a v) (sound_act a v h k.0) (rw (body_act a v) k.1)

pub sound_afters : (l : List Act) (b : Body) → SoundBody b → Steps b l → SoundBody (afters l b)
unfolding afters
sound_afters [] b h s = h
sound_afters (a ∷ l) b h s = sound_afters l (after a b) (sound_after a b h s.0) s.1

-- all tasks are there
abbrev pub AllThere : Body → Type 0
AllThere b = (i : ℕ) → In i (length b.tasks) → is_absent (task b i).state ≡ false

pub start_there : (k : ℕ) (b : Body) → AllThere b → AllThere (after (start k) b)
unfolding after
start_there k b h = put_all (λ t. is_absent t.state ≡ false) b.tasks k (started (task b k)) nobody h (λ r. refl)

-- the fresh state's starts need nothing else
pub starts_steps : (b : Body) (i : ℕ) (l : List Entry) → AllThere b → Steps b (starts i l)
unfolding starts
starts_steps b i [] h = tt
starts_steps b i (e ∷ l) h = go e.started (starts_steps (after (start i) b) (suc i) l (start_there i b h)) (starts_steps b (suc i) l h)
  where
    go : (t : Bool) → Steps (after (start i) b) (starts (suc i) l) → Steps b (starts (suc i) l) → Steps b (cond t (start i ∷ starts (suc i) l) (starts (suc i) l))
    go true p q = (h i, p)
    go false p q = q

-- where nobody waits on a pool, blocks may be freed; all tasks are there
abbrev Unstarted : Body → Type 0
Unstarted b = ((q : ℕ) → NoneAt b pool q) × AllThere b

marks_steps : (b : Body) (p j n : ℕ) (r m : List Act) → Unstarted b → ((c : Body) → Unstarted c → Steps c (r ++ m)) → Steps b (map (λ k. mark p k true) (from j n) ++ r ++ m)
unfolding after
marks_steps b p j zero r m h g = g b h
marks_steps b p j (suc n) r m h g = (inr (h.0 p), marks_steps (after (mark p j true) b) p (suc j) n r m h g)

frees_steps : (b : Body) (p : ℕ) (l : List ℕ) (m : List Act) → Unstarted b → ((c : Body) → Unstarted c → Steps c m) → Steps b (frees p l ++ m)
unfolding frees ids
frees_steps b p [] m h g = g b h
frees_steps b p (n ∷ l) m h g = marks_steps b p 1 n (frees (suc p) l) m h (λ c k. frees_steps c (suc p) l m k g)

-- the fresh state's acts need no more
pub begins_steps : (b : Body) (u : Setup) → Unstarted b → Steps b (begins u)
unfolding begins
begins_steps b u h = frees_steps b 1 u.pools (starts 1 u.tasks) h (λ c k. starts_steps c 1 u.tasks k.1)

-- ---- a release, seen from the task released and from another

freed_waits : (s : State) → wait_of (cond (is_waiting s) (freed s) s) ≡ none
freed_waits dormant = refl
freed_waits absent = refl
freed_waits ready = refl
freed_waits suspended = refl
freed_waits (waiting w) = refl
freed_waits (waiting_suspended w) = refl

pub released_waits : (c : Code) (w : ℕ) (t : Task) → wait_of (released_task c w t).state ≡ none
released_waits c w t = ap (λ (s : State). wait_of s) (go (is_waiting t.state)) ∙ freed_waits t.state
  where
    go : (x : Bool) → (cond x (with_cell (record { code = c; word = w }) (with_state (freed t.state) t)) t).state ≡ cond x (freed t.state) t.state
    go true = refl
    go false = refl

module _ (x : ℕ) (cd : Code) (w : ℕ) (c : Body) where
  pub released_self : wait_of (task (after (release x cd w) c) x).state ≡ none
  unfolding after
  released_self = elim (put_either c.tasks x (released_task cd w (task c x)) nobody)
      [ inl k ↦ ap (λ (t : Task). wait_of t.state) k ∙ released_waits cd w (task c x) | inr k ↦ ap (λ (t : Task). wait_of t.state) k ]

  released_other : (i : ℕ) → eqb x i ≡ false → wait_of (task (after (release x cd w) c) i).state ≡ wait_of (task c i).state
  unfolding after
  released_other i e = ap (λ (t : Task). wait_of t.state) (of_put_other c.tasks x i _ nobody e)

some≢none : (w : Wait) → some w ≡ none → ⊥
some≢none w e = false≢true (sym (ap some? e))
  where
    some? : Option Wait → Bool
    some? none = false
    some? (some x) = true

-- ---- the walk of set_flg

module _ (b : Body) (f : ℕ) where
  -- whoever asks something of the flag has asked it from the start, and is still to come or is not met
  abbrev Unmet : Body → ℕ → List ℕ → Type 0
  Unmet c have l = (i p m : ℕ) → Asks c i flag f p m → Asks b i flag f p m × (p ≢ 0) × ((times i l ≢ 0) ⊎ (met have p m ≡ false))

  abbrev wished : ℕ → ℕ × ℕ
  wished x = wish (wait_of (task b x).state)

  unmet_skip : (c : Body) (have x : ℕ) (l : List ℕ) → Unmet c have (x ∷ l) → met have (wished x).0 (wished x).1 ≡ false → Unmet c have l
  unfolding times
  unmet_skip c have x l u e i p m w = ((u i p m w).0, (u i p m w).1, go (eqb x i) refl (u i p m w).2)
    where
      same_wish : x ≡ i → wished x ≡ (p, m)
      same_wish d = ap (λ (j : ℕ). wished j) d ∙ ap (λ (y : Option Wait). wish y) (u i p m w).0

      go : (t : Bool) → eqb x i ≡ t → (once t + times i l ≢ 0) ⊎ (met have p m ≡ false) → (times i l ≢ 0) ⊎ (met have p m ≡ false)
      go t d (inr k) = inr k
      go false d (inl k) = inl (λ y. k (omega arith))
      go true d (inl k) = inr (subst (λ (y : ℕ × ℕ). met have y.0 y.1 ≡ false) (same_wish (eqb-true x i d)) e)

  unmet_release : (c : Body) (have k x : ℕ) (l : List ℕ) → Unmet c have (x ∷ l) → Unmet (after (release x OK have) c) (left have k) l
  unfolding times
  unmet_release c have k x l u i p m w = go (eqb x i) refl
    where
      later : eqb x i ≡ false → p ≢ 0 → (once (eqb x i) + times i l ≢ 0) ⊎ (met have p m ≡ false) → (times i l ≢ 0) ⊎ (met (left have k) p m ≡ false)
      later d z (inl n) = inl (λ y. n (rw d (omega arith)))
      later d z (inr e) = inr (left_unmet have p m k z e)

      go : (t : Bool) → eqb x i ≡ t → Asks b i flag f p m × (p ≢ 0) × ((times i l ≢ 0) ⊎ (met (left have k) p m ≡ false))
      go true d = absurd (some≢none _ (sym w ∙ subst (λ (j : ℕ). wait_of (task (after (release x OK have) c) j).state ≡ none) (eqb-true x i d) (released_self x OK have c)))
      go false d = let y = u i p m (sym (released_other x OK have c i d) ∙ w) in (y.0, y.1, later d y.1 y.2)

  serve_steps : (c : Body) (have : ℕ) (l : List ℕ) → have < 2 ^ 32 → Unmet c have l → Steps c (serve_flag b f have l)
  unfolding times
  serve_steps c have [] r u = ((r, λ i p m w. elim (u i p m w).2 [ inl k ↦ absurd (k refl) | inr e ↦ e ]), tt)
  serve_steps c have (x ∷ l) r u =
      go (met have (wished x).0 (wished x).1) refl
      (serve_steps (after (release x OK have) c) (left have (wished x).1) l (left_small have (wished x).1 r) (unmet_release c have (wished x).1 x l u))
      (λ e. serve_steps c have l r (unmet_skip c have x l u e))
    where
      B : List Act
      B = serve_flag b f (left have (wished x).1) l

      C : List Act
      C = serve_flag b f have l

      go : (t : Bool) → met have (wished x).0 (wished x).1 ≡ t → Steps (after (release x OK have) c) B → (met have (wished x).0 (wished x).1 ≡ false → Steps c C)
          → Steps c (cond t (release x OK have ∷ B) C)
      go true e p q = (inl (refl, r), p)
      go false e p q = q e

  -- and what it names is there
  serve_names : (c : Body) (n have : ℕ) (l : List ℕ) → length c.tasks ≡ n → Known n l → In f (length c.store.flags) → Along Names c (serve_flag b f have l)
  unfolding after
  serve_names c n have [] e k r = (r, tt)
  serve_names c n have (x ∷ l) e k r =
      go (met have (wished x).0 (wished x).1) (serve_names (after (release x OK have) c) n (left have (wished x).1) l (length_put c.tasks x _ ∙ e) k.1 r) (serve_names c n have l e k.1 r)
    where
      go : (t : Bool) → Along Names (after (release x OK have) c) (serve_flag b f (left have (wished x).1) l) → Along Names c (serve_flag b f have l)
          → Along Names c (cond t (release x OK have ∷ serve_flag b f (left have (wished x).1) l) (serve_flag b f have l))
      go true g h = (subst (In x) (sym e) k.0, g)
      go false g h = h

-- ---- the tick

-- every wait that ends is still to come
abbrev Ending : Body → List ℕ → Type 0
Ending c l = (i : ℕ) → ending (wait_of (task c i).state) ≡ true → times i l ≢ 0

ending_release : (c : Body) (x : ℕ) (l : List ℕ) → Ending c (x ∷ l) → Ending (after (timeout x) c) l
unfolding times
ending_release c x l g i t = go (eqb x i) refl
  where
    go : (s : Bool) → eqb x i ≡ s → times i l ≢ 0
    go false d = λ y. g i (ap ending (sym (released_other x E-TMOUT 0 c i d)) ∙ t) (rw d (omega arith))
    go true d = absurd (false≢true (ap ending (sym (subst (λ (j : ℕ). wait_of (task (after (timeout x) c) j).state ≡ none) (eqb-true x i d) (released_self x E-TMOUT 0 c))) ∙ t))

tick_steps : (c : Body) (l : List ℕ) → Ending c l → Steps c (map timeout l ++ elapse ∷ [])
unfolding times
tick_steps c [] g = (λ i. over (ending (wait_of (task c i).state)) (g i), tt)
  where
    over : (t : Bool) → (t ≡ true → ◌≢◌ {A = ℕ} 0 0) → t ≡ false
    over true k = absurd (k refl refl)
    over false k = refl
tick_steps c (x ∷ l) g = (inr (inl refl, refl), tick_steps (after (timeout x) c) l (ending_release c x l g))

-- those whose wait ends are all listed
pub ends_come : (b : Body) → Ending b (endings b)
ends_come b i e z =
    let r : In i (length b.tasks) = tested (λ t. ending (wait_of t.state)) b.tasks i nobody refl e in
    let k : times i (endings b) ≡ 1 = times_keep i (λ j. ending (wait_of (task b j).state)) (ids (length b.tasks)) ∙ rw e (times_ids i (length b.tasks) r) in
    absurd (omega (arith, sym z ∙ k))

-- ---- alarms

again_fits : (c : Counter) (s : Setting) → SettingFits c.size s → SettingFits c.size (again c s)
again_fits c unset f = tt
again_fits c (due e zero) f = tt
again_fits c (due e (suc p)) f = (mod-lt (c.now + suc p) (omega (arith, f.0)), f.1)

-- only an alarm that there is fires
pub fires_there : (c : Counter) (k : ℕ) → fires c (alarm_of c k).setting ≡ true → In k (length c.alarms)
fires_there c k e = tested (λ x. fires c x.setting) c.alarms k no_alarm refl e

firing_pre : {a : Act} (b : Body) → SoundBody b → FiringAct b a → Pre b a
firing_pre b h (begun i d) = λ r. there_by is_dormant refl (task b i).state d
firing_pre b h (wakes i s) = inl (refl, lit< tt)
firing_pre b h (stores i n d s m) = (omega (arith, leb-false 15 (task b i).wakeups m), λ x. absurd (false≢true (sym d ∙ x)), λ x. absurd (false≢true (sym s ∙ x)), λ x. absurd (false≢true (sym n ∙ x)))
firing_pre b h (keeps k c e f) = (e, again_fits b.counter (alarm_of b.counter k).setting (h.counter.alarms k (fires_there b.counter k f)).setting)

pub rings_steps : (n k : ℕ) (b : Body) → SoundBody b → Steps b (rings b n k)
rings_steps n k b h = (along_keeps FiringAct Pre SoundBody (λ b a s f. (firing_pre b s f, sound_after a b s (firing_pre b s f))) (rings b n k) b h (rings_acts n k b)).0

pub lapse_steps : (b : Body) → Steps b (lapse b)
lapse_steps b = tick_steps b (endings b) (ends_come b)

pub firing_names : (b : Body) (a : Act) → FiringAct b a → Names b a
firing_names b a (begun i d) = tested (λ t. is_dormant t.state) b.tasks i nobody refl d
firing_names b a (wakes i d) = tested (λ t. sleeps (wait_of t.state)) b.tasks i nobody refl d
firing_names b a (stores i n d s m) = tested (λ t. not (is_absent t.state)) b.tasks i nobody refl (ap not n)
firing_names b a (keeps k c f e) = fires_there b.counter k e

-- ---- a call

module _ (v : View) (s : Sound v) where
  -- who stands first in a queue is there
  first_there : (k : Kind) (o x : ℕ) (m : List ℕ) → In o (objects v.body.store k) → line v (waiters k o) ≡ x ∷ m → In x (length v.body.tasks)
  unfolding population
  first_there k o x m i e = in_range_lem v.body (waiters k o) x (first_belongs v s (waiters k o) i x m e)

  -- the walk of set_flg
  walk_ready : (f have : ℕ) → In f (length v.body.store.flags) → have < 2 ^ 32 → Along Ready v.body (serve_flag v.body f have (line v (waiters flag f)))
  unfolding belongs population
  walk_ready f have i z =
      along_both Pre Names (serve_flag v.body f have (line v (waiters flag f))) v.body
      (serve_steps v.body f v.body have (line v (waiters flag f)) z
      (λ j y m w. (w, (asks_well v.body s.body s.unserved j flag f y m w).0.0, inl (λ e. absurd (omega (arith, sym e ∙ stands j y m w))))))
      (serve_names v.body f v.body _ have (line v (waiters flag f)) refl (s.queues (waiters flag f) i).known i)
    where
      stands : (j y m : ℕ) → Asks v.body j flag f y m → times j (line v (waiters flag f)) ≡ 1
      stands j y m w = belongs_stands v.body (waiters flag f) _ (s.queues (waiters flag f) i) j (asks_waits (wait_of (task v.body j).state) flag f y m w)

module _ {v : View} {a p n : ℤ} (s : Sound v) (wa : Word a) (wp : Word p) where
  finds_ready : {d : Act} → Finds v a p n d → Ready v.body d
  finds_ready (simple g f) = f s wa wp
  finds_ready (rouses g e) = (firing_pre v.body s.body g, firing_names v.body _ g)
  finds_ready (breaks e w) = (inr (inr refl, refl), tested (λ t. is_waiting t.state) v.body.tasks (nat a) nobody refl w)
  finds_ready (serves k {i = x} {m} o i z e) = (inl (refl, z wp), first_there v s k (nat a) x m i e)
  finds_ready (sets o f) = f s wa wp

  way_ready : {r : Verdict} → Way v a p n r → Along Ready v.body r.acts
  unfolding population
  way_ready (refused c e) = tt
  way_ready (looked q) = tt
  way_ready (acted q f) = (finds_ready f, tt)
  way_ready (waited f) = (f s wa wp, tt)
  way_ready (walked have q i z) = walk_ready v s (nat a) have i (z s wp)
  way_ready (granted y z i e) = ((inl refl, (i, (subst (Known (many v.body (free_in (nat a)))) e (s.queues (free_in (nat a)) i).known).0)), tt)
  way_ready (block-freed e o l) = ((inr (none_waits v s pool (nat a) o.pool l), (o.pool, o.block)), tt)
  way_ready (handed {i = x} {m} e o l) = ((inl (refl, nat_small p wp), first_there v s pool (nat a) x m o.pool l), tt)

-- ---- handlers

module _ (v : View) (h : Sound v) where
  enter_steps : Steps v.body (entered v).acts
  unfolding entered
  enter_steps = checked_acts (Steps v.body) _ _ _ tt (λ e. (inner_fits v h v.body.handlers (omega (arith, leb-false _ (depth v.body.handlers) e)) h.body.handlers, tt))

  exit_steps : Steps v.body (exited v).acts
  unfolding exited
  exit_steps = checked_acts (Steps v.body) _ _ _ tt (λ e. (outer_fits v.body.tasks v.body.handlers h.body.handlers, tt))

-- ---- an event

-- each act of an event finds what it needs
pub steps_of_judge : (v : View) (e : Event) → Sound v → Words e → Steps v.body (judge v e).acts
unfolding judge ticked
steps_of_judge v tick h w =
    let b = v.body in
    along_append Pre (lapse b) _ b (lapse_steps b) (rings_steps (length b.counter.alarms) 1 (afters (lapse b) b) (sound_afters (lapse b) b h.body (lapse_steps b)))
steps_of_judge v enter h w = enter_steps v h
steps_of_judge v exit h w = exit_steps v h
steps_of_judge v (call x n a p c) h w = along_map Ready Pre (λ b d k. k.0) (judge v (call x n a p c)).acts v.body (way_ready h w.2 w.3 (call_way v x n a p c))

-- what the acts of a call name is there
pub names_of_call : (v : View) (x n a p c : ℤ) → Sound v → Words (call x n a p c) → Along Names v.body (judge v (call x n a p c)).acts
names_of_call v x n a p c h w = along_map Ready Names (λ b d k. k.1) (judge v (call x n a p c)).acts v.body (way_ready h w.2 w.3 (call_way v x n a p c))

-- every event keeps a sound state sound
pub sound_next : (v : View) (e : Event) → Sound v → Words e → Sound (next v e)
unfolding next
sound_next v e h w = sound_acts (judge v e).acts v h (steps_of_judge v e h w)
