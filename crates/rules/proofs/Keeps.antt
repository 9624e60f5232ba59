-- What an act needs so that a sound body stays sound, and nobody comes to wait beside what would serve him: a change of one task leaves
-- the store alone, a change of the store is looked at over the kind of object.
use mathlib.Core.Bool.{Bool, true, false, cond, not, false≢true}
use mathlib.Core.List.{List, [], ◌∷◌, map}
use mathlib.Core.Logic.{◌⊎◌, inl, inr, ◌≢◌}
use mathlib.Core.Option.{Option, none, some}
use mathlib.Core.Path.{◌≡◌, refl, sym, ap, ◌∙◌, subst}
use Prim.Native.Nat.{ℕ, zero, suc, pred, ◌≤◌, ◌<◌, ◌^◌}
use native.Mathlib.Nat.{mod-lt}
use native.Mathlib.Omega.{arith}
use lib.Dec.{eqb, leb, lit<}
use lib.ListN.{length, length-map, set}
use borrow.Author.Tests.{eqb-true, eqb-false, eq-eqb, leb-false, not-false}
use Rattle.rules.specs.Ids.{of, put, In}
use Rattle.rules.specs.Codes.{Code}
use Rattle.rules.specs.State.{Kind, semaphore, flag, mailbox, pool, Wait, asleep, timed, on, State, dormant, ready, suspended, absent, waiting, waiting_suspended, Cell, Task, Store, Handlers, no_handler, in_handler, Setting, Alarm, Counter, alarm_of, no_alarm, Body, task, nobody, objects, wait_of, is_dormant, is_absent, is_ready, is_waiting, is_freed, sleeps}
use Rattle.rules.specs.Places.{same_kind, waits_on, awaits, lies}
use Rattle.rules.specs.Acts.{Act, start, retire, create, delete, rotate, regrade, wait, release, suspend, resume, wakeups, count, pattern, post, receive, mark, elapse, nest, alarm, with_state, with_priority, with_wakeups, with_cell, with_semaphores, with_flags, with_messages, with_pools, with_clock, with_tasks, with_store, with_counter, with_setting, stepped, change_alarm, change, started, retired, created, freed, released_task, halted, resumed, older, after}
use Rattle.rules.specs.Objects.{met, laid, free}
use Rattle.rules.specs.Time.{ending}
use Rattle.rules.specs.Sound.{Sizes, LiesWell, StoreNumbers, CellNumbers, WaitNumbers, any_lies, would_serve, Unserved, AllUnserved, SoundTask, HandlersFit, KeptFits, SettingFits, AlarmFits, CounterFits, SoundBody}
use Rattle.rules.proofs.Sizes.{SameSizes, sizes_tasks, sizes_clock, sizes_after}
use Rattle.rules.proofs.States.{there_by, waiting_tells, freed_tells, halted_same, resumed_same, older_same}
use Rattle.rules.proofs.Waits.{neither}
use Rattle.rules.proofs.Cells.{change_each, map_each}
use Rattle.rules.proofs.Ids.{length_put, of_put_other, of_put_same, put_all, of_map}

-- ---- what an act needs

-- nobody waits on that object
abbrev pub NoneAt : Body → Kind → ℕ → Type 0
NoneAt b k o = (i : ℕ) → awaits (task b i).state k o ≡ false

-- task i waits on object o of kind k, with this pattern and mode
abbrev pub Asks : Body → ℕ → Kind → ℕ → ℕ → ℕ → Type 0
Asks b i k o p m = wait_of (task b i).state ≡ some (on k o p m)

abbrev pub Pre : Body → Act → Type 0
Pre b (start i) = In i (length b.tasks) → is_absent (task b i).state ≡ false
Pre b (retire i) = (b.handlers ≡ no_handler) × (is_absent (task b i).state ≡ false)
Pre b (create i p) = (b.handlers ≡ no_handler) × In p b.store.priorities
Pre b (delete i) = b.handlers ≡ no_handler
Pre b (rotate i) = is_ready (task b i).state ≡ true
Pre b (regrade i p) = In p b.store.priorities × (is_dormant (task b i).state ≡ false) × (is_absent (task b i).state ≡ false)
Pre b (wait i w) =
    (b.handlers ≡ no_handler)
    × (In i (length b.tasks) → WaitNumbers b.store (some w) × Unserved b.store (some w) × (sleeps (some w) ≡ true → (task b i).wakeups ≡ 0))
    × (is_ready (task b i).state ≡ true)
Pre b (release i c w) = CellNumbers (record { code = c; word = w })
Pre b (suspend i) = Unit {0}
Pre b (resume i) = Unit {0}
Pre b (wakeups i n) = (n ≤ 15) × (is_dormant (task b i).state ≡ true → n ≡ 0) × (sleeps (wait_of (task b i).state) ≡ true → n ≡ 0) × (is_absent (task b i).state ≡ true → n ≡ 0)
Pre b (count s n) = (n ≤ 65535) × ((n ≡ 0) ⊎ NoneAt b semaphore s)
Pre b (pattern f n) = (n < 2 ^ 32) × ((i p m : ℕ) → Asks b i flag f p m → met n p m ≡ false)
Pre b (post j m) = In m b.store.mailboxes × NoneAt b mailbox m
Pre b (receive j) = Unit {0}
Pre b (mark p k t) = (t ≡ false) ⊎ NoneAt b pool p
Pre b elapse = (i : ℕ) → ending (wait_of (task b i).state) ≡ false
Pre b (nest h) = HandlersFit b.tasks h
Pre b (alarm k c s) = KeptFits (alarm_of b.counter k).wakes c × SettingFits b.counter.size s

-- what an act names is there, as far as `Pre` does not say it
abbrev pub Names : Body → Act → Type 0
Names b (start i) = In i (length b.tasks)
Names b (retire i) = In i (length b.tasks)
Names b (create i p) = In i (length b.tasks)
Names b (delete i) = In i (length b.tasks)
Names b (rotate i) = Unit {0}
Names b (regrade i p) = In i (length b.tasks)
Names b (wait i w) = In i (length b.tasks)
Names b (release i c w) = In i (length b.tasks)
Names b (suspend i) = In i (length b.tasks)
Names b (resume i) = In i (length b.tasks)
Names b (wakeups i n) = In i (length b.tasks)
Names b (count s n) = In s (length b.store.semaphores)
Names b (pattern f n) = In f (length b.store.flags)
Names b (post j m) = In j (length b.store.messages) × (laid (of b.store.messages j none) ≡ false)
Names b (receive j) = In j (length b.store.messages)
Names b (mark p k t) = In p (length b.store.pools) × In k (length (of b.store.pools p []))
Names b elapse = Unit {0}
Names b (nest h) = Unit {0}
Names b (alarm k c s) = In k (length b.counter.alarms)

-- both
abbrev pub Ready : Body → Act → Type 0
Ready b a = Pre b a × Names b a

-- ---- one task is changed

module _ {u : Store} {t : Task} (g : SoundTask u t) where
  -- another state
  state_well : (s : State) → WaitNumbers u (wait_of s) → (sleeps (wait_of s) ≡ true → t.wakeups ≡ 0)
      → (is_dormant s ≡ true → is_dormant t.state ≡ true) → is_absent s ≡ is_absent t.state → SoundTask u (with_state s t)
  state_well s w z d x = record {
    priority = λ e. g.priority (sym x ∙ e);
    start = λ e. g.start (sym x ∙ e);
    wakeups = g.wakeups;
    cell = g.cell;
    wait = w;
    sleeper = z;
    dormant = λ e. g.dormant (d e);
    rest = λ e. g.rest (d e);
    absent = λ e. g.absent (sym x ∙ e);
  }

  -- the same wait
  same_well : (s : State) → wait_of s ≡ wait_of t.state → is_dormant s ≡ is_dormant t.state → is_absent s ≡ is_absent t.state → SoundTask u (with_state s t)
  same_well s e d x = state_well s (rw e g.wait) (rw e g.sleeper) (rw d (λ x. x)) x

  -- no wait
  idle_well : (s : State) → wait_of s ≡ none → is_dormant s ≡ false → is_absent s ≡ is_absent t.state → SoundTask u (with_state s t)
  idle_well s e d x = state_well s (rw e tt) (rw e (λ x. absurd (false≢true x))) (rw d (λ x. absurd (false≢true x))) x

  priority_well : (p : ℕ) → In p u.priorities → is_dormant t.state ≡ false → is_absent t.state ≡ false → SoundTask u (with_priority p t)
  priority_well p r d x = record {
    priority = λ e. r;
    start = g.start;
    wakeups = g.wakeups;
    cell = g.cell;
    wait = g.wait;
    sleeper = g.sleeper;
    dormant = g.dormant;
    rest = λ e. absurd (false≢true (sym d ∙ e));
    absent = λ e. absurd (false≢true (sym x ∙ e));
  }

  wakeups_well : (n : ℕ) → n ≤ 15 → (is_dormant t.state ≡ true → n ≡ 0) → (sleeps (wait_of t.state) ≡ true → n ≡ 0) → (is_absent t.state ≡ true → n ≡ 0) → SoundTask u (with_wakeups n t)
  wakeups_well n k d z x = record {
    priority = g.priority;
    start = g.start;
    wakeups = k;
    cell = g.cell;
    wait = g.wait;
    sleeper = z;
    dormant = d;
    rest = g.rest;
    absent = λ e. let v = g.absent e in (v.0, v.1, x e, v.3, v.4);
  }

  cell_well : (c : Cell) → CellNumbers c → is_absent t.state ≡ false → SoundTask u (with_cell c t)
  cell_well c k x = record {
    priority = g.priority;
    start = g.start;
    wakeups = g.wakeups;
    cell = k;
    wait = g.wait;
    sleeper = g.sleeper;
    dormant = g.dormant;
    rest = g.rest;
    absent = λ e. absurd (false≢true (sym x ∙ e));
  }

  started_well : is_absent t.state ≡ false → SoundTask u (started t)
  started_well x = record {
    priority = λ e. g.start x;
    start = λ e. g.start x;
    wakeups = g.wakeups;
    cell = inl (refl, lit< tt);
    wait = tt;
    sleeper = λ e. absurd (false≢true e);
    dormant = λ e. absurd (false≢true e);
    rest = λ e. absurd (false≢true e);
    absent = λ e. absurd (false≢true e);
  }

  retired_well : is_absent t.state ≡ false → SoundTask u (retired t)
  retired_well x = record {
    priority = λ e. g.start x;
    start = λ e. g.start x;
    wakeups = omega arith;
    cell = g.cell;
    wait = tt;
    sleeper = λ e. refl;
    dormant = λ e. refl;
    rest = λ e. refl;
    absent = λ e. absurd (false≢true e);
  }

  created_well : (p : ℕ) → In p u.priorities → SoundTask u (created p t)
  created_well p r = record {
    priority = λ e. r;
    start = λ e. r;
    wakeups = omega arith;
    cell = g.cell;
    wait = tt;
    sleeper = λ e. refl;
    dormant = λ e. refl;
    rest = λ e. refl;
    absent = λ e. absurd (false≢true e);
  }

-- one that is not there
gone_well : {u : Store} → SoundTask u nobody
gone_well = record {
  priority = λ e. absurd (false≢true (sym e));
  start = λ e. absurd (false≢true (sym e));
  wakeups = omega arith;
  cell = inl (refl, lit< tt);
  wait = tt;
  sleeper = λ e. refl;
  dormant = λ e. refl;
  rest = λ e. refl;
  absent = λ e. (refl, refl, refl, refl, refl);
}

released_well : {u : Store} (c : Code) (w : ℕ) (t : Task) → CellNumbers (record { code = c; word = w }) → SoundTask u t → SoundTask u (released_task c w t)
released_well {u} c w t k g = go (is_waiting t.state) refl
  where
    go : (x : Bool) → is_waiting t.state ≡ x → SoundTask u (cond x (with_cell (record { code = c; word = w }) (with_state (freed t.state) t)) t)
    go true e =
        let f = freed_tells t.state e in
        cell_well (idle_well g (freed t.state) f.0 f.2 (f.3 ∙ sym (waiting_tells t.state e).2)) _ k f.3
    go false e = g

-- the setup's numbers stay
sizes_same : {b c : Body} → SameSizes b c → Sizes b → Sizes c
sizes_same k z = record {
  priorities = rw k.priorities z.priorities;
  tasks = rw k.tasks z.tasks;
  semaphores = rw (k.objects semaphore) z.semaphores;
  flags = rw (k.objects flag) z.flags;
  mailboxes = rw (k.objects mailbox) z.mailboxes;
  messages = rw k.messages z.messages;
  pools = rw (k.objects pool) z.pools;
}

-- ---- the interrupted task stays ready or suspended

-- whoever is ready or suspended stays so
abbrev Held : Task → Task → Type 0
Held t u = is_freed t.state ≡ true → is_freed u.state ≡ true

-- the change leaves task i so, or no handler is open
abbrev Holds : (Task → Task) → ℕ → Body → Type 0
Holds f i b = Held (task b i) (f (task b i)) ⊎ (b.handlers ≡ no_handler)

released_held : (c : Code) (w : ℕ) (t : Task) → Held t (released_task c w t)
released_held c w t e = go (is_waiting t.state) refl
  where
    go : (x : Bool) → is_waiting t.state ≡ x → is_freed (cond x (with_cell (record { code = c; word = w }) (with_state (freed t.state) t)) t).state ≡ true
    go true d = absurd (false≢true (sym (waiting_tells t.state d).1 ∙ e))
    go false d = e

fit_by : (l m : List Task) (h : Handlers) → ((i : ℕ) → Held (of l i nobody) (of m i nobody)) → HandlersFit l h → HandlersFit m h
fit_by l m no_handler f g = tt
fit_by l m (in_handler n i) f g = (g.0, elim g.1 [ inl e ↦ inl e | inr e ↦ inr (f i e) ])

fit_change : (f : Task → Task) (i : ℕ) (b : Body) → Holds f i b → HandlersFit b.tasks b.handlers → HandlersFit (change f i b).tasks b.handlers
fit_change f i b (inl k) g = fit_by b.tasks _ b.handlers (change_each Held (λ t e. e) f i b (λ t e. subst (λ (u : Task). Held u (f u)) (sym e) k)) g
fit_change f i b (inr e) g = rw e tt

sound_change : (f : Task → Task) (i : ℕ) (b : Body) → SoundBody b → Holds f i b → (In i (length b.tasks) → SoundTask b.store (task b i) → SoundTask b.store (f (task b i)))
    → SoundBody (change f i b)
sound_change f i b h k g = record {
  sizes = sizes_same (sizes_tasks b _ (length_put b.tasks i _)) h.sizes;
  store = h.store;
  tasks = put_all (SoundTask b.store) b.tasks i (f (task b i)) nobody h.tasks (λ r. g r (h.tasks i r));
  handlers = fit_change f i b k h.handlers;
  counter = rw (length_put b.tasks i (f (task b i))) h.counter;
}

-- ---- the store is changed

pub same_kind_refl : (k : Kind) → same_kind k k ≡ true
same_kind_refl semaphore = refl
same_kind_refl flag = refl
same_kind_refl mailbox = refl
same_kind_refl pool = refl

pub asks_waits : (x : Option Wait) (k : Kind) (o p m : ℕ) → x ≡ some (on k o p m) → waits_on x k o ≡ true
asks_waits x k o p m e = rw (e, same_kind_refl k) (eq-eqb o o refl)

-- each kind has as many objects as before
abbrev SameObjects : Store → Store → Type 0
SameObjects u w = (k : Kind) → objects w k ≡ objects u k

-- the object serves such a waiter no more than before
abbrev ServesLess : Store → Store → Kind → ℕ → ℕ → ℕ → Type 0
ServesLess u w k o p m = In o (objects u k) → would_serve u k o p m ≡ false → would_serve w k o p m ≡ false

module _ (u w : Store) where
  numbers_kept : (x : Option Wait) → SameObjects u w → WaitNumbers u x → WaitNumbers w x
  numbers_kept none e h = h
  numbers_kept (some asleep) e h = h
  numbers_kept (some (timed t)) e h = h
  numbers_kept (some (on k o p m)) e h = (rw (e k) h.0, h.1)

  unserved_kept : (x : Option Wait) → ((k : Kind) (o p m : ℕ) → x ≡ some (on k o p m) → ServesLess u w k o p m) → WaitNumbers u x → Unserved u x → Unserved w x
  unserved_kept none f r h = h
  unserved_kept (some asleep) f r h = h
  unserved_kept (some (timed t)) f r h = h
  unserved_kept (some (on k o p m)) f r h = f k o p m refl r.0 h

  task_kept : (t : Task) → w.priorities ≡ u.priorities → SameObjects u w → SoundTask u t → SoundTask w t
  task_kept t e s g = record {
    priority = rw e g.priority;
    start = rw e g.start;
    wakeups = g.wakeups;
    cell = g.cell;
    wait = numbers_kept (wait_of t.state) s g.wait;
    sleeper = g.sleeper;
    dormant = g.dormant;
    rest = g.rest;
    absent = g.absent;
  }

sound_store : (b : Body) (w : Store) → SoundBody b → SameSizes b (with_store w b) → StoreNumbers w → SoundBody (with_store w b)
sound_store b w h k n = record {
  sizes = sizes_same k h.sizes;
  store = n;
  tasks = λ i r. task_kept b.store w (task b i) k.priorities k.objects (h.tasks i r);
  handlers = h.handlers;
  counter = h.counter;
}

module _ {ℓ} {A : Type ℓ} where
  -- what holds of an entry, and of what is put there, holds afterwards
  put_at {κ} : (P : A → Type κ) (l : List A) (i o : ℕ) (a d : A) → In o (length l) → (i ≡ o → P a) → P (of l o d) → P (of (put l i a) o d)
  put_at P l i o a d r h k = go (eqb i o) refl
    where
      go : (t : Bool) → eqb i o ≡ t → P (of (put l i a) o d)
      go true e = rw (eqb-true i o e, of_put_same l o a d r) (h (eqb-true i o e))
      go false e = rw (of_put_other l i o a d e) k

-- a waiter where nobody waits
none_asks : (b : Body) (k : Kind) (s o : ℕ) → NoneAt b k s → s ≡ o → (i p m : ℕ) → Asks b i k o p m → ⊥
none_asks b k s o n e i p m w = false≢true (sym (n i) ∙ ap (awaits (task b i).state k) e ∙ asks_waits (wait_of (task b i).state) k o p m w)

zero_unserved : (n : ℕ) → n ≡ 0 → not (eqb n 0) ≡ false
zero_unserved n e = ap not (eq-eqb n 0 e)

unserved_zero : (n : ℕ) → not (eqb n 0) ≡ false → n ≡ 0
unserved_zero n e = eqb-true n 0 (not-false (eqb n 0) e)

-- no message comes to lie there
any_lies_set : (l : List (Option ℕ)) (j : ℕ) (x : Option ℕ) (m : ℕ) → lies x m ≡ false → any_lies l m ≡ false → any_lies (set l j x) m ≡ false
any_lies_set [] j x m e h = refl
any_lies_set (y ∷ l) zero x m e h = rw e (neither (lies y m) (any_lies l m) h).1
any_lies_set (y ∷ l) (suc j) x m e h = rw (neither (lies y m) (any_lies l m) h).0 (any_lies_set l j x m e (neither (lies y m) (any_lies l m) h).1)

any_lies_put : (l : List (Option ℕ)) (j : ℕ) (x : Option ℕ) (m : ℕ) → lies x m ≡ false → any_lies l m ≡ false → any_lies (put l j x) m ≡ false
any_lies_put l zero x m e h = h
any_lies_put l (suc j) x m e h = any_lies_set l j x m e h

-- no block becomes free
free_set : (l : List Bool) (k : ℕ) → free l ≡ 0 → free (set l k false) ≡ 0
free_set [] k h = refl
free_set (true ∷ l) k h = absurd (omega arith)
free_set (false ∷ l) zero h = h
free_set (false ∷ l) (suc k) h = free_set l k h

free_put : (l : List Bool) (k : ℕ) → free l ≡ 0 → free (put l k false) ≡ 0
free_put l zero h = h
free_put l (suc k) h = free_set l k h

module _ (b : Body) (i : ℕ) where
  abbrev u : Store
  u = b.store

  count_less : (s n : ℕ) → (n ≡ 0) ⊎ NoneAt b semaphore s → (k : Kind) (o p m : ℕ) → Asks b i k o p m → ServesLess u (with_semaphores (put u.semaphores s n) u) k o p m
  count_less s n c semaphore o p m w r g = put_at (λ x. not (eqb x 0) ≡ false) u.semaphores s o n 0 r (there c) g
    where
      there : (n ≡ 0) ⊎ NoneAt b semaphore s → s ≡ o → not (eqb n 0) ≡ false
      there (inl z) e = zero_unserved n z
      there (inr f) e = absurd (none_asks b semaphore s o f e i p m w)
  count_less s n c flag o p m w r g = g
  count_less s n c mailbox o p m w r g = g
  count_less s n c pool o p m w r g = g

  pattern_less : (f n : ℕ) → ((p m : ℕ) → Asks b i flag f p m → met n p m ≡ false) → (k : Kind) (o p m : ℕ) → Asks b i k o p m → ServesLess u (with_flags (put u.flags f n) u) k o p m
  pattern_less f n c semaphore o p m w r g = g
  pattern_less f n c flag o p m w r g = put_at (λ x. met x p m ≡ false) u.flags f o n 0 r (λ e. c p m (rw e w)) g
  pattern_less f n c mailbox o p m w r g = g
  pattern_less f n c pool o p m w r g = g

  -- a message comes to lie where nobody waits, or in no mailbox
  message_less : (j : ℕ) (x : Option ℕ) → ((o : ℕ) → lies x o ≡ true → NoneAt b mailbox o) → (k : Kind) (o p m : ℕ) → Asks b i k o p m → ServesLess u (with_messages (put u.messages j x) u) k o p m
  message_less j x c semaphore o p m w r g = g
  message_less j x c flag o p m w r g = g
  message_less j x c mailbox o p m w r g = any_lies_put u.messages j x o (go (lies x o) refl) g
    where
      go : (t : Bool) → lies x o ≡ t → t ≡ false
      go true e = absurd (none_asks b mailbox o o (c o e) refl i p m w)
      go false e = refl
  message_less j x c pool o p m w r g = g

  mark_less : (q n : ℕ) (t : Bool) → (t ≡ false) ⊎ NoneAt b pool q → (k : Kind) (o p m : ℕ) → Asks b i k o p m
      → ServesLess u (with_pools (put u.pools q (put (of u.pools q []) n t)) u) k o p m
  mark_less q n t c semaphore o p m w r g = g
  mark_less q n t c flag o p m w r g = g
  mark_less q n t c mailbox o p m w r g = g
  mark_less q n t c pool o p m w r g = put_at (λ x. not (eqb (free x) 0) ≡ false) u.pools q o _ [] r (there c) g
    where
      there : (t ≡ false) ⊎ NoneAt b pool q → q ≡ o → not (eqb (free (put (of u.pools q []) n t)) 0) ≡ false
      there (inl z) e = rw (e, z) (zero_unserved _ (free_put (of u.pools o []) n (unserved_zero _ g)))
      there (inr f) e = absurd (none_asks b pool q o f e i p m w)

  clock_less : (n : ℕ) (k : Kind) (o p m : ℕ) → ServesLess u (with_clock n u) k o p m
  clock_less n semaphore o p m r g = g
  clock_less n flag o p m r g = g
  clock_less n mailbox o p m r g = g
  clock_less n pool o p m r g = g

-- ---- numbers of the store

module _ (u : Store) (h : StoreNumbers u) where
  semaphores_numbers : (s n : ℕ) → n ≤ 65535 → StoreNumbers (with_semaphores (put u.semaphores s n) u)
  semaphores_numbers s n k = record {
    semaphores = put_all (λ x. x ≤ 65535) u.semaphores s n 0 h.semaphores (λ r. k);
    flags = h.flags;
    messages = h.messages;
    pools = h.pools;
    clock = h.clock;
  }

  flags_numbers : (f n : ℕ) → n < 2 ^ 32 → StoreNumbers (with_flags (put u.flags f n) u)
  flags_numbers f n k = record {
    semaphores = h.semaphores;
    flags = put_all (λ x. x < 2 ^ 32) u.flags f n 0 h.flags (λ r. k);
    messages = h.messages;
    pools = h.pools;
    clock = h.clock;
  }

  messages_numbers : (j : ℕ) (x : Option ℕ) → LiesWell u.mailboxes x → StoreNumbers (with_messages (put u.messages j x) u)
  messages_numbers j x k = record {
    semaphores = h.semaphores;
    flags = h.flags;
    messages = put_all (LiesWell u.mailboxes) u.messages j x none h.messages (λ r. k);
    pools = h.pools;
    clock = h.clock;
  }

  pools_numbers : (p k : ℕ) (t : Bool) → StoreNumbers (with_pools (put u.pools p (put (of u.pools p []) k t)) u)
  pools_numbers p k t = record {
    semaphores = h.semaphores;
    flags = h.flags;
    messages = h.messages;
    pools = put_all (λ l. In (length l) 32) u.pools p _ [] h.pools (λ r. rw (length_put (of u.pools p []) k t) (h.pools p r));
    clock = h.clock;
  }

  clock_numbers : (n : ℕ) → n < 2 ^ 48 → StoreNumbers (with_clock n u)
  clock_numbers n k = record {
    semaphores = h.semaphores;
    flags = h.flags;
    messages = h.messages;
    pools = h.pools;
    clock = k;
  }

-- ---- a tick at which no wait ends

abbrev older_task : Task → Task
older_task t = with_state (older t.state) t

ticks_left : (t : ℕ) → eqb t 1 ≡ false → In t 2147483647 → In (pred t) 2147483647
ticks_left t e h = go (eqb-false t 1 e)
  where
    go : t ≢ 1 → In (pred t) 2147483647
    go d = omega (arith, h.0, h.1)

older_numbers : (u : Store) (s : State) → ending (wait_of s) ≡ false → WaitNumbers u (wait_of s) → WaitNumbers u (wait_of (older s))
older_numbers u dormant e h = h
older_numbers u absent e h = h
older_numbers u ready e h = h
older_numbers u suspended e h = h
older_numbers u (waiting asleep) e h = h
older_numbers u (waiting (timed t)) e h = ticks_left t e h
older_numbers u (waiting (on k o p m)) e h = h
older_numbers u (waiting_suspended asleep) e h = h
older_numbers u (waiting_suspended (timed t)) e h = ticks_left t e h
older_numbers u (waiting_suspended (on k o p m)) e h = h

older_unserved : (u : Store) (s : State) → Unserved u (wait_of s) → Unserved u (wait_of (older s))
older_unserved u dormant h = h
older_unserved u absent h = h
older_unserved u ready h = h
older_unserved u suspended h = h
older_unserved u (waiting asleep) h = h
older_unserved u (waiting (timed t)) h = h
older_unserved u (waiting (on k o p m)) h = h
older_unserved u (waiting_suspended asleep) h = h
older_unserved u (waiting_suspended (timed t)) h = h
older_unserved u (waiting_suspended (on k o p m)) h = h

older_well : (u : Store) (t : Task) → ending (wait_of t.state) ≡ false → SoundTask u t → SoundTask u (older_task t)
older_well u t e g =
    state_well g (older t.state) (older_numbers u t.state e g.wait)
    (rw (older_same t.state).sleeps g.sleeper) (rw (older_same t.state).dormant (λ x. x)) (older_same t.state).absent

older_sound : (b : Body) → SoundBody b → ((i : ℕ) → ending (wait_of (task b i).state) ≡ false) → SoundBody (with_tasks (map older_task b.tasks) b)
older_sound b h e = record {
  sizes = sizes_same (sizes_tasks b _ (length-map b.tasks older_task)) h.sizes;
  store = h.store;
  tasks = λ i r. rw (of_map older_task b.tasks i nobody refl) (older_well b.store (task b i) (e i) (h.tasks i (rw (length-map b.tasks older_task) at r)));
  handlers = fit_by b.tasks _ b.handlers (λ i. map_each Held (λ t e. e) older_task (λ t. rw (older_same t.state).freed (λ e. e)) b.tasks i nobody) h.handlers;
  counter = rw (length-map b.tasks older_task) h.counter;
}

-- ---- the counter is changed

sound_counter : (b : Body) (c : Counter) → SoundBody b → CounterFits (length b.tasks) c → SoundBody (with_counter c b)
sound_counter b c h k = record {
  sizes = record { priorities = h.sizes.priorities; tasks = h.sizes.tasks; semaphores = h.sizes.semaphores; flags = h.sizes.flags; mailboxes = h.sizes.mailboxes; messages = h.sizes.messages; pools = h.sizes.pools };
  store = h.store;
  tasks = h.tasks;
  handlers = h.handlers;
  counter = k;
}

stepped_fits : (n : ℕ) (c : Counter) → CounterFits n c → CounterFits n (stepped c)
stepped_fits n c h = record { size = h.size; now = go (leb c.size (suc c.now)) refl; count = h.count; alarms = h.alarms }
  where
    go : (t : Bool) → leb c.size (suc c.now) ≡ t → (cond t 0 (suc c.now) ≡ 0) ⊎ (cond t 0 (suc c.now) < c.size)
    go true e = inl refl
    go false e = inr (omega (arith, leb-false c.size (suc c.now) e))

alarm_fits : (n : ℕ) (r : Counter) (k : ℕ) (c : Code) (s : Setting) → CounterFits n r → KeptFits (alarm_of r k).wakes c → SettingFits r.size s → CounterFits n (change_alarm k c s r)
alarm_fits n r k c s h d g = record {
  size = h.size;
  now = h.now;
  count = rw (length_put r.alarms k changed) h.count;
  alarms = put_all (AlarmFits n r.size) r.alarms k changed no_alarm h.alarms (λ e. record { task = (h.alarms k e).task; kept = d; setting = g });
}
  where
    changed : Alarm
    changed = with_setting c s (alarm_of r k)

-- ---- every act

pub sound_after : (a : Act) (b : Body) → SoundBody b → Pre b a → SoundBody (after a b)
unfolding after
sound_after (start i) b h p = sound_change started i b h (inl (λ e. refl)) (λ r g. started_well g (p r))
sound_after (retire i) b h p = sound_change retired i b h (inr p.0) (λ r g. retired_well g p.1)
sound_after (create i n) b h p = sound_change (created n) i b h (inr p.0) (λ r g. created_well g n p.1)
sound_after (delete i) b h p = sound_change (λ t. nobody) i b h (inr p) (λ r g. gone_well)
sound_after (rotate i) b h p = h
sound_after (regrade i n) b h p = sound_change (with_priority n) i b h (inl (λ e. e)) (λ r g. priority_well g n p.0 p.1 p.2)
sound_after (wait i w) b h p = sound_change (with_state (waiting w)) i b h (inr p.0) (λ r g. state_well g (waiting w) (p.1 r).0 (p.1 r).2 (λ e. absurd (false≢true e)) (sym (there_by is_ready refl (task b i).state p.2)))
sound_after (release i c w) b h p = sound_change (released_task c w) i b h (inl (released_held c w (task b i))) (λ r g. released_well c w (task b i) p g)
sound_after (suspend i) b h p =
    sound_change (λ t. with_state (halted t.state) t) i b h (inl (rw (halted_same (task b i).state).2 (λ e. e)))
    (λ r g. same_well g _ (halted_same (task b i).state).0 (halted_same (task b i).state).1 (halted_same (task b i).state).3)
sound_after (resume i) b h p =
    sound_change (λ t. with_state (resumed t.state) t) i b h (inl (rw (resumed_same (task b i).state).2 (λ e. e)))
    (λ r g. same_well g _ (resumed_same (task b i).state).0 (resumed_same (task b i).state).1 (resumed_same (task b i).state).3)
sound_after (wakeups i n) b h p = sound_change (with_wakeups n) i b h (inl (λ e. e)) (λ r g. wakeups_well g n p.0 p.1 p.2 p.3)
sound_after (count s n) b h p = sound_store b _ h (sizes_after (count s n) b) (semaphores_numbers b.store h.store s n p.0)
sound_after (pattern f n) b h p = sound_store b _ h (sizes_after (pattern f n) b) (flags_numbers b.store h.store f n p.0)
sound_after (post j m) b h p = sound_store b _ h (sizes_after (post j m) b) (messages_numbers b.store h.store j (some m) p.0)
sound_after (receive j) b h p = sound_store b _ h (sizes_after (receive j) b) (messages_numbers b.store h.store j none tt)
sound_after (mark q k t) b h p = sound_store b _ h (sizes_after (mark q k t) b) (pools_numbers b.store h.store q k t)
sound_after elapse b h p =
    sound_counter _ _ (sound_store _ _ (older_sound b h p) (sizes_clock _ _) (clock_numbers b.store h.store _ (mod-lt (suc b.store.clock) (lit< tt))))
    (rw (length-map b.tasks older_task) (stepped_fits (length b.tasks) b.counter h.counter))
sound_after (nest x) b h p = record { sizes = sizes_same (sizes_after (nest x) b) h.sizes; store = h.store; tasks = h.tasks; handlers = p; counter = h.counter }
sound_after (alarm k c s) b h p = sound_counter b _ h (alarm_fits (length b.tasks) b.counter k c s h.counter p.0 p.1)

-- ---- nobody comes to wait beside what would serve him

-- one task is changed
unserved_change : (f : Task → Task) (i : ℕ) (b : Body) → AllUnserved b → (In i (length b.tasks) → Unserved b.store (wait_of (task b i).state) → Unserved b.store (wait_of (f (task b i)).state))
    → AllUnserved (change f i b)
unserved_change f i b h g = put_all (λ t. Unserved b.store (wait_of t.state)) b.tasks i (f (task b i)) nobody h (λ r. g r (h i r))

-- the store is changed
unserved_store : (b : Body) (w : Store) → SoundBody b → AllUnserved b → ((i : ℕ) (k : Kind) (o p m : ℕ) → Asks b i k o p m → ServesLess b.store w k o p m) → AllUnserved (with_store w b)
unserved_store b w s h f i r = unserved_kept b.store w (wait_of (task b i).state) (f i) (s.tasks i r).wait (h i r)

unserved_released : (u : Store) (c : Code) (w : ℕ) (t : Task) → Unserved u (wait_of t.state) → Unserved u (wait_of (released_task c w t).state)
unserved_released u c w t h = go (is_waiting t.state) refl
  where
    go : (x : Bool) → is_waiting t.state ≡ x → Unserved u (wait_of (cond x (with_cell (record { code = c; word = w }) (with_state (freed t.state) t)) t).state)
    go true e = rw (freed_tells t.state e).0 tt
    go false e = h

pub unserved_after : (a : Act) (b : Body) → SoundBody b → AllUnserved b → Pre b a → AllUnserved (after a b)
unfolding after
unserved_after (start i) b s h p = unserved_change started i b h (λ r u. tt)
unserved_after (retire i) b s h p = unserved_change retired i b h (λ r u. tt)
unserved_after (create i n) b s h p = unserved_change (created n) i b h (λ r u. tt)
unserved_after (delete i) b s h p = unserved_change (λ t. nobody) i b h (λ r u. tt)
unserved_after (rotate i) b s h p = h
unserved_after (regrade i n) b s h p = unserved_change (with_priority n) i b h (λ r u. u)
unserved_after (wait i w) b s h p = unserved_change (with_state (waiting w)) i b h (λ r u. (p.1 r).1)
unserved_after (release i c w) b s h p = unserved_change (released_task c w) i b h (λ r u. unserved_released b.store c w (task b i) u)
unserved_after (suspend i) b s h p = unserved_change (λ t. with_state (halted t.state) t) i b h (λ r u. rw (halted_same (task b i).state).0 u)
unserved_after (resume i) b s h p = unserved_change (λ t. with_state (resumed t.state) t) i b h (λ r u. rw (resumed_same (task b i).state).0 u)
unserved_after (wakeups i n) b s h p = unserved_change (with_wakeups n) i b h (λ r u. u)
unserved_after (count x n) b s h p = unserved_store b (after (count x n) b).store s h (λ i. count_less b i x n p.1)
unserved_after (pattern f n) b s h p = unserved_store b (after (pattern f n) b).store s h (λ i. pattern_less b i f n (p.1 i))
unserved_after (post j m) b s h p = unserved_store b (after (post j m) b).store s h (λ i. message_less b i j (some m) (λ o e. rw (← eqb-true m o e) p.1))
unserved_after (receive j) b s h p = unserved_store b (after (receive j) b).store s h (λ i. message_less b i j none (λ o e. absurd (false≢true e)))
unserved_after (mark q k t) b s h p = unserved_store b (after (mark q k t) b).store s h (λ i. mark_less b i q k t p)
unserved_after elapse b s h p =
    unserved_store (with_tasks (map older_task b.tasks) b) (after elapse b).store (older_sound b s p)
    (λ i r. rw (of_map older_task b.tasks i nobody refl) (older_unserved b.store (task b i).state (h i (rw (length-map b.tasks older_task) at r))))
    (λ i k o y m w. clock_less b i (after elapse b).store.clock k o y m)
unserved_after (nest x) b s h p = h
unserved_after (alarm k c x) b s h p = h
