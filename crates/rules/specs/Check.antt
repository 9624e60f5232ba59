-- Soundness is decided: the type of `sound?` says all that there is to know of it.
use Rattle.std.specs.Prelude.{Bool, true, false, List, [], ◌∷◌, ◌⊎◌, ◌≡◌, refl, length}
use Rattle.std.proofs.lemmas.Bool.{false≢true}
use Rattle.std.proofs.Math.Bool.{Bool-discrete}
use Rattle.std.proofs.Common.{inl, inr, sym, eq-or-lt_of_le, arith}
use Rattle.std.proofs.Math.Option.{Option, none, some}
use Prim.Native.Nat.{ℕ, zero, suc, ◌<◌, ◌^◌}
use Rattle.std.proofs.Math.Decide.{dec_le, dec_lt, ℕ_discrete}
use Rattle.rules.specs.Ids.{of, In, times}
use Rattle.rules.specs.Codes.{Code, OK, E-NOEXS, E-DMT, H-NODMT, E-QOVR, E-TMOUT, E-RLWAI, Code-discrete}
use Rattle.rules.specs.State.{Kind, semaphore, flag, mailbox, pool, Wait, asleep, timed, on, Cell, Task, Store, Handlers, no_handler, in_handler, Setting, unset, due, Alarm, Counter, alarm_of, alarm_count, Body, task, objects, wait_of, is_dormant, is_absent, sleeps}
use Rattle.rules.specs.Places.{Place, ready_at, waiters, mail, free_in, many, at, Lines, Exists}
use Rattle.rules.specs.Sound.{Sizes, LiesWell, StoreNumbers, CellNumbers, WishNumbers, WaitNumbers, Unserved, Vacant, SoundTask, HandlersFit, KeptFits, SettingFits, AlarmFits, CounterFits, SoundBody, Shape, Known, Queue, Sound}
use Rattle.rules.specs.View.{View, line}

module _ {A B : Type 0} where
  unfoldable pub convert : (A → B) → (B → A) → Dec A → Dec B
  convert f g (yes a) = yes (f a)
  convert f g (no h) = no (λ b. h (g b))

  unfoldable pub both? : Dec A → Dec B → Dec (A × B)
  both? (yes a) (yes b) = yes (a, b)
  both? (yes a) (no h) = no (λ t. h t.1)
  both? (no h) d = no (λ t. h t.0)

  unfoldable pub either? : Dec A → Dec B → Dec (A ⊎ B)
  either? (yes a) d = yes (inl a)
  either? (no h) (yes b) = yes (inr b)
  either? (no h) (no k) = no (λ t. elim t [ inl a ↦ h a | inr b ↦ k b ])

module _ {A : Type 0} where
  unfoldable pub not? : Dec A → Dec (A → ⊥)
  not? (yes a) = no (λ h. h a)
  not? (no h) = yes h

  unfoldable pub if? : (t : Bool) → Dec A → Dec (t ≡ true → A)
  if? true (yes a) = yes (λ e. a)
  if? true (no h) = no (λ f. h (f refl))
  if? false d = yes (λ e. absurd (false≢true e))

  unfoldable pub unless? : (t : Bool) → Dec A → Dec (t ≡ false → A)
  unless? false (yes a) = yes (λ e. a)
  unless? false (no h) = no (λ f. h (f refl))
  unless? true d = yes (λ e. absurd (false≢true (sym e)))

-- over the ids 1 to n, and over the kinds
module _ {P : ℕ → Type 0} where
  one_more : (n : ℕ) → ((i : ℕ) → In i n → P i) × P (suc n) → (i : ℕ) → In i (suc n) → P i
  one_more n t i h = go (eq-or-lt_of_le h.1)
    where
      go : (i ≡ suc n) ⊎ (i < suc n) → P i
      go (inl e) = rw e t.1
      go (inr k) = t.0 i (h.0, omega arith)

  one_less : (n : ℕ) → ((i : ℕ) → In i (suc n) → P i) → ((i : ℕ) → In i n → P i) × P (suc n)
  one_less n f = (λ i h. f i (h.0, omega (arith, h.1)), f (suc n) (omega arith))

  unfoldable pub every? : (n : ℕ) → ((i : ℕ) → Dec (P i)) → Dec ((i : ℕ) → In i n → P i)
  unfolding convert both? one_more one_less
  every? zero d = yes (λ i h. absurd (omega (arith, h.0, h.1)))
  every? (suc n) d = convert (one_more n) (one_less n) (both? (every? n d) (d (suc n)))

unfoldable pub kinds? : {P : Kind → Type 0} → ((k : Kind) → Dec (P k)) → Dec ((k : Kind) → P k)
unfolding convert both?
kinds? {P} d = convert all parts (both? (both? (d semaphore) (d flag)) (both? (d mailbox) (d pool)))
  where
    all : (P semaphore × P flag) × (P mailbox × P pool) → (k : Kind) → P k
    all t semaphore = t.0.0
    all t flag = t.0.1
    all t mailbox = t.1.0
    all t pool = t.1.1

    parts : ((k : Kind) → P k) → (P semaphore × P flag) × (P mailbox × P pool)
    parts f = ((f semaphore, f flag), (f mailbox, f pool))

unfoldable pub in? : (i n : ℕ) → Dec (In i n)
unfolding both? dec_le
in? i n = both? (dec_le 1 i) (dec_le i n)

-- ---- the rules

unfoldable pub sizes? : (b : Body) → Dec (Sizes b)
unfolding convert both? in? dec_le
sizes? b =
    convert (λ t. record { priorities = t.0.0; tasks = t.0.1; semaphores = t.1.0.0; flags = t.1.0.1; mailboxes = t.1.1.0; messages = t.1.1.1.0; pools = t.1.1.1.1 })
    (λ r. ((r.priorities, r.tasks), ((r.semaphores, r.flags), (r.mailboxes, (r.messages, r.pools)))))
    (both? (both? (in? b.store.priorities 16) (in? (length b.tasks) 32))
    (both? (both? (dec_le (length b.store.semaphores) 16) (dec_le (length b.store.flags) 16))
    (both? (dec_le b.store.mailboxes 16) (both? (dec_le (length b.store.messages) 256) (dec_le (length b.store.pools) 8)))))

unfoldable pub lies_well? : (n : ℕ) (x : Option ℕ) → Dec (LiesWell n x)
unfolding in?
lies_well? n none = yes tt
lies_well? n (some m) = in? m n

unfoldable pub store? : (u : Store) → Dec (StoreNumbers u)
unfolding convert both? every? in? lies_well? dec_le dec_lt
store? u =
    convert (λ t. record { semaphores = t.0.0; flags = t.0.1; messages = t.1.0; pools = t.1.1.0; clock = t.1.1.1 })
    (λ r. ((r.semaphores, r.flags), (r.messages, (r.pools, r.clock))))
    (both? (both? (every? (length u.semaphores) (λ s. dec_le (of u.semaphores s 0) 65535)) (every? (length u.flags) (λ f. dec_lt (of u.flags f 0) (2 ^ 32))))
    (both? (every? (length u.messages) (λ j. lies_well? u.mailboxes (of u.messages j none)))
    (both? (every? (length u.pools) (λ p. in? (length (of u.pools p [])) 32)) (dec_lt u.clock (2 ^ 48)))))

unfoldable pub cell? : (c : Cell) → Dec (CellNumbers c)
unfolding Code-discrete both? either? dec_lt ℕ_discrete
cell? c = either? (both? (Code-discrete c.code OK) (dec_lt c.word (2 ^ 32))) (both? (either? (Code-discrete c.code E-TMOUT) (Code-discrete c.code E-RLWAI)) (ℕ_discrete c.word 0))

unfoldable pub wish? : (k : Kind) (p m : ℕ) → Dec (WishNumbers k p m)
unfolding convert both? not? dec_le dec_lt ℕ_discrete
wish? semaphore p m = both? (ℕ_discrete p 0) (ℕ_discrete m 0)
wish? flag p m = convert (λ t. (t.0, t.1.0, t.1.1)) (λ t. (t.0, (t.1, t.2))) (both? (not? (ℕ_discrete p 0)) (both? (dec_lt p (2 ^ 32)) (dec_le m 3)))
wish? mailbox p m = both? (ℕ_discrete p 0) (ℕ_discrete m 0)
wish? pool p m = both? (ℕ_discrete p 0) (ℕ_discrete m 0)

unfoldable pub wait? : (u : Store) (w : Option Wait) → Dec (WaitNumbers u w)
unfolding both? in? wish?
wait? u none = yes tt
wait? u (some asleep) = yes tt
wait? u (some (timed t)) = in? t 2147483647
wait? u (some (on k o p m)) = both? (in? o (objects u k)) (wish? k p m)

unfoldable pub vacant? : (t : Task) → Dec (Vacant t)
unfolding Code-discrete convert both? ℕ_discrete
vacant? t =
    convert (λ x. (x.0.0, x.0.1, x.1.0, x.1.1.0, x.1.1.1)) (λ x. ((x.0, x.1), (x.2, (x.3, x.4))))
    (both? (both? (ℕ_discrete t.priority 0) (ℕ_discrete t.start 0)) (both? (ℕ_discrete t.wakeups 0) (both? (Code-discrete t.cell.code OK) (ℕ_discrete t.cell.word 0))))

unfoldable pub task? : (u : Store) (t : Task) → Dec (SoundTask u t)
unfolding convert both? if? unless? in? cell? wait? vacant? dec_le ℕ_discrete
task? u t =
    convert (λ x. record { priority = x.0.0; start = x.0.1; wakeups = x.1.0.0; cell = x.1.0.1; wait = x.1.1.0; sleeper = x.1.1.1.0; dormant = x.1.1.1.1.0; rest = x.1.1.1.1.1.0; absent = x.1.1.1.1.1.1 })
    (λ r. ((r.priority, r.start), ((r.wakeups, r.cell), (r.wait, (r.sleeper, (r.dormant, (r.rest, r.absent)))))))
    (both? (both? (unless? (is_absent t.state) (in? t.priority u.priorities)) (unless? (is_absent t.state) (in? t.start u.priorities)))
    (both? (both? (dec_le t.wakeups 15) (cell? t.cell))
    (both? (wait? u (wait_of t.state))
    (both? (if? (sleeps (wait_of t.state)) (ℕ_discrete t.wakeups 0))
    (both? (if? (is_dormant t.state) (ℕ_discrete t.wakeups 0))
    (both? (if? (is_dormant t.state) (ℕ_discrete t.priority t.start)) (if? (is_absent t.state) (vacant? t))))))))

unfoldable pub handlers? : (l : List Task) (h : Handlers) → Dec (HandlersFit l h)
unfolding both? either? dec_le ℕ_discrete
handlers? l no_handler = yes tt
handlers? l (in_handler n i) = both? (dec_le (suc n) 15) (either? (ℕ_discrete i 0) (Bool-discrete _ true))

unfoldable pub kept? : (t : Bool) (c : Code) → Dec (KeptFits t c)
unfolding Code-discrete either?
kept? false c = either? (Code-discrete c OK) (either? (Code-discrete c E-NOEXS) (Code-discrete c H-NODMT))
kept? true c = either? (Code-discrete c OK) (either? (Code-discrete c E-NOEXS) (either? (Code-discrete c E-DMT) (Code-discrete c E-QOVR)))

unfoldable pub setting? : (m : ℕ) (x : Setting) → Dec (SettingFits m x)
unfolding both? dec_le dec_lt
setting? m unset = yes tt
setting? m (due e p) = both? (dec_lt e m) (dec_le p m)

unfoldable pub alarm? : (n m : ℕ) (x : Alarm) → Dec (AlarmFits n m x)
unfolding convert both? in? kept? setting?
alarm? n m x = convert (λ t. record { task = t.0; kept = t.1.0; setting = t.1.1 }) (λ r. (r.task, (r.kept, r.setting))) (both? (in? x.task n) (both? (kept? x.wakes x.kept) (setting? m x.setting)))

unfoldable pub counter? : (n : ℕ) (c : Counter) → Dec (CounterFits n c)
unfolding convert both? either? every? alarm? dec_le dec_lt ℕ_discrete
counter? n c =
    convert (λ t. record { size = t.0.0; now = t.0.1; count = t.1.0; alarms = t.1.1 }) (λ r. ((r.size, r.now), (r.count, r.alarms)))
    (both? (both? (dec_le c.size 65535) (either? (ℕ_discrete c.now 0) (dec_lt c.now c.size)))
    (both? (ℕ_discrete (length c.alarms) (alarm_count c.size)) (every? (length c.alarms) (λ k. alarm? n c.size (alarm_of c k)))))

unfoldable pub body? : (b : Body) → Dec (SoundBody b)
unfolding convert both? every? sizes? store? task? handlers? counter?
body? b =
    convert (λ t. record { sizes = t.0; store = t.1.0; tasks = t.1.1.0; handlers = t.1.1.1.0; counter = t.1.1.1.1 }) (λ r. (r.sizes, (r.store, (r.tasks, (r.handlers, r.counter)))))
    (both? (sizes? b) (both? (store? b.store) (both? (every? (length b.tasks) (λ i. task? b.store (task b i))) (both? (handlers? b.tasks b.handlers) (counter? (length b.tasks) b.counter)))))

unfoldable pub shape? : (u : Store) (l : Lines) → Dec (Shape u l)
unfolding convert both? kinds? ℕ_discrete
shape? u l =
    convert (λ t. record { ready = t.0; waiting = t.1.0; mail = t.1.1.0; free = t.1.1.1 }) (λ r. (r.ready, (r.waiting, (r.mail, r.free))))
    (both? (ℕ_discrete (length l.ready) u.priorities) (both? (kinds? (λ k. ℕ_discrete (length (at l.waiting k)) (objects u k)))
    (both? (ℕ_discrete (length l.mail) u.mailboxes) (ℕ_discrete (length l.free) (length u.pools)))))

unfoldable pub known? : (n : ℕ) (l : List ℕ) → Dec (Known n l)
unfolding both? in?
known? n [] = yes tt
known? n (x ∷ l) = both? (in? x n) (known? n l)

unfoldable pub queue? : (b : Body) (q : Place) (l : List ℕ) → Dec (Queue b q l)
unfolding convert both? every? known? ℕ_discrete
queue? b q l = convert (λ t. record { known = t.0; stands = t.1 }) (λ r. (r.known, r.stands)) (both? (known? (many b q) l) (every? (many b q) (λ i. ℕ_discrete (times i l) _)))

unfoldable pub places? : {P : Place → Type 0} (u : Store) → ((q : Place) → Dec (P q)) → Dec ((q : Place) → Exists u q → P q)
unfolding convert both? every? kinds?
places? {P} u d =
    convert all parts (both? (every? u.priorities (λ p. d (ready_at p))) (both? (kinds? (λ k. every? (objects u k) (λ o. d (waiters k o))))
    (both? (every? u.mailboxes (λ m. d (mail m))) (every? (length u.pools) (λ p. d (free_in p))))))
  where
    Parts : Type 0
    Parts =
        ((p : ℕ) → In p u.priorities → P (ready_at p))
        × (((k : Kind) (o : ℕ) → In o (objects u k) → P (waiters k o)) × (((m : ℕ) → In m u.mailboxes → P (mail m)) × ((p : ℕ) → In p (length u.pools) → P (free_in p))))

    all : Parts → (q : Place) → Exists u q → P q
    all t (ready_at p) h = t.0 p h
    all t (waiters k o) h = t.1.0 k o h
    all t (mail m) h = t.1.1.0 m h
    all t (free_in p) h = t.1.1.1 p h

    parts : ((q : Place) → Exists u q → P q) → Parts
    parts f = (λ p h. f (ready_at p) h, (λ k o h. f (waiters k o) h, (λ m h. f (mail m) h, λ p h. f (free_in p) h)))

unfoldable pub unserved? : (u : Store) (w : Option Wait) → Dec (Unserved u w)
unserved? u none = yes tt
unserved? u (some asleep) = yes tt
unserved? u (some (timed t)) = yes tt
unserved? u (some (on k o p m)) = Bool-discrete _ false

unfoldable pub sound? : (v : View) → Dec (Sound v)
unfolding convert both? every? unserved? body? shape? queue? places?
sound? v =
    convert (λ t. record { body = t.0.0; shape = t.0.1; queues = t.1.0; unserved = t.1.1 }) (λ r. ((r.body, r.shape), (r.queues, r.unserved)))
    (both? (both? (body? v.body) (shape? v.body.store v.lines))
    (both? (places? v.body.store (λ q. queue? v.body q (line v q))) (every? (length v.body.tasks) (λ i. unserved? v.body.store (wait_of (task v.body i).state)))))
