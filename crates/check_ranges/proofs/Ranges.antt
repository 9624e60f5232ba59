-- The tests of ranges decide the rules of numbers for the body shown: test and picture choose by the same tests of the same words. Assumes nothing.
use mathlib.Core.Bool.{Bool, true, false, cond, ◌&&◌, ◌||◌, false≢true}
use mathlib.Core.List.{List, [], map}
use mathlib.Core.Logic.{◌⊎◌, inl, inr, ◌≢◌}
use mathlib.Core.Option.{none, some}
use mathlib.Core.Path.{◌≡◌, refl, sym, ap, ◌∙◌, subst}
use Prim.Native.Nat.{ℕ, zero, suc, ◌/◌, ◌^◌, ◌≤◌, ◌<◌}
use native.Mathlib.Decide.{ℕ_discrete}
use native.Mathlib.Omega.{arith}
use lib.Dec.{eqb, leb}
use lib.ListN.{length}
use borrow.Author.Tests.{eqb-true, eqb-false, ne_eqb}
use Rattle.rules.specs.Ids.{of, ids, In}
use Rattle.rules.specs.Codes.{Code, OK, H-NUMBER, E-NOEXS, E-DMT, H-NODMT, E-QOVR, E-TMOUT, E-RLWAI}
use Rattle.rules.specs.State.{Kind, semaphore, flag, mailbox, pool, Wait, on, State, dormant, absent, waiting, waiting_suspended, Task, Store, no_alarm, alarm_count, nobody, objects, wait_of, is_dormant, is_absent, is_freed, sleeps}
use Rattle.rules.specs.Sound.{Sizes, LiesWell, StoreNumbers, CellNumbers, WishNumbers, WaitNumbers, SoundTask, HandlersFit, KeptFits, SettingFits, AlarmFits, CounterFits}
use Rattle.rules.proofs.Ids.{tested, of_ids, length_ids}
use Rattle.memory_columns.specs.Layout as Layout
use Rattle.memory_columns.specs.Layout.{max_priorities, max_tasks, max_objects, max_messages, max_pools, max_blocks, max_depth, max_alarms, entry}
use Rattle.memory_picture.specs.Perform.{code_kept, kept_number}
use Rattle.memory_picture.specs.Picture.{code_of, no_wait, wait_shown, state_shown, task_shown, message_shown, bits_of, pool_shown, tasks_shown, store_shown, open_shown, handlers_shown, kept_of, setting_shown, alarm_shown, count_shown, counter_shown, body_shown}
use Rattle.memory_picture.proofs.Cases.{status_cases}
use Rattle.check_ranges.specs.Ranges.{every, within, many, sizes_ok, cell_ok, wish_ok, ticks_ok, flag_wait_ok, wait_ok, wait_at, state_ok, present_ok, vacant_ok, task_ok, semaphore_ok, flag_ok, pool_ok, message_ok, freed_at, interrupted_ok, open_ok, handling_ok, kept_ok, setting_ok, alarm_ok, count_ok, counter_ok, ranges_ok}
use Rattle.check_ranges.proofs.Decisions.{Decides, decides_as, decides_no, decides_yes, decides_and, decides_or, decides_cond, decides_eq, decides_ne, decides_le, decides_lt, decides_in, decides_every}

-- ---- a cell

cell_law : (c w : ℕ) → Decides (cell_ok c w) (CellNumbers (record { code = code_of c; word = w }))
unfolding cell_ok code_of
cell_law c w = decides_cond P (eqb c 0) served (decides_cond P (eqb c 1) (ended E-TMOUT (inl refl) (λ e. omega (arith, ap code_kept e)))
    (decides_cond P (eqb c 2) (ended E-RLWAI (inr refl) (λ e. omega (arith, ap code_kept e))) (decides_no unknown)))
  where
    P : Code → Type 0
    P k = CellNumbers (record { code = k; word = w })

    served : Decides (leb w 4294967295) (P OK)
    served = decides_as (decides_le w 4294967295) (λ h. inl (refl, omega arith)) back
      where
        back : P OK → w ≤ 4294967295
        back (inl h) = omega (arith, h.1)
        back (inr h) = omega (arith, h.1)

    ended : (k : Code) → (k ≡ E-TMOUT) ⊎ (k ≡ E-RLWAI) → k ≢ OK → Decides (eqb w 0) (P k)
    ended k q ne = decides_as (decides_eq w 0) (λ h. inr (q, h)) back
      where
        back : P k → w ≡ 0
        back (inl h) = absurd (ne h.0)
        back (inr h) = h.1

    unknown : P H-NUMBER → ⊥
    unknown (inl h) = omega (arith, ap code_kept h.0)
    unknown (inr (inl e, h)) = omega (arith, ap code_kept e)
    unknown (inr (inr e, h)) = omega (arith, ap code_kept e)

-- ---- a task

-- how many objects of a kind there are
abbrev pub many_of : List ℕ → Kind → ℕ
many_of b semaphore = many b Layout.semaphores
many_of b flag = many b Layout.flags
many_of b mailbox = many b Layout.mailboxes
many_of b pool = many b Layout.pools

module _ (b msgs : List ℕ) where
  abbrev u : Store
  u = store_shown b msgs

  pub objects_shown : (k : Kind) → objects (store_shown b msgs) k ≡ many_of b k
  unfolding store_shown
  objects_shown semaphore = length_ids _ _
  objects_shown flag = length_ids _ _
  objects_shown mailbox = refl
  objects_shown pool = length_ids _ _

  -- of a wait, with n wake-ups
  abbrev WaitGood : ℕ → Wait → Type 0
  WaitGood n w = WaitNumbers u (some w) × (sleeps (some w) ≡ true → n ≡ 0)

  on_law : (k : Kind) (n o p m : ℕ) {t : Bool} → Decides t (In o (many_of b k) × WishNumbers k p m) → Decides t (WaitGood n (on k o p m))
  on_law k n o p m d = decides_as d
      (λ h. ((subst (In o) (sym (objects_shown k)) h.0, h.1), λ e. absurd (false≢true e)))
      (λ h. (subst (In o) (objects_shown k) h.0.0, h.0.1))

  plain_law : (k : Kind) (n o : ℕ) → WishNumbers k 0 0 → Decides (within o (many_of b k)) (WaitGood n (on k o 0 0))
  plain_law k n o w = on_law k n o 0 0 (decides_as (decides_in o (many_of b k)) (λ h. (h, w)) (λ h. h.0))

  wish_law : (p m : ℕ) → Decides (wish_ok p m) (WishNumbers flag p m)
  unfolding wish_ok
  wish_law p m = decides_as (decides_and (decides_ne p 0) (λ _. decides_and (decides_le p 4294967295) (λ _. decides_le m 3)))
      (λ h. (h.0, omega (arith, h.1.0), h.1.1)) (λ h. (h.0, (omega (arith, h.1), h.2)))

  wait_law : (n k o p m t : ℕ) → Decides (wait_ok b n k o p m t) (WaitGood n (wait_shown k o p m t))
  unfolding wait_ok wait_shown ticks_ok flag_wait_ok
  wait_law n k o p m t =
      decides_cond (WaitGood n) (eqb k 0) (decides_as (decides_eq n 0) (λ h. (tt, λ _. h)) (λ h. h.1 refl))
      (decides_cond (WaitGood n) (eqb k 1) (decides_as (decides_and (decides_eq n 0) (λ _. decides_in t 2147483647)) (λ h. (h.1, λ _. h.0)) (λ h. (h.1 refl, h.0)))
      (decides_cond (WaitGood n) (eqb k 2) (plain_law semaphore n o (refl, refl))
      (decides_cond (WaitGood n) (eqb k 3) (on_law flag n o p m (decides_and (decides_in o (many b Layout.flags)) (λ _. wish_law p m)))
      (decides_cond (WaitGood n) (eqb k 4) (plain_law mailbox n o (refl, refl))
      (decides_cond (WaitGood n) (eqb k 5) (plain_law pool n o (refl, refl))
      (decides_no (λ h. omega (arith, h.0.0))))))))

  -- of a state, with n wake-ups, priority p and starting priority s
  abbrev StateGood : ℕ → ℕ → ℕ → State → Type 0
  StateGood n p s x = WaitNumbers u (wait_of x) × (sleeps (wait_of x) ≡ true → n ≡ 0) × (is_dormant x ≡ true → n ≡ 0) × (is_dormant x ≡ true → p ≡ s)

  state_law : (i : ℕ) → eqb (entry Layout.status b i) 6 ≡ false → Decides (state_ok b i) (StateGood (entry Layout.wakeups b i) (entry Layout.priority b i) (entry Layout.start b i) (task_shown b i).state)
  unfolding state_ok state_shown task_shown
  state_law i there =
      decides_cond P (eqb s 0) (decides_as (decides_and (decides_eq n 0) (λ _. decides_eq p q)) (λ h. (tt, (λ _. h.0), (λ _. h.0), (λ _. h.1))) (λ h. (h.2 refl, h.3 refl)))
      (decides_cond P (eqb s 1) (decides_yes none_asks)
      (decides_cond P (eqb s 3) waits
      (decides_cond P (eqb s 4) (decides_yes none_asks)
      (decides_cond P (eqb s 5) waits
      (rw there (decides_no (λ h. omega (arith, h.0.0))))))))
    where
      s : ℕ
      s = entry Layout.status b i

      n : ℕ
      n = entry Layout.wakeups b i

      p : ℕ
      p = entry Layout.priority b i

      q : ℕ
      q = entry Layout.start b i

      w : Wait
      w = wait_shown (entry Layout.kind b i) (entry Layout.object b i) (entry Layout.wish b i) (entry Layout.mode b i) (entry Layout.ticks b i)

      P : State → Type 0
      P = StateGood n p q

      none_asks : Unit {0} × (false ≡ true → n ≡ 0) × (false ≡ true → n ≡ 0) × (false ≡ true → p ≡ q)
      none_asks = (tt, (λ e. absurd (false≢true e)), (λ e. absurd (false≢true e)), (λ e. absurd (false≢true e)))

      waits : Decides (wait_at b i) (WaitNumbers u (some w) × (sleeps (some w) ≡ true → n ≡ 0) × (false ≡ true → n ≡ 0) × (false ≡ true → p ≡ q))
      waits = decides_as (wait_law n _ _ _ _ _) (λ h. (h.0, h.1, (λ e. absurd (false≢true e)), (λ e. absurd (false≢true e)))) (λ h. (h.0, h.1))

  -- a task that is there
  not_absent : (s : ℕ) (w : Wait) → eqb s 6 ≡ false → is_absent (state_shown s w) ≡ false
  not_absent s w e = status_cases s w (λ x. is_absent x ≡ false) (λ _. refl) (λ _. refl) (λ _. refl) (λ _. refl) (λ _. refl) (λ d. absurd (eqb-false s 6 e d)) refl

  present_law : (i : ℕ) → eqb (entry Layout.status b i) 6 ≡ false → Decides (present_ok b i) (SoundTask u (task_shown b i))
  unfolding present_ok task_shown store_shown
  present_law i e = decides_as
      (decides_and (decides_in (entry Layout.priority b i) (many b Layout.priorities)) (λ _. decides_and (decides_in (entry Layout.start b i) (many b Layout.priorities)) (λ _. decides_and (decides_le (entry Layout.wakeups b i) 15)
      (λ _. decides_and (cell_law (entry Layout.code b i) (entry Layout.word b i)) (λ _. state_law i e)))))
      (λ h. record {
        priority = λ _. h.0;
        start = λ _. h.1.0;
        wakeups = h.1.1.0;
        cell = h.1.1.1.0;
        wait = h.1.1.1.1.0;
        sleeper = h.1.1.1.1.1;
        dormant = h.1.1.1.1.2;
        rest = h.1.1.1.1.3;
        absent = λ d. absurd (false≢true (sym (not_absent _ _ e) ∙ d));
      })
      (λ h. (h.priority (not_absent _ _ e), (h.start (not_absent _ _ e), (h.wakeups, (h.cell, (h.wait, h.sleeper, h.dormant, h.rest))))))

  -- one that is not
  ok_law : (c : ℕ) → Decides (eqb c 0) (code_of c ≡ OK)
  unfolding code_of
  ok_law c = go (eqb c 0) (eqb c 1) (eqb c 2)
    where
      go : (x y z : Bool) → Decides x (cond x OK (cond y E-TMOUT (cond z E-RLWAI H-NUMBER)) ≡ OK)
      go true y z = decides_yes refl
      go false true z = decides_no (λ e. omega (arith, ap code_kept e))
      go false false true = decides_no (λ e. omega (arith, ap code_kept e))
      go false false false = decides_no (λ e. omega (arith, ap code_kept e))

  vacant_law : (i : ℕ) → eqb (entry Layout.status b i) 6 ≡ true → Decides (vacant_ok b i) (SoundTask u (task_shown b i))
  unfolding vacant_ok task_shown state_shown
  vacant_law i e = rw (eqb-true (entry Layout.status b i) 6 e) (decides_as
      (decides_and (decides_eq (entry Layout.priority b i) 0) (λ _. decides_and (decides_eq (entry Layout.start b i) 0) (λ _. decides_and (decides_eq (entry Layout.wakeups b i) 0)
      (λ _. decides_and (ok_law (entry Layout.code b i)) (λ _. decides_eq (entry Layout.word b i) 0)))))
      (λ h. record {
        priority = λ d. absurd (false≢true (sym d));
        start = λ d. absurd (false≢true (sym d));
        wakeups = omega (arith, h.1.1.0);
        cell = inl (h.1.1.1.0, omega (arith, h.1.1.1.1));
        wait = tt;
        sleeper = λ d. absurd (false≢true d);
        dormant = λ d. absurd (false≢true d);
        rest = λ d. absurd (false≢true d);
        absent = λ d. (h.0, h.1.0, h.1.1.0, h.1.1.1.0, h.1.1.1.1);
      })
      (λ h. let v = h.absent refl in (v.0, (v.1, (v.2, (v.3, v.4))))))

  task_law : (i : ℕ) → Decides (task_ok b i) (SoundTask u (task_shown b i))
  unfolding task_ok
  task_law i = go (eqb (entry Layout.status b i) 6) refl
    where
      go : (t : Bool) → eqb (entry Layout.status b i) 6 ≡ t → Decides (cond t (vacant_ok b i) (present_ok b i)) (SoundTask u (task_shown b i))
      go true e = vacant_law i e
      go false e = present_law i e

-- ---- tables

-- a test of each id decides what is asked of each entry
table_law : {A : Type 0} (P : A → Type 0) (n : ℕ) (g : ℕ → Bool) (f : ℕ → A) (d : A) → ((i : ℕ) → Decides (g i) (P (f i)))
    → Decides (every n 1 g) ((i : ℕ) → In i (length (map f (ids n))) → P (of (map f (ids n)) i d))
table_law P n g f d h = decides_as (decides_every n g (λ i _. h i))
    (λ k i r. let r' : In i n = subst (In i) (length_ids f n) r in subst P (sym (of_ids f n i d r')) (k i r'))
    (λ k i r. subst P (of_ids f n i d r) (k i (subst (In i) (sym (length_ids f n)) r)))

message_law : (n m : ℕ) → Decides (leb m n) (LiesWell n (message_shown m))
message_law n m = go (eqb m 0) refl
  where
    go : (t : Bool) → eqb m 0 ≡ t → Decides (leb m n) (LiesWell n (cond t none (some m)))
    go true e = decides_as (decides_le m n) (λ _. tt) (λ _. omega (arith, eqb-true m 0 e))
    go false e = decides_as (decides_le m n) (λ h. (omega (arith, eqb-false m 0 e), h)) (λ h. h.1)

pub length_bits : (k m : ℕ) → length (bits_of k m) ≡ k
unfolding bits_of
length_bits zero m = refl
length_bits (suc k) m = ap suc (length_bits k (m / 2))

pool_law : (b : List ℕ) (i : ℕ) → Decides (pool_ok b i) (In (length (pool_shown (entry Layout.size b i) (entry Layout.free b i))) max_blocks)
unfolding pool_ok pool_shown
pool_law b i = go (eqb (m / 2 ^ k) 0)
  where
    k : ℕ
    k = entry Layout.size b i

    m : ℕ
    m = entry Layout.free b i

    go : (t : Bool) → Decides (within k max_blocks && t) (In (length (cond t (bits_of k m) [])) max_blocks)
    go true = decides_as (decides_and {B = Unit {0}} (decides_in k max_blocks) (λ _. decides_yes tt)) (λ h. rw (length_bits k m) h.0) (λ h. (rw (length_bits k m) at h, tt))
    go false = decides_as (decides_and {B = ⊥} (decides_in k max_blocks) (λ _. decides_no (λ x. x))) (λ h. absurd h.1) (λ h. absurd (omega (arith, h.0)))

-- ---- the handlers

freed_shown : (s : ℕ) (w : Wait) → is_freed (state_shown s w) ≡ (eqb s 1 || eqb s 4)
unfolding state_shown
freed_shown s w = elim (ℕ_discrete s 1) [
  | yes e ↦ rw e
  | no n ↦ elim (ℕ_discrete s 4) [ yes e ↦ rw e | no m ↦ rw (ne_eqb s 1 n, ne_eqb s 4 m) (other (eqb s 0) (eqb s 3) (eqb s 5) (eqb s 6)) ]
]
  where
    other : (x y z a : Bool) → is_freed (cond x dormant (cond y (waiting w) (cond z (waiting_suspended w) (cond a absent (waiting no_wait))))) ≡ false
    other true y z a = refl
    other false true z a = refl
    other false false true a = refl
    other false false false true = refl
    other false false false false = refl

module _ (b : List ℕ) where
  abbrev tasks : List Task
  tasks = map (task_shown b) (ids (tasks_shown b))

  freed_law : (i : ℕ) → Decides (freed_at b i) (is_freed (task_shown b i).state ≡ true)
  unfolding task_shown
  freed_law i = rw (freed_shown (entry Layout.status b i)) ((λ e. e), (λ e. e))

  -- at a number that no task has, nobody is read, and nobody is dormant
  freed_exists : (i : ℕ) → is_freed (of tasks i nobody).state ≡ true → In i (tasks_shown b)
  freed_exists i e = subst (In i) (length_ids (task_shown b) (tasks_shown b)) (tested (λ t. is_freed t.state) tasks i nobody refl e)

  interrupted_law : (i : ℕ) → Decides (interrupted_ok b i) ((i ≡ 0) ⊎ (is_freed (of tasks i nobody).state ≡ true))
  unfolding interrupted_ok
  interrupted_law i = decides_or (decides_eq i 0) (decides_as
      (decides_and (decides_in i (tasks_shown b)) (λ _. freed_law i))
      (λ h. rw (of_ids (task_shown b) (tasks_shown b) i nobody h.0) h.1)
      (λ e. (freed_exists i e, rw (of_ids (task_shown b) (tasks_shown b) i nobody (freed_exists i e)) at e)))

  open_law : (n i : ℕ) → Decides (open_ok b n i) (HandlersFit tasks (open_shown n i))
  unfolding open_ok
  open_law zero i = decides_yes tt
  open_law (suc n) i = rw (ne_eqb (suc n) 0 (λ e. omega arith)) (decides_and (decides_le (suc n) max_depth) (λ _. interrupted_law i))

  handlers_law : Decides (handling_ok b) (HandlersFit tasks (handlers_shown b))
  unfolding handlers_shown
  handlers_law = open_law _ _

-- ---- the counter

-- codes with other numbers are others
start_keeps : (c : Code) → c ≢ OK → c ≢ E-NOEXS → c ≢ H-NODMT → KeptFits false c → ⊥
start_keeps c x y z (inl e) = x e
start_keeps c x y z (inr (inl e)) = y e
start_keeps c x y z (inr (inr e)) = z e

wake_keeps : (c : Code) → c ≢ OK → c ≢ E-NOEXS → c ≢ E-DMT → c ≢ E-QOVR → KeptFits true c → ⊥
wake_keeps c x y z w (inl e) = x e
wake_keeps c x y z w (inr (inl e)) = y e
wake_keeps c x y z w (inr (inr (inl e))) = z e
wake_keeps c x y z w (inr (inr (inr e))) = w e

kept_law : (w : Bool) (c : ℕ) → Decides (kept_ok w c) (KeptFits w (kept_of c))
unfolding kept_ok kept_of kept_number
kept_law true c =
    decides_cond P (eqb c 0) (decides_yes (inl refl))
    (decides_cond P (eqb c 3) (decides_no (wake_keeps H-NODMT (λ e. omega (arith, ap kept_number e)) (λ e. omega (arith, ap kept_number e)) (λ e. omega (arith, ap kept_number e)) (λ e. omega (arith, ap kept_number e))))
    (decides_cond P (eqb c 2100) (decides_yes (inr (inl refl)))
    (decides_cond P (eqb c 2101) (decides_yes (inr (inr (inl refl))))
    (decides_cond P (eqb c 2889) (decides_yes (inr (inr (inr refl))))
    (decides_no (wake_keeps H-NUMBER (λ e. omega (arith, ap kept_number e)) (λ e. omega (arith, ap kept_number e)) (λ e. omega (arith, ap kept_number e)) (λ e. omega (arith, ap kept_number e))))))))
  where
    P : Code → Type 0
    P = KeptFits true
kept_law false c =
    decides_cond P (eqb c 0) (decides_yes (inl refl))
    (decides_cond P (eqb c 3) (decides_yes (inr (inr refl)))
    (decides_cond P (eqb c 2100) (decides_yes (inr (inl refl)))
    (decides_cond P (eqb c 2101) (decides_no (start_keeps E-DMT (λ e. omega (arith, ap kept_number e)) (λ e. omega (arith, ap kept_number e)) (λ e. omega (arith, ap kept_number e))))
    (decides_cond P (eqb c 2889) (decides_no (start_keeps E-QOVR (λ e. omega (arith, ap kept_number e)) (λ e. omega (arith, ap kept_number e)) (λ e. omega (arith, ap kept_number e))))
    (decides_no (start_keeps H-NUMBER (λ e. omega (arith, ap kept_number e)) (λ e. omega (arith, ap kept_number e)) (λ e. omega (arith, ap kept_number e))))))))
  where
    P : Code → Type 0
    P = KeptFits false

setting_law : (m d p : ℕ) → Decides (setting_ok m d p) (SettingFits m (setting_shown d p))
unfolding setting_ok
setting_law m zero p = decides_yes tt
setting_law m (suc e) p = rw (ne_eqb (suc e) 0 (λ q. omega arith)) (decides_as (decides_and (decides_le (suc e) m) (λ _. decides_le p m)) (λ h. (omega (arith, h.0), h.1)) (λ h. (omega (arith, h.0), h.1)))

-- task 0 is shown where it neither starts nor wakes
named_law : (w t n : ℕ) → Decides (leb w 1 && within t n) (In (cond (leb w 1) t 0) n)
named_law w t n = go (leb w 1)
  where
    go : (x : Bool) → Decides (x && within t n) (In (cond x t 0) n)
    go true = decides_in t n
    go false = decides_no (λ h. omega (arith, h.0))

module _ (b : List ℕ) (m : ℕ) where
  alarm_law : (k : ℕ) → Decides (alarm_ok b m k) (AlarmFits (tasks_shown b) m (alarm_shown b k))
  unfolding alarm_ok alarm_shown
  alarm_law k = decides_as
      (decides_and (named_law (entry Layout.alarm_wakes b k) (entry Layout.alarm_task b k) (tasks_shown b))
      (λ _. decides_and (kept_law (eqb (entry Layout.alarm_wakes b k) 1) (entry Layout.alarm_code b k)) (λ _. setting_law m (entry Layout.alarm_due b k) (entry Layout.alarm_period b k))))
      (λ h. record { task = h.0; kept = h.1.0; setting = h.1.1 }) (λ r. (r.task, (r.kept, r.setting)))

count_law : (b : List ℕ) (n m c : ℕ) → n ≡ tasks_shown b → Decides (count_ok b m c) (CounterFits n (record { size = m; now = count_shown m c; alarms = map (alarm_shown b) (ids (alarm_count m)) }))
unfolding count_ok ids
count_law b n zero c e = decides_yes (record { size = omega arith; now = inl refl; count = refl; alarms = λ k h. absurd (omega (arith, h.0, h.1)) })
count_law b n (suc m) c e = rw (ne_eqb (suc m) 0 (λ q. omega arith), e) (decides_as
    (decides_and (decides_le (suc m) 65535) (λ _. decides_and (decides_lt c (suc m)) (λ _. table_law (AlarmFits (tasks_shown b) (suc m)) max_alarms (alarm_ok b (suc m)) (alarm_shown b) no_alarm (alarm_law b (suc m)))))
    (λ h. record { size = h.0; now = inr h.1.0; count = length_ids (alarm_shown b) max_alarms; alarms = h.1.1 })
    (λ r. (r.size, (elim r.now [ inl q ↦ omega arith | inr q ↦ q ], r.alarms))))

counter_law : (b : List ℕ) → Decides (counter_ok b) (CounterFits (length (map (task_shown b) (ids (tasks_shown b)))) (counter_shown b))
unfolding counter_shown
counter_law b = count_law b _ _ _ (length_ids (task_shown b) (tasks_shown b))

-- ---- the sizes

sizes_law : (b msgs : List ℕ) → Decides (sizes_ok b) (Sizes (body_shown b msgs) × (entry Layout.system b Layout.clock_low < 2 ^ 32) × ((store_shown b msgs).clock < 2 ^ 48))
unfolding sizes_ok body_shown store_shown
sizes_law b msgs = decides_as
    (decides_and (decides_in (many b Layout.priorities) max_priorities) (λ _. decides_and (decides_in (many b Layout.tasks) max_tasks) (λ _. decides_and (decides_le (many b Layout.semaphores) max_objects) (λ _. decides_and (decides_le (many b Layout.flags) max_objects)
    (λ _. decides_and (decides_le (many b Layout.mailboxes) max_objects) (λ _. decides_and (decides_le (many b Layout.messages) max_messages) (λ _. decides_and (decides_le (many b Layout.pools) max_pools)
    (λ _. decides_and (decides_lt (many b Layout.clock_low) (2 ^ 32)) (λ _. decides_lt (many b Layout.clock_high) (2 ^ 16))))))))))
    (λ h. let r = h.1.1.1.1.1.1 in (
      record {
        priorities = h.0;
        tasks = subst (λ (n : ℕ). In n max_tasks) (sym (length_ids _ _)) h.1.0;
        semaphores = rw length_ids h.1.1.0;
        flags = rw length_ids h.1.1.1.0;
        mailboxes = h.1.1.1.1.0;
        messages = rw length_ids h.1.1.1.1.1.0;
        pools = rw length_ids r.0;
      },
      r.1.0,
      omega (arith, r.1.0, r.1.1),
    ))
    (λ h. let s = h.0 in (
      s.priorities,
      (
        subst (λ (n : ℕ). In n max_tasks) (length_ids _ _) s.tasks,
        (
          rw length_ids at s.semaphores,
          (
            rw length_ids at s.flags,
            (
              s.mailboxes,
              (
                rw length_ids at s.messages,
                (rw length_ids at s.pools, (h.1, omega (arith, h.1, h.2))),
              ),
            ),
          ),
        ),
      ),
    ))

-- ---- all ranges

pub record Ranges (b msgs : List ℕ) : Type 0 where
  pub sizes : Sizes (body_shown b msgs)
  pub low : entry Layout.system b Layout.clock_low < 2 ^ 32
  pub store : StoreNumbers (store_shown b msgs)
  pub tasks : (i : ℕ) → In i (tasks_shown b) → SoundTask (store_shown b msgs) (task_shown b i)
  pub handlers : HandlersFit (map (task_shown b) (ids (tasks_shown b))) (handlers_shown b)
  pub counter : CounterFits (length (map (task_shown b) (ids (tasks_shown b)))) (counter_shown b)

pub ranges_law : (b msgs : List ℕ) → Decides (ranges_ok b msgs) (Ranges b msgs)
unfolding ranges_ok store_shown
ranges_law b msgs = decides_as
    (decides_and (sizes_law b msgs) (λ _. decides_and (decides_every (many b Layout.tasks) (task_ok b) (λ i _. task_law b msgs i))
    (λ _. decides_and (table_law (λ n. n ≤ 65535) (many b Layout.semaphores) (semaphore_ok b) (entry Layout.semaphore b) 0 (λ i. decides_le _ 65535))
    (λ _. decides_and (table_law (λ n. n < 2 ^ 32) (many b Layout.flags) (flag_ok b) (entry Layout.flag b) 0 (λ i. decides_as (decides_le (entry Layout.flag b i) 4294967295) (λ h. omega arith) (λ h. omega arith)))
    (λ _. decides_and (table_law (λ l. In (length l) max_blocks) (many b Layout.pools) (pool_ok b) (λ p. pool_shown (entry Layout.size b p) (entry Layout.free b p)) [] (pool_law b))
    (λ _. decides_and (table_law (LiesWell (many b Layout.mailboxes)) (many b Layout.messages) (message_ok b msgs) (λ j. message_shown (of msgs j 0)) none (λ j. message_law (many b Layout.mailboxes) (of msgs j 0)))
    (λ _. decides_and (handlers_law b) (λ _. counter_law b))))))))
    (λ h. record {
      sizes = h.0.0;
      low = h.0.1;
      store = record { semaphores = h.1.1.0; flags = h.1.1.1.0; messages = h.1.1.1.1.1.0; pools = h.1.1.1.1.0; clock = h.0.2 };
      tasks = h.1.0;
      handlers = h.1.1.1.1.1.1.0;
      counter = h.1.1.1.1.1.1.1;
    })
    (λ r. ((r.sizes, r.low, r.store.clock), (r.tasks, (r.store.semaphores, (r.store.flags, (r.store.pools, (r.store.messages, (r.handlers, r.counter))))))))
