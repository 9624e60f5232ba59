-- The memory that the start lays for an accepted setup, before any task is started, shows the idle state with empty queues, and is accepted.
-- Assumes nothing.
use Prim.Native.Nat.{ℕ, zero, suc, ◌+◌, ◌-◌, ◌*◌, ◌^◌, ◌≤◌, ◌<◌}
use mathlib.Core.Bool.{Bool, true, false, cond}
use mathlib.Core.List.{List, [], ◌∷◌, map}
use mathlib.Core.Logic.{inl, inr}
use mathlib.Core.Option.{none}
use mathlib.Core.Path.{◌≡◌, refl, sym, ap, ◌∙◌, subst}
use native.Mathlib.Nat.{div-eq_of_lt}
use native.Mathlib.Omega.{arith}
use lib.Dec.{eqb, leb, lit<}
use lib.ListN.{length, get_or, set, replicate, length-replicate, length-map}
use lib.Pow.{pow_pos}
use lib.Seq.{ext_get_or}
use borrow.Author.Tests.{leb-false, ne_eqb}
use Rattle.rules.specs.Ids.{of, from, ids, In, Each}
use Rattle.rules.specs.Setup.{word_at, Entry, AlarmEntry, CounterEntry, Setup, GoodCounter}
use Rattle.rules.specs.State.{semaphore, flag, mailbox, pool, nobody, Store, no_handler, no_alarm, alarm_count}
use Rattle.rules.specs.Places.{Place, ready_at, waiters, mail, free_in, Sort, tasks, messages, blocks, sort_at, Exists, tabulate}
use Rattle.rules.specs.Kernel.{idle_task, idle_alarm, idle_counter, idle}
use Rattle.rules.proofs.Ids.{of_replicate, map_ids}
use Rattle.rules.proofs.Accepted.{GoodSetup, unstarted_sound}
use Rattle.rules.proofs.Lines.{tabulate_same}
use Rattle.memory_rings.specs.Rings.{line_of, Linked}
use Rattle.memory_rings.proofs.Columns.{col_at}
use Rattle.memory_rings.proofs.Laws.{blank_law, linked_ext, line_is}
use Rattle.setup_plan.specs.declared.Plan.{Plan}
use Rattle.setup_plan.specs.Layout.{alarms_at, counter_at, PlanShows, PlanFits}
use Rattle.memory_columns.specs.declared.Rings.{Rings}
use Rattle.memory_columns.specs.declared.Rings.TheVariants.{Tasks, Messages, Blocks}
use Rattle.memory_columns.specs.Layout as Layout
use Rattle.memory_columns.specs.Layout.{Column, state_words, max_messages, max_alarms, at_most, next_of, prev_of, links_of, fits, clear, words, entry, Only}
use Rattle.memory_columns.proofs.Frame.{Sized, words_length, only_both}
use Rattle.memory_picture.specs.Picture.{code_of, state_shown, task_shown, message_shown, bits_of, pool_shown, store_shown, handlers_shown, kept_of, alarm_shown, count_shown, counter_shown, body_shown, anchor, rings_at, ids_shown, numbers_of, line_shown, view_shown, mask_of, occupied, nonempty_shown, Used, Whole, Accepted}
use Rattle.memory_picture.proofs.Done.{used_at}
use Rattle.memory_picture.proofs.FormPile.{table_is}
use Rattle.kernel_fresh.specs.Laying.{counted, entered, emptied}
use Rattle.kernel_fresh.proofs.Idle.{counted_size, counted_only, counted_system, entry_columns, entered_size, entered_only, entered_priority, entered_start, entered_semaphore, entered_flag, entered_size_of, entered_none, entered_counter, entered_alarm_task, entered_alarm_wakes, emptied_size, emptied_only, InUse, first_node, emptied_anchor, emptied_id}

-- ---- tables of one entry

of_map_in : {A B : Type 0} (f : A → B) (l : List A) (i : ℕ) (a : A) (d : B) → In i (length l) → of (map f l) i d ≡ f (of l i a)
of_map_in f l zero a d r = absurd (omega (arith, r.0))
of_map_in f [] (suc i) a d r = absurd (omega (arith, r.1))
of_map_in f (x ∷ l) (suc zero) a d r = refl
of_map_in f (x ∷ l) (suc (suc i)) a d r = of_map_in f l (suc i) a d (omega arith, omega (arith, r.1))

zero_at : (n i : ℕ) → ◌≡◌ {A = ℕ} (get_or (replicate n 0) i 0) 0
zero_at n i = of_replicate n (suc i) 0

-- every word is 0
abbrev pub Blank : List ℕ → Type 0
Blank b = (d : Column) → fits d ≡ true → words d b ≡ replicate d.width 0

pub zeros_blank : Blank (replicate state_words 0)
zeros_blank d f =
    let e = words_length d (replicate state_words 0) (length-replicate {A = ℕ} state_words 0) f in
    ext_get_or 0 _ _ (e ∙ sym (length-replicate d.width 0)) (λ i k. col_at d.at d.width (replicate state_words 0) i (omega arith) ∙ zero_at state_words (d.at + i) ∙ sym (zero_at d.width i))

-- ---- no mark is set

none_marked : (k n : ℕ) → mask_of (map (λ q. false) (from k n)) ≡ 0
unfolding mask_of
none_marked k zero = refl
none_marked k (suc n) = rw (none_marked (suc k) n)

-- ---- a pool of which every block is out

no_bits : (k : ℕ) → bits_of k 0 ≡ replicate k false
unfolding bits_of
no_bits zero = refl
no_bits (suc k) = ap (λ (l : List Bool). false ∷ l) (no_bits k)

out_pool : (k : ℕ) → pool_shown k 0 ≡ replicate k false
unfolding pool_shown
out_pool k = rw (div-eq_of_lt {n = 0} {m = 2 ^ k} (pow_pos k)) (no_bits k)

-- ---- an alarm's entry

-- its task, then 1 if it wakes it
alarm_at_lem : (s : List ℕ) (n i k : ℕ) (d : AlarmEntry) → In k n → of (alarms_at s i n) k d ≡ record { task = word_at s (i + 8 * (k - 1)); wakes = eqb (word_at s (i + 8 * (k - 1) + 4)) 1 }
alarm_at_lem s n i zero d r = absurd (omega (arith, r.0))
alarm_at_lem s zero i (suc k) d r = absurd (omega (arith, r.1))
alarm_at_lem s (suc n) i (suc zero) d r = ap (λ (j : ℕ). record { task = word_at s j; wakes = eqb (word_at s (j + 4)) 1 }) (omega arith)
alarm_at_lem s (suc n) i (suc (suc k)) d r =
    alarm_at_lem s n (i + 8) (suc k) d (omega arith, omega (arith, r.1)) ∙ ap (λ (j : ℕ). record { task = word_at s j; wakes = eqb (word_at s (j + 4)) 1 }) (omega arith)

-- a word that is 0 or 1 in the memory, and 1 where the entry's is
bit_kept : (w : ℕ) → (leb (at_most w 1) 1 ≡ true) × (eqb (at_most w 1) 1 ≡ eqb w 1)
bit_kept w = go (leb w 1) refl
  where
    go : (t : Bool) → leb w 1 ≡ t → (leb (cond t w 0) 1 ≡ true) × (eqb (cond t w 0) 1 ≡ eqb w 1)
    go true e = (e, refl)
    go false e = (refl, sym (ne_eqb w 1 (λ d. omega (arith, d, leb-false w 1 e))))

-- there is no count where there is no counter
count_zero : (m : ℕ) → count_shown m 0 ≡ 0
count_zero zero = refl
count_zero (suc m) = refl

eight_alarms : (m : ℕ) → 1 ≤ m → alarm_count m ≡ 8
eight_alarms zero r = absurd (omega (arith, r))
eight_alarms (suc m) r = refl

-- ---- the memory

abbrev no_entry : Entry
no_entry = record { priority = 0; started = false }

module _ (s : List ℕ) (u : Setup) (G : GoodSetup u) (p : Plan) (S : PlanShows p s u) (F : PlanFits p (length s))
    (z : List ℕ) (hz : Sized z) (blank : Blank z)
    (marks : List ℕ) (hm : length marks ≡ max_messages) (unlaid : (j : ℕ) → of marks j 0 ≡ 0) where
  abbrev pub memory : List ℕ
  memory = emptied p (entered s p (counted p z))

  c₀ : Sized (counted p z)
  c₀ = counted_size p z hz

  c₁ : Sized (entered s p (counted p z))
  c₁ = entered_size s p F (counted p z) c₀

  size : Sized memory
  size = emptied_size p _ c₁

  -- what is written before the queues
  laid_only : Only (Layout.system ∷ entry_columns) z (entered s p (counted p z))
  laid_only = only_both (counted_only p z) (entered_only s p F (counted p z) c₀)

  zeros : (d : Column) → clear (Layout.system ∷ entry_columns) d ≡ true → fits d ≡ true → words d (entered s p (counted p z)) ≡ replicate d.width 0
  zeros d e f = laid_only.kept d e ∙ blank d f

  as_entered : (d : Column) → clear (links_of Tasks ∷ links_of Messages ∷ links_of Blocks ∷ []) d ≡ true → (i : ℕ) → entry d memory i ≡ entry d (entered s p (counted p z)) i
  as_entered d e i = ap (λ (l : List ℕ). get_or l i 0) ((emptied_only p _ c₁).kept d e)

  -- no link is written there either
  at_zero : (d : Column) → clear (Layout.system ∷ entry_columns) d ≡ true → clear (links_of Tasks ∷ links_of Messages ∷ links_of Blocks ∷ []) d ≡ true → fits d ≡ true → (i : ℕ) → entry d memory i ≡ 0
  at_zero d e e' f i = as_entered d e' i ∙ ap (λ (l : List ℕ). get_or l i 0) (zeros d e f) ∙ zero_at d.width i

  counts : List ℕ
  counts = p.priorities ∷ p.tasks ∷ p.semaphores ∷ p.flags ∷ p.mailboxes ∷ p.pools ∷ p.messages ∷ replicate ((Layout.system).width - Layout.clock_low) 0

  at_system : (k : ℕ) → entry Layout.system memory k ≡ get_or counts k 0
  unfolding counts
  at_system k =
      as_entered Layout.system refl k
      ∙ ap (λ (l : List ℕ). get_or l k 0) ((entered_only s p F (counted p z) c₀).kept Layout.system refl ∙ counted_system p z (blank Layout.system refl))

  -- ---- what is shown

  task_shown_lem : (i : ℕ) → In i (length (map idle_task u.tasks)) → task_shown memory i ≡ of (map idle_task u.tasks) i nobody
  unfolding task_shown state_shown code_of
  task_shown_lem i h =
      let r : In i (length u.tasks) = (h.0, omega (arith, h.1, length-map u.tasks idle_task)) in
      let q : In i p.tasks = (h.0, omega (arith, r.1, S.tasks)) in
      rw (
        at_zero Layout.status refl refl refl i,
        as_entered Layout.priority refl i,
        entered_priority s p F (counted p z) c₀ i q,
        as_entered Layout.start refl i,
        entered_start s p F (counted p z) c₀ i q,
        at_zero Layout.wakeups refl refl refl i,
        at_zero Layout.code refl refl refl i,
        at_zero Layout.word refl refl refl i,
        of_map_in idle_task u.tasks i no_entry nobody r,
        S.starts i no_entry q,
      )

  semaphore_shown : (i : ℕ) → In i (length u.semaphores) → entry Layout.semaphore memory i ≡ of u.semaphores i 0
  semaphore_shown i h =
      let q : In i p.semaphores = (h.0, omega (arith, h.1, S.semaphores)) in
      as_entered Layout.semaphore refl i ∙ entered_semaphore s p F (counted p z) c₀ i q ∙ sym (S.counts i 0 q)

  flag_shown : (i : ℕ) → In i (length u.flags) → entry Layout.flag memory i ≡ of u.flags i 0
  flag_shown i h =
      let q : In i p.flags = (h.0, omega (arith, h.1, S.flags)) in
      as_entered Layout.flag refl i ∙ entered_flag s p F (counted p z) c₀ i q ∙ sym (S.patterns i 0 q)

  message_shown_lem : (j : ℕ) → message_shown (of marks j 0) ≡ of (replicate u.messages none) j none
  message_shown_lem j = rw (unlaid j) (sym (of_replicate u.messages j none))

  abbrev out_pools : List (List Bool)
  out_pools = map (λ n. replicate n false) u.pools

  pool_shown_lem : (i : ℕ) → In i (length out_pools) → pool_shown (entry Layout.size memory i) (entry Layout.free memory i) ≡ of out_pools i []
  pool_shown_lem i h =
      let r : In i (length u.pools) = (h.0, omega (arith, h.1, length-map u.pools (λ n. replicate n false))) in
      let q : In i p.pools = (h.0, omega (arith, r.1, S.pools)) in
      let e : of out_pools i [] ≡ replicate (of u.pools i 0) false = of_map_in (λ n. replicate n false) u.pools i 0 [] r in
      rw (as_entered Layout.size refl i, entered_size_of s p F (counted p z) c₀ i q, at_zero Layout.free refl refl refl i, ← S.blocks i 0 q, e) (out_pool (of u.pools i 0))

  store_shown_lem : store_shown memory marks ≡ (idle u).store
  unfolding store_shown idle counts
  store_shown_lem = λ x. record {
    priorities = (at_system Layout.priorities ∙ S.priorities) x;
    semaphores = table_is u.semaphores _ (entry Layout.semaphore memory) 0 (at_system Layout.semaphores ∙ S.semaphores) semaphore_shown x;
    flags = table_is u.flags _ (entry Layout.flag memory) 0 (at_system Layout.flags ∙ S.flags) flag_shown x;
    mailboxes = (at_system Layout.mailboxes ∙ S.mailboxes) x;
    messages = table_is (replicate u.messages none) _ (λ j. message_shown (of marks j 0)) none (at_system Layout.messages ∙ S.messages ∙ sym (length-replicate u.messages none)) (λ j h. message_shown_lem j) x;
    pools = table_is out_pools _ (λ i. pool_shown (entry Layout.size memory i) (entry Layout.free memory i)) [] (at_system Layout.pools ∙ S.pools ∙ sym (length-map u.pools (λ n. replicate n false))) pool_shown_lem x;
    clock = clock x;
  }
    where
      clock : entry Layout.system memory Layout.clock_low + 2 ^ 32 * entry Layout.system memory Layout.clock_high ≡ 0
      clock = rw (at_system Layout.clock_low, at_system Layout.clock_high)

  handlers_shown_lem : handlers_shown memory ≡ no_handler
  unfolding handlers_shown
  handlers_shown_lem = rw (at_zero Layout.handling refl refl refl Layout.depth)

  -- ---- the counter

  at_counter : (k : ℕ) → entry Layout.counter memory k ≡ get_or (words Layout.counter (entered s p (counted p z))) k 0
  at_counter k = as_entered Layout.counter refl k

  unwritten : words Layout.counter (counted p z) ≡ 0 ∷ 0 ∷ []
  unwritten = (counted_only p z).kept Layout.counter refl ∙ blank Layout.counter refl

  none_shown : p.counters ≡ 0 → counter_shown memory ≡ idle_counter []
  unfolding counter_shown ids
  none_shown e = λ x. record { size = none x; now = count_shown (none x) (entry Layout.counter memory Layout.counter_now); alarms = map (alarm_shown memory) (ids (alarm_count (none x))) }
    where
      none : entry Layout.counter memory Layout.counter_size ≡ 0
      none = at_counter Layout.counter_size ∙ ap (λ (l : List ℕ). get_or l Layout.counter_size 0) (entered_none s p F (counted p z) c₀ e ∙ unwritten)

  module _ (e : p.counters ≡ 1) where
    one_words : words Layout.counter (entered s p (counted p z)) ≡ word_at s p.at.counter ∷ 0 ∷ []
    one_words = entered_counter s p F (counted p z) c₀ e ∙ ap (λ (l : List ℕ). set l Layout.counter_size (word_at s p.at.counter)) unwritten

    one_size : entry Layout.counter memory Layout.counter_size ≡ word_at s p.at.counter
    one_size = at_counter Layout.counter_size ∙ ap (λ (l : List ℕ). get_or l Layout.counter_size 0) one_words

    one_now : entry Layout.counter memory Layout.counter_now ≡ 0
    one_now = at_counter Layout.counter_now ∙ ap (λ (l : List ℕ). get_or l Layout.counter_now 0) one_words

    alarm_shown_lem : (k : ℕ) (d : AlarmEntry) → In k max_alarms → alarm_shown memory k ≡ idle_alarm (of (alarms_at s (p.at.counter + 4) 8) k d)
    unfolding alarm_shown kept_of
    alarm_shown_lem k d r =
        let task : word_at s (p.at.counter + (8 * (k - 1) + 4)) ≡ word_at s (p.at.counter + 4 + 8 * (k - 1)) = ap (word_at s) (omega arith) in
        let wakes : word_at s (p.at.counter + (8 * (k - 1) + 8)) ≡ word_at s (p.at.counter + 4 + 8 * (k - 1) + 4) = ap (word_at s) (omega arith) in
        rw (
          as_entered Layout.alarm_wakes refl k,
          entered_alarm_wakes s p F (counted p z) c₀ e k r,
          as_entered Layout.alarm_task refl k,
          entered_alarm_task s p F (counted p z) c₀ e k r,
          at_zero Layout.alarm_code refl refl refl k,
          at_zero Layout.alarm_due refl refl refl k,
          (bit_kept (word_at s (p.at.counter + (8 * (k - 1) + 8)))).0,
          (bit_kept (word_at s (p.at.counter + (8 * (k - 1) + 8)))).1,
          task,
          wakes,
        ) (ap idle_alarm (sym (alarm_at_lem s 8 (p.at.counter + 4) k d r)))

    one_shown : (c : CounterEntry) → GoodCounter (length u.tasks) c → c ≡ counter_at s p.at.counter → (l : List CounterEntry) → counter_shown memory ≡ idle_counter (c ∷ l)
    unfolding counter_shown
    one_shown c g a l = λ x. record { size = sized x; now = counted_now x; alarms = alarms x }
      where
        sized : entry Layout.counter memory Layout.counter_size ≡ c.size
        sized = one_size ∙ ap (λ (y : CounterEntry). y.size) (sym a)

        counted_now : count_shown (entry Layout.counter memory Layout.counter_size) (entry Layout.counter memory Layout.counter_now) ≡ 0
        counted_now = ap (count_shown (entry Layout.counter memory Layout.counter_size)) one_now ∙ count_zero (entry Layout.counter memory Layout.counter_size)

        many : length (map idle_alarm c.alarms) ≡ 8
        many = length-map c.alarms idle_alarm ∙ g.eight

        each : (k : ℕ) → In k (length (map idle_alarm c.alarms)) → alarm_shown memory k ≡ of (map idle_alarm c.alarms) k no_alarm
        each k h =
            let d : AlarmEntry = record { task = 0; wakes = false } in
            alarm_shown_lem k d (subst (In k) many h) ∙ ap (λ (y : CounterEntry). idle_alarm (of y.alarms k d)) (sym a)
            ∙ sym (of_map_in idle_alarm c.alarms k d no_alarm (subst (In k) (length-map c.alarms idle_alarm) h))

        alarms : map (alarm_shown memory) (ids (alarm_count (entry Layout.counter memory Layout.counter_size))) ≡ map idle_alarm c.alarms
        alarms = table_is (map idle_alarm c.alarms) _ (alarm_shown memory) no_alarm (ap alarm_count sized ∙ eight_alarms c.size g.size.0 ∙ sym many) each

  counter_shown_lem : counter_shown memory ≡ idle_counter u.counters
  counter_shown_lem = go u.counters refl G.counter G.counters
    where
      go : (l : List CounterEntry) → u.counters ≡ l → Each (GoodCounter (length u.tasks)) l → length l ≤ 1 → counter_shown memory ≡ idle_counter l
      go [] e g h = none_shown (S.counters ∙ ap length e)
      go (c ∷ l) e g h =
          let one : p.counters ≡ 1 = omega (arith, h, S.counters, ap length e) in
          one_shown one c g.0 (ap (λ (m : List CounterEntry). of m 1 c) (sym e) ∙ S.counter 1 c (omega arith, omega (arith, one)) ∙ ap (counter_at s) (omega arith)) l

  body_shown_lem : body_shown memory marks ≡ idle u
  unfolding body_shown idle counts
  body_shown_lem = λ x. record {
    tasks = table_is (map idle_task u.tasks) _ (task_shown memory) nobody (at_system Layout.tasks ∙ S.tasks ∙ sym (length-map u.tasks idle_task)) task_shown_lem x;
    store = store_shown_lem x;
    handlers = handlers_shown_lem x;
    counter = counter_shown_lem x;
  }

  -- ---- the links: no id has one, and each anchor in use points to itself

  ids_before : (r : Rings) → ids_shown memory r < first_node r
  unfolding counts
  ids_before Tasks = omega (arith, at_system Layout.tasks, F.tasks)
  ids_before Messages = omega (arith, at_system Layout.messages, F.messages)
  ids_before Blocks = omega (arith, at_system Layout.pools, F.pools)

  used : (q : Place) → Exists (idle u).store q → InUse p (rings_at q) (anchor q) × (first_node (rings_at q) ≤ anchor q) × (anchor q < (next_of (rings_at q)).width)
  unfolding idle anchor
  used (ready_at q) e = (inl (omega (arith, e.0), omega (arith, e.1, S.priorities)), omega (arith, e.0), omega (arith, e.1, S.priorities, F.priorities))
  used (waiters semaphore o) e = (inr (inl (omega (arith, e.0), omega (arith, e.1, S.semaphores))), omega arith, omega (arith, e.1, S.semaphores, F.semaphores))
  used (waiters flag o) e = (inr (inr (inl (omega (arith, e.0), omega (arith, e.1, S.flags)))), omega arith, omega (arith, e.1, S.flags, F.flags))
  used (waiters mailbox o) e = (inr (inr (inr (inl (omega (arith, e.0), omega (arith, e.1, S.mailboxes))))), omega arith, omega (arith, e.1, S.mailboxes, F.mailboxes))
  used (waiters pool o) e =
      let k : o ≤ p.pools = omega (arith, e.1, S.pools, length-map u.pools (λ n. replicate n false)) in
      (inr (inr (inr (inr (inl (omega (arith, e.0), omega arith))))), omega arith, omega (arith, F.pools))
  used (mail m) e = ((omega (arith, e.0), omega (arith, e.1, S.mailboxes)), omega (arith, e.0), omega (arith, e.1, S.mailboxes, F.mailboxes))
  used (free_in n) e =
      let k : n ≤ p.pools = omega (arith, e.1, S.pools, length-map u.pools (λ n. replicate n false)) in
      ((omega (arith, e.0), omega arith), omega (arith, e.0), omega (arith, F.pools))

  used_at_node : (r : Rings) (a : ℕ) → Used (idle u).store r a → InUse p r a × (first_node r ≤ a) × (a < (next_of r).width)
  used_at_node r a v =
      subst (λ (x : ℕ). InUse p r x × (first_node r ≤ x) × (x < (next_of r).width)) v.here
      (subst (λ (y : Rings). InUse p y (anchor v.place) × (first_node y ≤ anchor v.place) × (anchor v.place < (next_of y).width)) v.among (used v.place v.there))

  long : (d : Column) → fits d ≡ true → length (words d memory) ≡ d.width
  long d = words_length d memory size

  both_long : (r : Rings) → (length (words (next_of r) memory) ≡ (next_of r).width) × (length (words (prev_of r) memory) ≡ (next_of r).width)
  both_long Tasks = (long Layout.next refl, long Layout.prev refl)
  both_long Messages = (long Layout.mail_next refl, long Layout.mail_prev refl)
  both_long Blocks = (long Layout.block_next refl, long Layout.block_prev refl)

  no_link : (r : Rings) (i : ℕ) → entry (next_of r) (entered s p (counted p z)) i ≡ 0
  no_link Tasks i = ap (λ (l : List ℕ). get_or l i 0) (zeros Layout.next refl refl) ∙ zero_at (Layout.next).width i
  no_link Messages i = ap (λ (l : List ℕ). get_or l i 0) (zeros Layout.mail_next refl refl) ∙ zero_at (Layout.mail_next).width i
  no_link Blocks i = ap (λ (l : List ℕ). get_or l i 0) (zeros Layout.block_next refl refl) ∙ zero_at (Layout.block_next).width i

  rings_linked : (r : Rings) → Linked (ids_shown memory r) (Used (idle u).store r) (words (next_of r) memory) (words (prev_of r) memory) (λ _. [])
  rings_linked r = blank_law
      (λ a v. (omega (arith, ids_before r, (used_at_node r a v).1), rw (both_long r).0 (used_at_node r a v).2))
      ((both_long r).1 ∙ sym (both_long r).0)
      (λ i h. emptied_id p _ c₁ i r (omega (arith, h.1, ids_before r)) ∙ no_link r i)
      (λ a v. emptied_anchor p _ c₁ a r (used_at_node r a v).2 (used_at_node r a v).0)

  low : entry Layout.system memory Layout.clock_low < 2 ^ 32
  unfolding counts
  low = rw (at_system Layout.clock_low) (lit< tt)

  line_shown_lem : (q : Place) → Exists (idle u).store q → line_shown memory q ≡ []
  unfolding line_shown
  line_shown_lem q e = ap (numbers_of (sort_at q)) (line_is (rings_linked (rings_at q)) (anchor q) (used_at q e)) ∙ none (sort_at q)
    where
      none : (t : Sort) → numbers_of t [] ≡ []
      none tasks = refl
      none messages = refl
      none (blocks n) = refl

  -- nobody stands in a ready queue
  priorities_shown : entry Layout.system memory Layout.priorities ≡ (idle u).store.priorities
  unfolding counts idle
  priorities_shown = at_system Layout.priorities ∙ S.priorities

  word : entry Layout.nonempty memory 0 ≡ nonempty_shown memory
  unfolding nonempty_shown ids
  word =
      at_zero Layout.nonempty refl refl refl 0
      ∙ sym (ap mask_of (map_ids (λ q. occupied (line_shown memory (ready_at q))) (λ q. false) (entry Layout.system memory Layout.priorities)
      (λ q r. ap occupied (line_shown_lem (ready_at q) (subst (In q) priorities_shown r)))) ∙ none_marked 1 (entry Layout.system memory Layout.priorities))

  whole : Whole memory marks
  whole = record {
    word = word;
    size = size;
    marks = hm;
    low = low;
    rings = λ r. subst (λ (w : Store). Linked (ids_shown memory r) (Used w r) (words (next_of r) memory) (words (prev_of r) memory) (line_of (ids_shown memory r) (words (next_of r) memory))) (sym store_shown_lem)
        (linked_ext (rings_linked r) (line_of (ids_shown memory r) (words (next_of r) memory)) (λ a v. sym (line_is (rings_linked r) a v)));
  }

  -- ---- the whole

  pub idle_shown : view_shown memory marks ≡ record { body = idle u; lines = tabulate (idle u).store (λ q. []) }
  unfolding view_shown
  idle_shown = λ x. record { body = body_shown_lem x; lines = lines x }
    where
      lines : tabulate (store_shown memory marks) (line_shown memory) ≡ tabulate (idle u).store (λ q. [])
      lines = ap (λ (w : Store). tabulate w (line_shown memory)) store_shown_lem ∙ tabulate_same (idle u).store (line_shown memory) (λ q. []) line_shown_lem

  pub idle_accepted : Accepted memory marks
  idle_accepted = record { whole = whole; sound = rw idle_shown (unstarted_sound u G) }
