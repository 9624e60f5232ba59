-- The words that the start lays, part by part. Assumes nothing.
use Prim.Native.Nat.{ℕ, ◌+◌, ◌-◌, ◌*◌, ◌≤◌, ◌<◌}
use mathlib.Core.Bool.{Bool, true, false, cond}
use mathlib.Core.List.{List, [], ◌∷◌}
use mathlib.Core.Logic.{◌⊎◌, inl, inr}
use mathlib.Core.Path.{◌≡◌, refl, ap, ◌∙◌}
use native.Mathlib.Omega.{arith}
use lib.Dec.{eqb}
use lib.ListN.{length, get_or, set, replicate}
use borrow.Author.Tests.{eq-eqb, ne_eqb}
use Rattle.rules.specs.Ids.{In}
use Rattle.rules.specs.Setup.{word_at}
use Rattle.memory_rings.proofs.Columns.{col_store, length_store}
use Rattle.setup_plan.specs.declared.Plan.{Plan}
use Rattle.setup_plan.specs.Layout.{PlanFits}
use Rattle.memory_columns.specs.declared.Rings.{Rings}
use Rattle.memory_columns.specs.declared.Rings.TheVariants.{Tasks, Messages, Blocks}
use Rattle.memory_columns.specs.Layout as Layout
use Rattle.memory_columns.specs.Layout.{Column, max_alarms, at_most, ready_node, mail_node, free_node, next_of, prev_of, links_of, fits, clear, words, entry, Only}
use Rattle.memory_columns.proofs.Frame.{Sized, words_length, put_only, only_none, only_both, only_on}
use Rattle.memory_queues.specs.Moves.{emptied as emptied_at}
use Rattle.memory_queues.proofs.Relinks.{emptied_law}
use Rattle.kernel_fresh.specs.Laying.{in_turn, counted, word_of_id, laid_task, laid_semaphore, laid_flag, laid_pool, laid_alarm, laid_counter, entered, anchors_of, emptied_queues, emptied}
use Rattle.kernel_fresh.proofs.Turns.{Within, turn_size, turn_only, turn_length, turn_below, turn_right, turn_at_lem, queues_within}

-- ---- counts

pub counted_size : (p : Plan) (b : List ℕ) → Sized b → Sized (counted p b)
unfolding counted
counted_size p b h = simp length_store h

pub counted_only : (p : Plan) (b : List ℕ) → Only (Layout.system ∷ []) b (counted p b)
unfolding counted
counted_only p b = only_on (only_on (only_on (only_on (only_on (only_on (wrote Layout.priorities _ b) (wrote Layout.tasks _ _)) (wrote Layout.semaphores _ _)) (wrote Layout.flags _ _)) (wrote Layout.mailboxes _ _)) (wrote Layout.pools _ _)) (wrote Layout.messages _ _)
  where
    wrote : (i v : ℕ) (c : List ℕ) → Only (Layout.system ∷ []) c (Layout.put Layout.system i v c)
    wrote = put_only Layout.system

pub counted_system : (p : Plan) (b : List ℕ) → words Layout.system b ≡ replicate (Layout.system).width 0
    → words Layout.system (counted p b) ≡ p.priorities ∷ p.tasks ∷ p.semaphores ∷ p.flags ∷ p.mailboxes ∷ p.pools ∷ p.messages ∷ replicate ((Layout.system).width - Layout.clock_low) 0
unfolding counted
counted_system p b e = simp (col_store, e)

-- ---- entries

-- what the counter's entry is written into
abbrev counter_columns : List Column
counter_columns = Layout.counter ∷ Layout.alarm_task ∷ Layout.alarm_wakes ∷ []

-- what the entries of a setup are written into
abbrev pub entry_columns : List Column
entry_columns = Layout.priority ∷ Layout.start ∷ Layout.semaphore ∷ Layout.flag ∷ Layout.size ∷ counter_columns

module _ (s : List ℕ) (at : ℕ) where
  tasks_within : Within (Layout.priority ∷ Layout.start ∷ []) (laid_task s at)
  unfolding laid_task
  tasks_within = record {
    size = λ i b h. simp length_store h;
    only = λ i b h. only_both (put_only Layout.priority i _ b) (put_only Layout.start i _ _);
  }

  semaphores_within : Within (Layout.semaphore ∷ []) (laid_semaphore s at)
  unfolding laid_semaphore
  semaphores_within = record { size = λ i b h. simp length_store h; only = λ i b h. put_only Layout.semaphore i _ b }

  flags_within : Within (Layout.flag ∷ []) (laid_flag s at)
  unfolding laid_flag
  flags_within = record { size = λ i b h. simp length_store h; only = λ i b h. put_only Layout.flag i _ b }

  pools_within : Within (Layout.size ∷ []) (laid_pool s at)
  unfolding laid_pool
  pools_within = record { size = λ i b h. simp length_store h; only = λ i b h. put_only Layout.size i _ b }

  alarms_within : Within (Layout.alarm_task ∷ Layout.alarm_wakes ∷ []) (laid_alarm s at)
  unfolding laid_alarm
  alarms_within = record {
    size = λ i b h. simp length_store h;
    only = λ i b h. only_both (put_only Layout.alarm_task i _ b) (put_only Layout.alarm_wakes i _ _);
  }

  module _ (i : ℕ) (b : List ℕ) where
    writes_priority : words Layout.priority (laid_task s at i b) ≡ set (words Layout.priority b) i (word_of_id s at 8 i)
    unfolding laid_task
    writes_priority = simp col_store

    writes_start : words Layout.start (laid_task s at i b) ≡ set (words Layout.start b) i (word_of_id s at 8 i)
    unfolding laid_task
    writes_start = simp col_store

    writes_semaphore : words Layout.semaphore (laid_semaphore s at i b) ≡ set (words Layout.semaphore b) i (word_of_id s at 4 i)
    unfolding laid_semaphore
    writes_semaphore = simp col_store

    writes_flag : words Layout.flag (laid_flag s at i b) ≡ set (words Layout.flag b) i (word_of_id s at 4 i)
    unfolding laid_flag
    writes_flag = simp col_store

    writes_size : words Layout.size (laid_pool s at i b) ≡ set (words Layout.size b) i (word_of_id s at 4 i)
    unfolding laid_pool
    writes_size = simp col_store

    writes_alarm_task : words Layout.alarm_task (laid_alarm s at i b) ≡ set (words Layout.alarm_task b) i (word_at s (at + (8 * (i - 1) + 4)))
    unfolding laid_alarm
    writes_alarm_task = simp col_store

    writes_alarm_wakes : words Layout.alarm_wakes (laid_alarm s at i b) ≡ set (words Layout.alarm_wakes b) i (at_most (word_at s (at + (8 * (i - 1) + 8))) 1)
    unfolding laid_alarm
    writes_alarm_wakes = simp col_store

-- turn i writes g i at i of a column: after the turns of the ids 1 to n, each of them has its word there
turned : {w : List Column} {f : ℕ → List ℕ → List ℕ} (W : Within w f) (d : Column) (g : ℕ → ℕ) → ((i : ℕ) (b : List ℕ) → words d (f i b) ≡ set (words d b) i (g i))
    → fits d ≡ true → (n : ℕ) (b : List ℕ) → Sized b → (i : ℕ) → In i n → n < d.width → entry d (in_turn f n 1 b) i ≡ g i
turned W d g w k n b h i r l =
    turn_at_lem W (words d) g (λ i b h. w i b) n 1 b h i r.0 (omega (arith, r.1)) (rw (words_length d b h k) (omega (arith, r.1)))

-- the counter, if there is one
module _ (s : List ℕ) (at n : ℕ) (b : List ℕ) (h : Sized b) where
  abbrev sized : List ℕ
  sized = Layout.put Layout.counter Layout.counter_size (word_at s at) b

  sized_size : Sized sized
  sized_size = simp length_store h

  counter_size_lem : Sized (laid_counter s at n b)
  unfolding laid_counter
  counter_size_lem = go (eqb n 0)
    where
      go : (t : Bool) → Sized (cond t b (in_turn (laid_alarm s at) max_alarms 1 sized))
      go true = h
      go false = turn_size (alarms_within s at) max_alarms 1 sized sized_size

  counter_only : Only counter_columns b (laid_counter s at n b)
  unfolding laid_counter
  counter_only = go (eqb n 0)
    where
      go : (t : Bool) → Only counter_columns b (cond t b (in_turn (laid_alarm s at) max_alarms 1 sized))
      go true = only_none counter_columns b
      go false = only_both (put_only Layout.counter Layout.counter_size _ b) (turn_only (alarms_within s at) max_alarms 1 sized sized_size)

  -- there is none: nothing is written
  no_counter : n ≡ 0 → laid_counter s at n b ≡ b
  unfolding laid_counter
  no_counter e = rw (eq-eqb n 0 e)

  -- there is one
  module _ (e : n ≡ 1) where
    one_counter : laid_counter s at n b ≡ in_turn (laid_alarm s at) max_alarms 1 sized
    unfolding laid_counter
    one_counter = rw (ne_eqb n 0 (λ d. omega (arith, d, e)))

    counter_words_lem : words Layout.counter (laid_counter s at n b) ≡ set (words Layout.counter b) Layout.counter_size (word_at s at)
    counter_words_lem = ap (words Layout.counter) one_counter ∙ (turn_only (alarms_within s at) max_alarms 1 sized sized_size).kept Layout.counter refl ∙ simp col_store

    alarm_task_lem : (k : ℕ) → In k max_alarms → entry Layout.alarm_task (laid_counter s at n b) k ≡ word_at s (at + (8 * (k - 1) + 4))
    alarm_task_lem k r = ap (λ (l : List ℕ). entry Layout.alarm_task l k) one_counter ∙ turned (alarms_within s at) Layout.alarm_task _ (writes_alarm_task s at) refl max_alarms sized sized_size k r (omega arith)

    alarm_wakes_lem : (k : ℕ) → In k max_alarms → entry Layout.alarm_wakes (laid_counter s at n b) k ≡ at_most (word_at s (at + (8 * (k - 1) + 8))) 1
    alarm_wakes_lem k r = ap (λ (l : List ℕ). entry Layout.alarm_wakes l k) one_counter ∙ turned (alarms_within s at) Layout.alarm_wakes _ (writes_alarm_wakes s at) refl max_alarms sized sized_size k r (omega arith)

module _ (s : List ℕ) (p : Plan) (F : PlanFits p (length s)) (b : List ℕ) (h : Sized b) where
  abbrev tasks : List ℕ
  tasks = in_turn (laid_task s p.at.tasks) p.tasks 1 b

  abbrev semaphores : List ℕ
  semaphores = in_turn (laid_semaphore s p.at.semaphores) p.semaphores 1 tasks

  abbrev flags : List ℕ
  flags = in_turn (laid_flag s p.at.flags) p.flags 1 semaphores

  abbrev pools : List ℕ
  pools = in_turn (laid_pool s p.at.pools) p.pools 1 flags

  tasks_size : Sized tasks
  tasks_size = turn_size (tasks_within s p.at.tasks) p.tasks 1 b h

  semaphores_size : Sized semaphores
  semaphores_size = turn_size (semaphores_within s p.at.semaphores) p.semaphores 1 tasks tasks_size

  flags_size : Sized flags
  flags_size = turn_size (flags_within s p.at.flags) p.flags 1 semaphores semaphores_size

  pools_size : Sized pools
  pools_size = turn_size (pools_within s p.at.pools) p.pools 1 flags flags_size

  pub entered_size : Sized (entered s p b)
  unfolding entered
  entered_size = counter_size_lem s p.at.counter p.counters pools pools_size

  -- what the later ones leave of each
  after_counter : Only counter_columns pools (entered s p b)
  unfolding entered
  after_counter = counter_only s p.at.counter p.counters pools pools_size

  after_pools : Only (Layout.size ∷ counter_columns) flags (entered s p b)
  after_pools = only_both (turn_only (pools_within s p.at.pools) p.pools 1 flags flags_size) after_counter

  after_flags : Only (Layout.flag ∷ Layout.size ∷ counter_columns) semaphores (entered s p b)
  after_flags = only_both (turn_only (flags_within s p.at.flags) p.flags 1 semaphores semaphores_size) after_pools

  after_semaphores : Only (Layout.semaphore ∷ Layout.flag ∷ Layout.size ∷ counter_columns) tasks (entered s p b)
  after_semaphores = only_both (turn_only (semaphores_within s p.at.semaphores) p.semaphores 1 tasks tasks_size) after_flags

  pub entered_only : Only entry_columns b (entered s p b)
  entered_only = only_both (turn_only (tasks_within s p.at.tasks) p.tasks 1 b h) after_semaphores

  module _ (i : ℕ) where
    pub entered_priority : In i p.tasks → entry Layout.priority (entered s p b) i ≡ word_of_id s p.at.tasks 8 i
    entered_priority r =
        ap (λ (l : List ℕ). get_or l i 0) (after_semaphores.kept Layout.priority refl)
        ∙ turned (tasks_within s p.at.tasks) Layout.priority _ (writes_priority s p.at.tasks) refl p.tasks b h i r (omega (arith, F.tasks))

    pub entered_start : In i p.tasks → entry Layout.start (entered s p b) i ≡ word_of_id s p.at.tasks 8 i
    entered_start r =
        ap (λ (l : List ℕ). get_or l i 0) (after_semaphores.kept Layout.start refl)
        ∙ turned (tasks_within s p.at.tasks) Layout.start _ (writes_start s p.at.tasks) refl p.tasks b h i r (omega (arith, F.tasks))

    pub entered_semaphore : In i p.semaphores → entry Layout.semaphore (entered s p b) i ≡ word_of_id s p.at.semaphores 4 i
    entered_semaphore r =
        ap (λ (l : List ℕ). get_or l i 0) (after_flags.kept Layout.semaphore refl)
        ∙ turned (semaphores_within s p.at.semaphores) Layout.semaphore _ (writes_semaphore s p.at.semaphores) refl p.semaphores tasks tasks_size i r (omega (arith, F.semaphores))

    pub entered_flag : In i p.flags → entry Layout.flag (entered s p b) i ≡ word_of_id s p.at.flags 4 i
    entered_flag r =
        ap (λ (l : List ℕ). get_or l i 0) (after_pools.kept Layout.flag refl)
        ∙ turned (flags_within s p.at.flags) Layout.flag _ (writes_flag s p.at.flags) refl p.flags semaphores semaphores_size i r (omega (arith, F.flags))

    pub entered_size_of : In i p.pools → entry Layout.size (entered s p b) i ≡ word_of_id s p.at.pools 4 i
    entered_size_of r =
        ap (λ (l : List ℕ). get_or l i 0) (after_counter.kept Layout.size refl)
        ∙ turned (pools_within s p.at.pools) Layout.size _ (writes_size s p.at.pools) refl p.pools flags flags_size i r (omega (arith, F.pools))

  before_counter : Only (Layout.priority ∷ Layout.start ∷ Layout.semaphore ∷ Layout.flag ∷ Layout.size ∷ []) b pools
  before_counter =
      only_both (turn_only (tasks_within s p.at.tasks) p.tasks 1 b h) (only_both (turn_only (semaphores_within s p.at.semaphores) p.semaphores 1 tasks tasks_size)
      (only_both (turn_only (flags_within s p.at.flags) p.flags 1 semaphores semaphores_size) (turn_only (pools_within s p.at.pools) p.pools 1 flags flags_size)))

  -- with no counter its column stays
  pub entered_none : p.counters ≡ 0 → words Layout.counter (entered s p b) ≡ words Layout.counter b
  unfolding entered
  entered_none e = ap (words Layout.counter) (no_counter s p.at.counter p.counters pools pools_size e) ∙ before_counter.kept Layout.counter refl

  module _ (e : p.counters ≡ 1) where
    pub entered_counter : words Layout.counter (entered s p b) ≡ set (words Layout.counter b) Layout.counter_size (word_at s p.at.counter)
    unfolding entered
    entered_counter =
        counter_words_lem s p.at.counter p.counters pools pools_size e
        ∙ ap (λ (l : List ℕ). set l Layout.counter_size (word_at s p.at.counter)) (before_counter.kept Layout.counter refl)

    pub entered_alarm_task : (k : ℕ) → In k max_alarms → entry Layout.alarm_task (entered s p b) k ≡ word_at s (p.at.counter + (8 * (k - 1) + 4))
    unfolding entered
    entered_alarm_task = alarm_task_lem s p.at.counter p.counters pools pools_size e

    pub entered_alarm_wakes : (k : ℕ) → In k max_alarms → entry Layout.alarm_wakes (entered s p b) k ≡ at_most (word_at s (p.at.counter + (8 * (k - 1) + 8))) 1
    unfolding entered
    entered_alarm_wakes = alarm_wakes_lem s p.at.counter p.counters pools pools_size e

-- ---- queues

-- node j is one of these anchors, or comes before all of them
abbrev pub Among : ℕ → List (ℕ × ℕ) → Type 0
Among j [] = ⊥
Among j ((a, n) ∷ l) = ((a ≤ j) × (j < a + n)) ⊎ Among j l

abbrev pub Before : ℕ → List (ℕ × ℕ) → Type 0
Before j [] = Unit {0}
Before j ((a, n) ∷ l) = (j < a) × Before j l

queues_size : (l : List (ℕ × ℕ)) (b : List ℕ) → Sized b → Sized (emptied_queues l b)
unfolding emptied_queues
queues_size [] b h = h
queues_size ((a, n) ∷ l) b h = queues_size l _ (turn_size (queues_within Tasks) n a b h)

queues_only : (l : List (ℕ × ℕ)) (b : List ℕ) → Sized b → Only (links_of Tasks ∷ []) b (emptied_queues l b)
unfolding emptied_queues
queues_only [] b h = only_none (links_of Tasks ∷ []) b
queues_only ((a, n) ∷ l) b h = only_on (turn_only (queues_within Tasks) n a b h) (queues_only l _ (turn_size (queues_within Tasks) n a b h))

-- of the next nodes, or of the previous ones
module _ (R : List ℕ → List ℕ) (w : (a : ℕ) (b : List ℕ) → Sized b → R (emptied_at Tasks a b) ≡ set (R b) a a) (j : ℕ) where
  queues_before : (l : List (ℕ × ℕ)) (b : List ℕ) → Sized b → Before j l → get_or (R (emptied_queues l b)) j 0 ≡ get_or (R b) j 0
  unfolding emptied_queues
  queues_before [] b h k = refl
  queues_before ((a, n) ∷ l) b h k = queues_before l _ (turn_size (queues_within Tasks) n a b h) k.1 ∙ turn_below (queues_within Tasks) R (λ i. i) w n a b h j k.0

  queues_right : (l : List (ℕ × ℕ)) (b : List ℕ) → Sized b → j < length (R b) → get_or (R b) j 0 ≡ j → get_or (R (emptied_queues l b)) j 0 ≡ j
  unfolding emptied_queues
  queues_right [] b h r e = e
  queues_right ((a, n) ∷ l) b h r e =
      queues_right l _ (turn_size (queues_within Tasks) n a b h) (rw (turn_length (queues_within Tasks) R (λ i. i) w n a b h) r) (turn_right (queues_within Tasks) R (λ i. i) w n a b h j r e)

  queues_among : (l : List (ℕ × ℕ)) (b : List ℕ) → Sized b → j < length (R b) → Among j l → get_or (R (emptied_queues l b)) j 0 ≡ j
  unfolding emptied_queues
  queues_among [] b h r k = absurd k
  queues_among ((a, n) ∷ l) b h r (inl k) =
      queues_right l _ (turn_size (queues_within Tasks) n a b h) (rw (turn_length (queues_within Tasks) R (λ i. i) w n a b h) r) (turn_at_lem (queues_within Tasks) R (λ i. i) w n a b h j k.0 k.1 r)
  queues_among ((a, n) ∷ l) b h r (inr k) = queues_among l _ (turn_size (queues_within Tasks) n a b h) (rw (turn_length (queues_within Tasks) R (λ i. i) w n a b h) r) k

-- node j is an anchor of these rings that is in use
abbrev pub InUse : Plan → Rings → ℕ → Type 0
InUse p Tasks j = Among j (anchors_of p)
InUse p Messages j = (mail_node 1 ≤ j) × (j < mail_node 1 + p.mailboxes)
InUse p Blocks j = (free_node 1 ≤ j) × (j < free_node 1 + p.pools)

-- the first node that can be an anchor
abbrev pub first_node : Rings → ℕ
first_node Tasks = ready_node 1
first_node Messages = mail_node 1
first_node Blocks = free_node 1

module _ (p : Plan) (b : List ℕ) (h : Sized b) where
  abbrev queues : List ℕ
  queues = emptied_queues (anchors_of p) b

  abbrev mailed : List ℕ
  mailed = in_turn (emptied_at Messages) p.mailboxes (mail_node 1) queues

  queued_size : Sized queues
  queued_size = queues_size (anchors_of p) b h

  mailed_size : Sized mailed
  mailed_size = turn_size (queues_within Messages) p.mailboxes (mail_node 1) queues queued_size

  pub emptied_size : Sized (emptied p b)
  unfolding emptied
  emptied_size = turn_size (queues_within Blocks) p.pools (free_node 1) mailed mailed_size

  after_blocks : Only (links_of Blocks ∷ []) mailed (emptied p b)
  unfolding emptied
  after_blocks = turn_only (queues_within Blocks) p.pools (free_node 1) mailed mailed_size

  after_mails : Only (links_of Messages ∷ links_of Blocks ∷ []) queues (emptied p b)
  after_mails = only_both (turn_only (queues_within Messages) p.mailboxes (mail_node 1) queues queued_size) after_blocks

  pub emptied_only : Only (links_of Tasks ∷ links_of Messages ∷ links_of Blocks ∷ []) b (emptied p b)
  emptied_only = only_both (queues_only (anchors_of p) b h) after_mails

  module _ (j : ℕ) where
    -- of one direction of the rings of a sort
    link : (r : Rings) (d : Column) → (d ≡ next_of r) ⊎ (d ≡ prev_of r) → ((a : ℕ) (c : List ℕ) → Sized c → words d (emptied_at r a c) ≡ set (words d c) a a) → fits d ≡ true → j < d.width → InUse p r j → entry d (emptied p b) j ≡ j
    unfolding emptied
    link Tasks d e w k r m = ap (λ (l : List ℕ). get_or l j 0) (after_mails.kept d (clear_of e)) ∙ queues_among (words d) w j (anchors_of p) b h (rw (words_length d b h k) r) m
      where
        clear_of : (d ≡ next_of Tasks) ⊎ (d ≡ prev_of Tasks) → clear (links_of Messages ∷ links_of Blocks ∷ []) d ≡ true
        clear_of (inl z) = rw z
        clear_of (inr z) = rw z
    link Messages d e w k r m =
        ap (λ (l : List ℕ). get_or l j 0) (after_blocks.kept d (clear_of e))
        ∙ turn_at_lem (queues_within Messages) (words d) (λ i. i) w p.mailboxes (mail_node 1) queues queued_size j m.0 m.1 (rw (words_length d queues queued_size k) r)
      where
        clear_of : (d ≡ next_of Messages) ⊎ (d ≡ prev_of Messages) → clear (links_of Blocks ∷ []) d ≡ true
        clear_of (inl z) = rw z
        clear_of (inr z) = rw z
    link Blocks d e w k r m = turn_at_lem (queues_within Blocks) (words d) (λ i. i) w p.pools (free_node 1) mailed mailed_size j m.0 m.1 (rw (words_length d mailed mailed_size k) r)

    both_fit : (r : Rings) → (fits (next_of r) ≡ true) × (fits (prev_of r) ≡ true)
    both_fit Tasks = (refl, refl)
    both_fit Messages = (refl, refl)
    both_fit Blocks = (refl, refl)

    pub emptied_anchor : (r : Rings) → j < (next_of r).width → InUse p r j → (entry (next_of r) (emptied p b) j ≡ j) × (entry (prev_of r) (emptied p b) j ≡ j)
    emptied_anchor r k m = (
      link r (next_of r) (inl refl) (λ a c z. (emptied_law c z r a).next) (both_fit r).0 k m,
      link r (prev_of r) (inr refl) (λ a c z. (emptied_law c z r a).prev) (both_fit r).1 k m,
    )

    -- an id has the link that it had
    pub emptied_id : (r : Rings) → j < first_node r → entry (next_of r) (emptied p b) j ≡ entry (next_of r) b j
    unfolding emptied
    emptied_id Tasks r =
        ap (λ (l : List ℕ). get_or l j 0) (after_mails.kept Layout.next refl)
        ∙ queues_before (words Layout.next) (λ a c k. (emptied_law c k Tasks a).next) j (anchors_of p) b h (omega arith, (omega arith, (omega arith, (omega arith, (omega arith, tt)))))
    emptied_id Messages r =
        ap (λ (l : List ℕ). get_or l j 0) (after_blocks.kept Layout.mail_next refl)
        ∙ turn_below (queues_within Messages) (words Layout.mail_next) (λ i. i) (λ a c k. (emptied_law c k Messages a).next) p.mailboxes (mail_node 1) queues queued_size j r
        ∙ ap (λ (l : List ℕ). get_or l j 0) ((queues_only (anchors_of p) b h).kept Layout.mail_next refl)
    emptied_id Blocks r =
        turn_below (queues_within Blocks) (words Layout.block_next) (λ i. i) (λ a c k. (emptied_law c k Blocks a).next) p.pools (free_node 1) mailed mailed_size j r
        ∙ ap (λ (l : List ℕ). get_or l j 0) ((turn_only (queues_within Messages) p.mailboxes (mail_node 1) queues queued_size).kept Layout.block_next refl ∙ (queues_only (anchors_of p) b h).kept Layout.block_next refl)
