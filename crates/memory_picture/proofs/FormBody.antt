-- The form of a sound body shows that body, whatever the lines: each entry is read off its column, and decoded. Assumes nothing.
use mathlib.Core.List.{List, [], map, reverse}
use mathlib.Core.Option.{none}
use mathlib.Core.Path.{◌≡◌, refl, sym, ap, ◌∙◌}
use Prim.Native.Nat.{ℕ, zero, suc, ◌+◌, ◌*◌, ◌%◌, ◌^◌, ◌≤◌, ◌<◌}
use native.Mathlib.Omega.{arith}
use lib.Dec.{lit<, lit≤}
use lib.ListN.{length, get_or}
use Rattle.rules.specs.Ids.{of, ids, In, once}
use Rattle.rules.specs.State.{alarm_of, alarm_count, no_alarm, Body, task, nobody}
use Rattle.rules.specs.Places.{Place, ready_at}
use Rattle.rules.specs.Sound.{SoundBody}
use Rattle.memory_columns.specs.declared.Rings.{Rings}
use Rattle.memory_columns.specs.declared.Rings.TheVariants.{Tasks, Messages, Blocks}
use Rattle.memory_columns.specs.Layout as Layout
use Rattle.memory_columns.specs.Layout.{columns, max_messages, max_blocks, max_alarms, next_of, prev_of, words, entry}
use Rattle.memory_picture.specs.Picture.{task_shown, message_shown, pool_shown, store_shown, open_shown, handlers_shown, alarm_shown, count_shown, counter_shown, mask_of, occupied, body_shown, ids_shown}
use Rattle.memory_picture.specs.Perform.{code_kept, kept_number, due_kept, period_kept}
use Rattle.memory_picture.specs.Form.{status_number, words_of, box_number, ids_kept, node_lines, ring_link, run, entries, pile, system_words, handling_words, counter_words, parts}
use Rattle.memory_picture.proofs.FormPile.{run_at, pile_words, pile_at, table_is}
use Rattle.memory_picture.proofs.FormWords.{back_state, back_code, back_pool, back_message, back_clock, back_handlers, back_kept, back_setting, back_wakes, back_count}

-- the marks of messages
abbrev pub marks : Body → List ℕ
marks b = run max_messages (λ j. box_number (of b.store.messages (suc j) none))

-- ---- entries

module _ (b : Body) (L : Place → List ℕ) where
  abbrev pub form : List ℕ
  form = pile columns (entries (parts b L))

  module _ (i : ℕ) (r : i < (Layout.status).width) where
    at_status : entry Layout.status form i ≡ status_number (task b i).state
    at_status = pile_at (entries (parts b L)) Layout.status refl i r

    at_priority : entry Layout.priority form i ≡ (task b i).priority
    at_priority = pile_at (entries (parts b L)) Layout.priority refl i r

    at_start : entry Layout.start form i ≡ (task b i).start
    at_start = pile_at (entries (parts b L)) Layout.start refl i r

    at_wakeups : entry Layout.wakeups form i ≡ (task b i).wakeups
    at_wakeups = pile_at (entries (parts b L)) Layout.wakeups refl i r

    at_code : entry Layout.code form i ≡ code_kept (task b i).cell.code
    at_code = pile_at (entries (parts b L)) Layout.code refl i r

    at_word : entry Layout.word form i ≡ (task b i).cell.word
    at_word = pile_at (entries (parts b L)) Layout.word refl i r

    at_kind : entry Layout.kind form i ≡ (words_of (task b i).state).kind
    at_kind = pile_at (entries (parts b L)) Layout.kind refl i r

    at_object : entry Layout.object form i ≡ (words_of (task b i).state).object
    at_object = pile_at (entries (parts b L)) Layout.object refl i r

    at_wish : entry Layout.wish form i ≡ (words_of (task b i).state).wish
    at_wish = pile_at (entries (parts b L)) Layout.wish refl i r

    at_mode : entry Layout.mode form i ≡ (words_of (task b i).state).mode
    at_mode = pile_at (entries (parts b L)) Layout.mode refl i r

    at_ticks : entry Layout.ticks form i ≡ (words_of (task b i).state).ticks
    at_ticks = pile_at (entries (parts b L)) Layout.ticks refl i r

  pub next_words : (r : Rings) → words (next_of r) form ≡ run (next_of r).width (ring_link b r (node_lines L))
  next_words Tasks = pile_words (entries (parts b L)) Layout.next refl
  next_words Messages = pile_words (entries (parts b L)) Layout.mail_next refl
  next_words Blocks = pile_words (entries (parts b L)) Layout.block_next refl

  pub prev_words : (r : Rings) → words (prev_of r) form ≡ run (next_of r).width (ring_link b r (λ q. reverse (node_lines L q)))
  prev_words Tasks = pile_words (entries (parts b L)) Layout.prev refl
  prev_words Messages = pile_words (entries (parts b L)) Layout.mail_prev refl
  prev_words Blocks = pile_words (entries (parts b L)) Layout.block_prev refl

  at_semaphore : (s : ℕ) → s < (Layout.semaphore).width → entry Layout.semaphore form s ≡ of b.store.semaphores s 0
  at_semaphore s r = pile_at (entries (parts b L)) Layout.semaphore refl s r

  at_flag : (f : ℕ) → f < (Layout.flag).width → entry Layout.flag form f ≡ of b.store.flags f 0
  at_flag f r = pile_at (entries (parts b L)) Layout.flag refl f r

  at_free : (p : ℕ) → p < (Layout.free).width → entry Layout.free form p ≡ mask_of (of b.store.pools p [])
  at_free p r = pile_at (entries (parts b L)) Layout.free refl p r

  at_size : (p : ℕ) → p < (Layout.size).width → entry Layout.size form p ≡ length (of b.store.pools p [])
  at_size p r = pile_at (entries (parts b L)) Layout.size refl p r

  at_system : (k : ℕ) → k < (Layout.system).width → entry Layout.system form k ≡ get_or (system_words b) k 0
  at_system k r = pile_at (entries (parts b L)) Layout.system refl k r

  at_handling : (k : ℕ) → k < (Layout.handling).width → entry Layout.handling form k ≡ get_or (handling_words b) k 0
  at_handling k r = pile_at (entries (parts b L)) Layout.handling refl k r

  at_counter : (k : ℕ) → k < (Layout.counter).width → entry Layout.counter form k ≡ get_or (counter_words b) k 0
  at_counter k r = pile_at (entries (parts b L)) Layout.counter refl k r

  module _ (k : ℕ) (r : k < (Layout.alarm_task).width) where
    at_alarm_task : entry Layout.alarm_task form k ≡ (alarm_of b.counter k).task
    at_alarm_task = pile_at (entries (parts b L)) Layout.alarm_task refl k r

    at_alarm_wakes : entry Layout.alarm_wakes form k ≡ once (alarm_of b.counter k).wakes
    at_alarm_wakes = pile_at (entries (parts b L)) Layout.alarm_wakes refl k r

    at_alarm_code : entry Layout.alarm_code form k ≡ kept_number (alarm_of b.counter k).kept
    at_alarm_code = pile_at (entries (parts b L)) Layout.alarm_code refl k r

    at_alarm_due : entry Layout.alarm_due form k ≡ due_kept (alarm_of b.counter k).setting
    at_alarm_due = pile_at (entries (parts b L)) Layout.alarm_due refl k r

    at_alarm_period : entry Layout.alarm_period form k ≡ period_kept (alarm_of b.counter k).setting
    at_alarm_period = pile_at (entries (parts b L)) Layout.alarm_period refl k r

  pub at_nonempty : entry Layout.nonempty form 0 ≡ mask_of (map (λ p. occupied (L (ready_at p))) (ids b.store.priorities))
  at_nonempty = pile_at (entries (parts b L)) Layout.nonempty refl 0 (lit< tt)

  pub priorities_count : entry Layout.system form Layout.priorities ≡ b.store.priorities
  priorities_count = at_system Layout.priorities (lit< tt)

  at_mark : (j : ℕ) → In j max_messages → of (marks b) j 0 ≡ box_number (of b.store.messages j none)
  at_mark zero r = absurd (omega (arith, r.0))
  at_mark (suc j) r = run_at max_messages _ j 0 (omega (arith, r.1))

  pub ids_count : (r : Rings) → ids_shown form r ≡ ids_kept b r
  ids_count Tasks = at_system Layout.tasks (lit< tt)
  ids_count Messages = at_system Layout.messages (lit< tt)
  ids_count Blocks = ap (λ (n : ℕ). max_blocks * n) (at_system Layout.pools (lit< tt))

  pub low_clock : entry Layout.system form Layout.clock_low ≡ b.store.clock % 2 ^ 32
  low_clock = at_system Layout.clock_low (lit< tt)

  -- ---- what is shown

  module _ (S : SoundBody b) where
    task_shown_lem : (i : ℕ) → In i (length b.tasks) → task_shown form i ≡ task b i
    unfolding task_shown
    task_shown_lem i h =
        let r : i < (Layout.status).width = omega (arith, h.1, S.sizes.tasks.1) in
        rw (
          at_status i r,
          at_priority i r,
          at_start i r,
          at_wakeups i r,
          at_code i r,
          at_word i r,
          at_kind i r,
          at_object i r,
          at_wish i r,
          at_mode i r,
          at_ticks i r,
          back_state b.store (task b i).state (S.tasks i h).wait,
          back_code (task b i).cell (S.tasks i h).cell,
        )

    pub store_shown_lem : store_shown form (marks b) ≡ b.store
    unfolding store_shown
    store_shown_lem = λ z. record {
      priorities = at_system Layout.priorities (lit< tt) z;
      semaphores = table_is b.store.semaphores (entry Layout.system form Layout.semaphores) (entry Layout.semaphore form) 0 (at_system Layout.semaphores (lit< tt)) (λ i h. at_semaphore i (omega (arith, h.1, S.sizes.semaphores))) z;
      flags = table_is b.store.flags (entry Layout.system form Layout.flags) (entry Layout.flag form) 0 (at_system Layout.flags (lit< tt)) (λ i h. at_flag i (omega (arith, h.1, S.sizes.flags))) z;
      mailboxes = at_system Layout.mailboxes (lit< tt) z;
      messages = table_is b.store.messages (entry Layout.system form Layout.messages) (λ j. message_shown (of (marks b) j 0)) none (at_system Layout.messages (lit< tt)) message_shown_lem z;
      pools = table_is b.store.pools (entry Layout.system form Layout.pools) (λ p. pool_shown (entry Layout.size form p) (entry Layout.free form p)) [] (at_system Layout.pools (lit< tt)) pool_shown_lem z;
      clock = clock_shown_lem z;
    }
      where
        message_shown_lem : (j : ℕ) → In j (length b.store.messages) → message_shown (of (marks b) j 0) ≡ of b.store.messages j none
        message_shown_lem j h = rw (at_mark j (h.0, omega (arith, h.1, S.sizes.messages))) (back_message b.store.mailboxes _ (S.store.messages j h))

        pool_shown_lem : (p : ℕ) → In p (length b.store.pools) → pool_shown (entry Layout.size form p) (entry Layout.free form p) ≡ of b.store.pools p []
        pool_shown_lem p h =
            let r : p < (Layout.size).width = omega (arith, h.1, S.sizes.pools) in
            rw (at_size p r, at_free p r) (back_pool (of b.store.pools p []))

        clock_shown_lem : entry Layout.system form Layout.clock_low + 2 ^ 32 * entry Layout.system form Layout.clock_high ≡ b.store.clock
        clock_shown_lem = rw (at_system Layout.clock_low (lit< tt), at_system Layout.clock_high (lit< tt)) (back_clock b.store.clock)

    handlers_shown_lem : handlers_shown form ≡ b.handlers
    unfolding handlers_shown
    handlers_shown_lem = (λ z. open_shown (at_handling Layout.depth (lit< tt) z) (at_handling Layout.interrupted (lit< tt) z)) ∙ back_handlers b.handlers

    few_alarms : (m : ℕ) → alarm_count m ≤ max_alarms
    few_alarms zero = lit≤ tt
    few_alarms (suc m) = lit≤ tt

    alarm_shown_lem : (k : ℕ) → In k (length b.counter.alarms) → alarm_shown form k ≡ alarm_of b.counter k
    unfolding alarm_shown
    alarm_shown_lem k h =
        let r : k < (Layout.alarm_task).width = omega (arith, h.1, S.counter.count, few_alarms b.counter.size) in
        rw (
          at_alarm_task k r,
          at_alarm_wakes k r,
          at_alarm_code k r,
          at_alarm_due k r,
          at_alarm_period k r,
          (back_wakes (alarm_of b.counter k).wakes).0,
          (back_wakes (alarm_of b.counter k).wakes).1,
          back_kept (alarm_of b.counter k).wakes (alarm_of b.counter k).kept (S.counter.alarms k h).kept,
          back_setting (alarm_of b.counter k).setting,
        )

    counter_shown_lem : counter_shown form ≡ b.counter
    unfolding counter_shown
    counter_shown_lem = λ z. record {
      size = size z;
      now = ((λ y. count_shown (size y) (at_counter Layout.counter_now (lit< tt) y)) ∙ back_count b.counter.size b.counter.now S.counter.now) z;
      alarms = table_is b.counter.alarms (alarm_count (entry Layout.counter form Layout.counter_size)) (alarm_shown form) no_alarm (ap alarm_count size ∙ sym S.counter.count) alarm_shown_lem z;
    }
      where
        size : entry Layout.counter form Layout.counter_size ≡ b.counter.size
        size = at_counter Layout.counter_size (lit< tt)

    pub body_shown_lem : body_shown form (marks b) ≡ b
    unfolding body_shown
    body_shown_lem = λ z. record {
      tasks = table_is b.tasks (entry Layout.system form Layout.tasks) (task_shown form) nobody (at_system Layout.tasks (lit< tt)) task_shown_lem z;
      store = store_shown_lem z;
      handlers = handlers_shown_lem z;
      counter = counter_shown_lem z;
    }
