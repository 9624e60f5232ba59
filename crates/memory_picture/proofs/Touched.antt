-- A change of one task: what is written in its entries, and its move in the rings, leave all else in the memory alone.
use mathlib.Core.Bool.{true, cond}
use mathlib.Core.List.{List, [], ◌∷◌, map}
use mathlib.Core.Logic.{◌≢◌}
use mathlib.Core.Path.{◌≡◌, refl, sym, ap, ◌∙◌, subst, fun_ext}
use Prim.Native.Nat.{ℕ, suc, ◌+◌, ◌*◌, ◌^◌, ◌<◌}
use native.Mathlib.Decide.{ℕ_discrete}
use native.Mathlib.Omega.{arith}
use lib.Dec.{eqb, leb, lit≤}
use lib.ListN.{get_or}
use lib.Seq.{ext_get_or}
use borrow.Author.Tests.{ne_eqb}
use Rattle.rules.specs.Ids.{of, put, ids, In}
use Rattle.rules.specs.State.{Task, Store, alarm_count}
use Rattle.rules.specs.Places.{Place}
use Rattle.rules.specs.Acts.{with_messages, with_clock}
use Rattle.rules.proofs.Ids.{length_put, of_put_other, of_put_same, of_ids, length_ids}
use Rattle.memory_columns.specs.declared.Rings.{Rings}
use Rattle.memory_columns.specs.declared.Rings.TheVariants.{Tasks, Messages, Blocks}
use Rattle.memory_columns.specs.Layout as Layout
use Rattle.memory_columns.specs.Layout.{Column, next_of, prev_of, links_of, task_columns, object_columns, alarm_columns, same, among, clear, words, entry, Only}
use Rattle.memory_columns.proofs.Tiling.{either_right}
use Rattle.memory_columns.proofs.Frame.{Sized, put_size, put_apart, words_put, entry_other, only_none, only_on, only_first, task_column, object_column, clear_apart, put_among, all_clear, all_clear_lem}
use Rattle.memory_queues.specs.Moves.{queued, unqueued}
use Rattle.memory_picture.specs.Picture.{code_of, wait_shown, state_shown, task_shown, message_shown, pool_shown, messages_shown, clock_shown, store_shown, open_shown, handlers_shown, kept_of, setting_shown, alarm_shown, count_shown, counter_shown, anchor}
use Rattle.memory_queues.proofs.Relinks.{queued_law, unqueued_law}
use Rattle.memory_picture.proofs.Lines.{Step, rest, out, to, next_after, prev_after, word_after}

-- ---- a table with one entry changed

pub map_put_in {ℓ} : {A : Type ℓ} (f g : ℕ → A) (n i : ℕ) → In i n → ((j : ℕ) → In j n → j ≢ i → g j ≡ f j) → map g (ids n) ≡ put (map f (ids n)) i (g i)
map_put_in f g n i h same = ext_get_or (g i) _ _ (length_ids g n ∙ sym (length_put (map f (ids n)) i (g i) ∙ length_ids f n)) (λ j k. go j (rw (length_ids g n) at k) (ℕ_discrete (suc j) i))
  where
    go : (j : ℕ) → j < n → Dec (suc j ≡ i) → of (map g (ids n)) (suc j) (g i) ≡ of (put (map f (ids n)) i (g i)) (suc j) (g i)
    go j k (yes e) = subst (λ (x : ℕ). of (map g (ids n)) x (g i) ≡ of (put (map f (ids n)) i (g i)) x (g i)) (sym e)
        (of_ids g n i (g i) h ∙ sym (of_put_same (map f (ids n)) i (g i) (g i) (rw (length_ids f n) h)))
    go j k (no ne) =
        of_ids g n (suc j) (g i) (omega arith) ∙ same (suc j) (omega arith, omega arith) ne ∙ sym (of_ids f n (suc j) (g i) (omega arith))
        ∙ sym (of_put_other (map f (ids n)) i (suc j) (g i) (g i) (ne_eqb i (suc j) (λ e. ne (sym e))))

pub map_put {ℓ} : {A : Type ℓ} (f g : ℕ → A) (n i : ℕ) → In i n → ((j : ℕ) → j ≢ i → g j ≡ f j) → map g (ids n) ≡ put (map f (ids n)) i (g i)
map_put f g n i h same = map_put_in f g n i h (λ j r ne. same j ne)

-- ---- the columns of tasks

-- a task is shown by its entries
pub shown_by : (b c : List ℕ) (j : ℕ) → ((d : Column) → among task_columns d ≡ true → entry d c j ≡ entry d b j) → task_shown c j ≡ task_shown b j
unfolding task_shown
shown_by b c j e = λ z. record {
  state = state_shown (e Layout.status refl z) (wait_shown (e Layout.kind refl z) (e Layout.object refl z) (e Layout.wish refl z) (e Layout.mode refl z) (e Layout.ticks refl z));
  priority = e Layout.priority refl z;
  start = e Layout.start refl z;
  wakeups = e Layout.wakeups refl z;
  cell = record { code = code_of (e Layout.code refl z); word = e Layout.word refl z };
}

-- where nothing of tasks is written
pub kept_shown : {l : List Column} {b c : List ℕ} → Only l b c → all_clear l task_columns ≡ true → (j : ℕ) → task_shown c j ≡ task_shown b j
kept_shown {l} {b} {c} F h j = shown_by b c j (λ d k. ap (λ (m : List ℕ). get_or m j 0) (F.kept d (all_clear_lem l task_columns h d k)))

-- all tasks
pub tasks_kept : {l : List Column} {b c : List ℕ} → Only l b c → all_clear l task_columns ≡ true → clear l Layout.system ≡ true
    → map (task_shown c) (ids (entry Layout.system c Layout.tasks)) ≡ map (task_shown b) (ids (entry Layout.system b Layout.tasks))
tasks_kept {b} {c} F h s =
    ap (λ (l : List ℕ). map (task_shown c) (ids (get_or l Layout.tasks 0))) (F.kept Layout.system s)
    ∙ ap (λ (g : ℕ → Task). map g (ids (entry Layout.system b Layout.tasks))) (fun_ext (kept_shown F h))

-- ---- the store

-- the store, from the counts, the words of the columns of objects, the marks of the messages and the clock
abbrev store_from : (ℕ → ℕ) → (Column → List ℕ) → List ℕ → ℕ → Store
store_from n W marks t = record {
  priorities = n Layout.priorities;
  semaphores = map (λ i. get_or (W Layout.semaphore) i 0) (ids (n Layout.semaphores));
  flags = map (λ i. get_or (W Layout.flag) i 0) (ids (n Layout.flags));
  mailboxes = n Layout.mailboxes;
  messages = map (λ j. message_shown (of marks j 0)) (ids (n Layout.messages));
  pools = map (λ p. pool_shown (get_or (W Layout.size) p 0) (get_or (W Layout.free) p 0)) (ids (n Layout.pools));
  clock = t;
}

store_from_lem : (c marks : List ℕ) (n : ℕ → ℕ) (W : Column → List ℕ) → ((i : ℕ) → i < Layout.clock_low → entry Layout.system c i ≡ n i) → ((d : Column) → among object_columns d ≡ true → words d c ≡ W d)
    → store_shown c marks ≡ store_from n W marks (clock_shown c)
unfolding store_shown
store_from_lem c marks n W s k = λ z. record {
  priorities = s Layout.priorities (lit≤ tt) z;
  semaphores = map (λ i. get_or (k Layout.semaphore refl z) i 0) (ids (s Layout.semaphores (lit≤ tt) z));
  flags = map (λ i. get_or (k Layout.flag refl z) i 0) (ids (s Layout.flags (lit≤ tt) z));
  mailboxes = s Layout.mailboxes (lit≤ tt) z;
  messages = map (λ j. message_shown (of marks j 0)) (ids (s Layout.messages (lit≤ tt) z));
  pools = map (λ p. pool_shown (get_or (k Layout.size refl z) p 0) (get_or (k Layout.free refl z) p 0)) (ids (s Layout.pools (lit≤ tt) z));
  clock = clock_shown c;
}

-- one word of an object is written
pub store_put : (b msgs : List ℕ) (x : Column) (i v : ℕ) → among object_columns x ≡ true
    → store_shown (Layout.put x i v b) msgs ≡ store_from (entry Layout.system b) (λ d. cond (same x d) (words x (Layout.put x i v b)) (words d b)) msgs (clock_shown b)
store_put b msgs x i v h =
    store_from_lem (Layout.put x i v b) msgs (entry Layout.system b) _ (λ j r. ap (λ (l : List ℕ). get_or l j 0) system) (λ d k. words_put x i v b d (object_column x h) (object_column d k))
    ∙ (λ z. store_from (entry Layout.system b) (λ d. cond (same x d) (words x (Layout.put x i v b)) (words d b)) msgs (get_or (system z) Layout.clock_low 0 + 2 ^ 32 * get_or (system z) Layout.clock_high 0))
  where
    system : words Layout.system (Layout.put x i v b) ≡ words Layout.system b
    system = put_apart x i v b Layout.system (clear_apart object_columns x Layout.system refl h)

-- no word of an object is written, and the counts stay
pub store_kept : {l : List Column} (b c msgs marks : List ℕ) → Only l b c → all_clear l object_columns ≡ true → ((i : ℕ) → i < Layout.clock_low → entry Layout.system c i ≡ entry Layout.system b i)
    → store_shown c marks ≡ with_clock (clock_shown c) (with_messages (map (λ j. message_shown (of marks j 0)) (ids (messages_shown b))) (store_shown b msgs))
unfolding store_shown
store_kept {l} b c msgs marks F h s = store_from_lem c marks (entry Layout.system b) (λ d. words d b) s (λ d k. F.kept d (all_clear_lem l object_columns h d k))

-- nor is the clock
pub store_stays : {l : List Column} (b c msgs marks : List ℕ) → Only l b c → all_clear l object_columns ≡ true → clear l Layout.system ≡ true
    → store_shown c marks ≡ with_messages (map (λ j. message_shown (of marks j 0)) (ids (messages_shown b))) (store_shown b msgs)
unfolding store_shown
store_stays b c msgs marks F h k =
    store_kept b c msgs marks F h (λ i r. ap (λ (m : List ℕ). get_or m i 0) (F.kept Layout.system k))
    ∙ (λ z. with_clock (get_or (F.kept Layout.system k z) Layout.clock_low 0 + 2 ^ 32 * get_or (F.kept Layout.system k z) Layout.clock_high 0) (with_messages (map (λ j. message_shown (of marks j 0)) (ids (messages_shown b))) (store_shown b msgs)))

-- ---- the links of the rings

abbrev ring_columns : List Column
ring_columns = Layout.next ∷ Layout.prev ∷ Layout.mail_next ∷ Layout.mail_prev ∷ Layout.block_next ∷ Layout.block_prev ∷ []

pub rings_clear : (l : List Column) → all_clear l ring_columns ≡ true → (r : Rings) → (clear l (next_of r) ≡ true) × (clear l (prev_of r) ≡ true)
rings_clear l h Tasks = (all_clear_lem l ring_columns h Layout.next refl, all_clear_lem l ring_columns h Layout.prev refl)
rings_clear l h Messages = (all_clear_lem l ring_columns h Layout.mail_next refl, all_clear_lem l ring_columns h Layout.mail_prev refl)
rings_clear l h Blocks = (all_clear_lem l ring_columns h Layout.block_next refl, all_clear_lem l ring_columns h Layout.block_prev refl)

-- ---- the handlers

pub handlers_kept : {l : List Column} {b c : List ℕ} → Only l b c → clear l Layout.handling ≡ true → handlers_shown c ≡ handlers_shown b
unfolding handlers_shown
handlers_kept F h = ap (λ (m : List ℕ). open_shown (get_or m Layout.depth 0) (get_or m Layout.interrupted 0)) (F.kept Layout.handling h)

-- ---- the counter

-- an alarm is shown by its entries
pub alarm_by : (b c : List ℕ) (k : ℕ) → ((d : Column) → among alarm_columns d ≡ true → entry d c k ≡ entry d b k) → alarm_shown c k ≡ alarm_shown b k
unfolding alarm_shown
alarm_by b c k e = λ z. record {
  task = cond (leb (e Layout.alarm_wakes refl z) 1) (e Layout.alarm_task refl z) 0;
  wakes = eqb (e Layout.alarm_wakes refl z) 1;
  kept = kept_of (e Layout.alarm_code refl z);
  setting = setting_shown (e Layout.alarm_due refl z) (e Layout.alarm_period refl z);
}

-- where nothing of alarms is written
pub alarms_kept : {l : List Column} {b c : List ℕ} → Only l b c → all_clear l alarm_columns ≡ true → (k : ℕ) → alarm_shown c k ≡ alarm_shown b k
alarms_kept {l} {b} {c} F h k = alarm_by b c k (λ d r. ap (λ (m : List ℕ). get_or m k 0) (F.kept d (all_clear_lem l alarm_columns h d r)))

-- nor of the counter
pub counter_kept : {l : List Column} {b c : List ℕ} → Only l b c → clear l Layout.counter ≡ true → all_clear l alarm_columns ≡ true → counter_shown c ≡ counter_shown b
unfolding counter_shown
counter_kept F n h = λ z. record {
  size = get_or (F.kept Layout.counter n z) Layout.counter_size 0;
  now = count_shown (get_or (F.kept Layout.counter n z) Layout.counter_size 0) (get_or (F.kept Layout.counter n z) Layout.counter_now 0);
  alarms = map (λ k. alarms_kept F h k z) (ids (alarm_count (get_or (F.kept Layout.counter n z) Layout.counter_size 0)));
}

-- ---- one task is touched

-- what an act on a task may write
abbrev pub touchable : List Column
touchable = links_of Tasks ∷ Layout.nonempty ∷ task_columns

-- c is b but for the entries of task t, and for the rings of tasks and the word of nonempty ready queues, in which t made a step
pub record Touched (t : ℕ) (s : Step) (b c : List ℕ) : Type 0 where
  pub size : Sized c
  pub others : (j : ℕ) → j ≢ t → task_shown c j ≡ task_shown b j
  pub only : Only touchable b c
  pub next : words Layout.next c ≡ next_after s (words Layout.next b) (words Layout.prev b)
  pub prev : words Layout.prev c ≡ prev_after s (words Layout.next b) (words Layout.prev b)
  pub word : entry Layout.nonempty c 0 ≡ word_after s (words Layout.next b) (words Layout.prev b) (entry Layout.nonempty b 0)

links_touched : {b c : List ℕ} → Only (links_of Tasks ∷ Layout.nonempty ∷ []) b c → Only touchable b c
links_touched F = only_first (links_of Tasks ∷ Layout.nonempty ∷ []) task_columns F

module _ {t : ℕ} {b : List ℕ} where
  pub untouched : Sized b → Touched t rest b b
  untouched e = record { size = e; others = λ j ne. refl; only = only_none touchable b; next = refl; prev = refl; word = refl }

  pub touched_put : {s : Step} {c : List ℕ} (x : Column) (v : ℕ) → among task_columns x ≡ true → Touched t s b c → Touched t s b (Layout.put x t v c)
  touched_put {c} x v h T = record {
    size = put_size x t v c T.size;
    others = λ j ne. shown_by c (Layout.put x t v c) j (λ d k. entry_other x t v c d (task_column x h) (task_column d k) j ne) ∙ T.others j ne;
    only = only_on T.only (put_among touchable x t v c (either_right (same (links_of Tasks) x) (among (Layout.nonempty ∷ task_columns) x) (either_right (same Layout.nonempty x) (among task_columns x) h)));
    next = put_apart x t v c Layout.next (clear_apart task_columns x Layout.next refl h) ∙ T.next;
    prev = put_apart x t v c Layout.prev (clear_apart task_columns x Layout.prev refl h) ∙ T.prev;
    word = ap (λ (l : List ℕ). get_or l 0 0) (put_apart x t v c Layout.nonempty (clear_apart task_columns x Layout.nonempty refl h)) ∙ T.word;
  }

  pub touched_left : {c : List ℕ} → Touched t rest b c → Touched t (out t) b (unqueued t c)
  touched_left {c} T =
      let R = unqueued_law c T.size t in record {
        size = R.size;
        others = λ j ne. kept_shown R.only refl j ∙ T.others j ne;
        only = only_on T.only (links_touched R.only);
        next = R.next ∙ rw (T.next, T.prev);
        prev = R.prev ∙ rw (T.next, T.prev);
        word = R.word ∙ rw (T.next, T.prev, T.word);
      }

  pub touched_last : {c : List ℕ} (a : ℕ) (h : Place) → a ≡ anchor h → Touched t (out t) b c → Touched t (to h t) b (queued a t c)
  touched_last {c} a h e T =
      let R = queued_law c T.size a t in record {
        size = R.size;
        others = λ j ne. kept_shown R.only refl j ∙ T.others j ne;
        only = only_on T.only (links_touched R.only);
        next = R.next ∙ rw (T.next, T.prev, e);
        prev = R.prev ∙ rw (T.prev, e);
        word = R.word ∙ rw (T.word, e);
      }
