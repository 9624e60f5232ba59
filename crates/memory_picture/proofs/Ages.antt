-- A tick: each timed wait loses one, task by task, and the clock and the counter rise by one.
use mathlib.Core.Bool.{Bool, true, false, cond}
use mathlib.Core.List.{List, [], ◌∷◌, ◌++◌, map, map-map}
use mathlib.Core.Logic.{◌⊎◌, inl, inr}
use mathlib.Core.Path.{◌≡◌, refl, sym, ap, ◌∙◌, subst}
use Prim.Native.Nat.{ℕ, zero, suc, pred, ◌+◌, ◌*◌, ◌%◌, ◌^◌, ◌≤◌, ◌<◌}
use native.Mathlib.Decide.{ℕ_discrete, dec_le}
use native.Mathlib.Omega.{arith}
use lib.Dec.{eqb, lit≤, lit<}
use lib.ListN.{length, get_or, set, length-set}
use lib.Seq.{get_or-set_same, get_or-set_other}
use borrow.Author.Tests.{eqb-true, eqb-false, ne_eqb, le-leb}
use Rattle.rules.specs.Ids.{ids, In}
use Rattle.rules.specs.State.{semaphore, flag, mailbox, pool, Wait, asleep, timed, on, State, dormant, ready, suspended, absent, waiting, waiting_suspended, Task, alarm_count}
use Rattle.rules.specs.Acts.{elapse, after, move, with_state, with_clock, older, clock_after, count_after, stepped}
use Rattle.rules.proofs.Ids.{map_ids, length_ids}
use Rattle.memory_rings.proofs.Columns.{col_store, length_store}
use Rattle.memory_columns.specs.declared.Rings.{Rings}
use Rattle.memory_columns.specs.declared.Rings.TheVariants.{Tasks, Messages, Blocks}
use Rattle.memory_columns.specs.Layout as Layout
use Rattle.memory_columns.specs.Layout.{state_words, max_tasks, next_of, prev_of, words, entry, Only}
use Rattle.memory_columns.proofs.Frame.{words_length, put_only, entry_put, entry_other, only_none, only_both, only_on}
use Rattle.memory_time.specs.Elapsing.{aged, aged_from, aged_all, clocked, counted, elapsed}
use Rattle.memory_picture.specs.Picture.{no_wait, wait_shown, state_shown, task_shown, count_shown, counter_shown, store_shown, body_shown, view_shown, Accepted}
use Rattle.memory_queues.proofs.Relinks.{put_at}
use Rattle.memory_picture.proofs.Lines.{rest, follows_stay}
use Rattle.memory_picture.proofs.Done.{LowClock, Done}
use Rattle.memory_picture.proofs.Touched.{kept_shown, store_kept, handlers_kept, alarms_kept, counter_kept, touchable, Touched, untouched, touched_put}
use Rattle.memory_picture.proofs.OneTask.{sizes}

-- ---- one task

-- a wait with one tick less
abbrev shorter : Wait → Wait
shorter asleep = asleep
shorter (timed t) = timed (pred t)
shorter (on k o p m) = on k o p m

older_waiting : (w : Wait) → older (waiting w) ≡ waiting (shorter w)
older_waiting asleep = refl
older_waiting (timed t) = refl
older_waiting (on k o p m) = refl

older_both : (w : Wait) → older (waiting_suspended w) ≡ waiting_suspended (shorter w)
older_both asleep = refl
older_both (timed t) = refl
older_both (on k o p m) = refl

shorter_shown : (k o p m n : ℕ) → wait_shown k o p m (pred n) ≡ shorter (wait_shown k o p m n)
unfolding wait_shown
shorter_shown k o p m n = go (eqb k 0) (eqb k 1) (eqb k 2) (eqb k 3) (eqb k 4) (eqb k 5)
  where
    W : Bool → Bool → Bool → Bool → Bool → Bool → ℕ → Wait
    W a b c d e f n = cond a asleep (cond b (timed n) (cond c (on semaphore o 0 0) (cond d (on flag o p m) (cond e (on mailbox o 0 0) (cond f (on pool o 0 0) no_wait)))))

    go : (a b c d e f : Bool) → W a b c d e f (pred n) ≡ shorter (W a b c d e f n)
    go true b c d e f = refl
    go false true c d e f = refl
    go false false true d e f = refl
    go false false false true e f = refl
    go false false false false true f = refl
    go false false false false false true = refl
    go false false false false false false = refl

-- the state of a task with one tick less; where it is in no timed wait it does not show the ticks
older_shown : (s k o p m n : ℕ) → state_shown s (wait_shown k o p m (pred n)) ≡ older (state_shown s (wait_shown k o p m n))
unfolding state_shown
older_shown s k o p m n = go (eqb s 0) (eqb s 1) (eqb s 3) (eqb s 4) (eqb s 5) (eqb s 6)
  where
    w : ℕ → Wait
    w n = wait_shown k o p m n

    S : Bool → Bool → Bool → Bool → Bool → Bool → Wait → State
    S a b c d e f w = cond a dormant (cond b ready (cond c (waiting w) (cond d suspended (cond e (waiting_suspended w) (cond f absent (waiting no_wait))))))

    go : (a b c d e f : Bool) → S a b c d e f (w (pred n)) ≡ older (S a b c d e f (w n))
    go true b c d e f = refl
    go false true c d e f = refl
    go false false true d e f = ap waiting (shorter_shown k o p m n) ∙ sym (older_waiting (w n))
    go false false false true e f = refl
    go false false false false true f = ap waiting_suspended (shorter_shown k o p m n) ∙ sym (older_both (w n))
    go false false false false false true = refl
    go false false false false false false = refl

abbrev pub older_task : Task → Task
older_task t = with_state (older t.state) t

module _ (b : List ℕ) (size : length b ≡ state_words) (t : ℕ) (h : t < (Layout.status).width) where
  aged_touched : Touched t rest b (aged t b)
  unfolding aged
  aged_touched = touched_put Layout.ticks _ refl (untouched size)

  aged_shown : task_shown (aged t b) t ≡ older_task (task_shown b t)
  unfolding aged task_shown
  aged_shown = simp (col_store, put_at b size) (λ z. with_state (older_shown (entry Layout.status b t) (entry Layout.kind b t) (entry Layout.object b t) (entry Layout.wish b t) (entry Layout.mode b t) (entry Layout.ticks b t) z) (task_shown b t))

-- ---- n tasks from t on

record Aged (n t : ℕ) (b c : List ℕ) : Type 0 where
  size : length c ≡ state_words
  inside : (j : ℕ) → t ≤ j → j < t + n → task_shown c j ≡ older_task (task_shown b j)
  outside : (j : ℕ) → (j < t) ⊎ (t + n ≤ j) → task_shown c j ≡ task_shown b j
  only : Only touchable b c
  next : words Layout.next c ≡ words Layout.next b
  prev : words Layout.prev c ≡ words Layout.prev b
  word : entry Layout.nonempty c 0 ≡ entry Layout.nonempty b 0

aged_from_lem : (n t : ℕ) (b : List ℕ) → length b ≡ state_words → t + n ≤ (Layout.status).width → Aged n t b (aged_from n t b)
unfolding aged_from
aged_from_lem zero t b e h = record { size = e; inside = λ j x y. absurd (omega arith); outside = λ j x. refl; only = only_none touchable b; next = refl; prev = refl; word = refl }
aged_from_lem (suc n) t b e h = go (aged_touched b e t (omega arith)) (aged_shown b e t (omega arith)) (λ e'. aged_from_lem n (suc t) (aged t b) e' (omega arith))
  where
    go : Touched t rest b (aged t b) → task_shown (aged t b) t ≡ older_task (task_shown b t) → (length (aged t b) ≡ state_words → Aged n (suc t) (aged t b) (aged_from n (suc t) (aged t b)))
        → Aged (suc n) t b (aged_from n (suc t) (aged t b))
    go T f ih =
        let R = ih T.size in record {
          size = R.size;
          inside = λ j x y. elim (ℕ_discrete j t) [
            | yes q ↦ subst (λ (i : ℕ). task_shown (aged_from n (suc t) (aged t b)) i ≡ older_task (task_shown b i)) (sym q) (R.outside t (inl (omega arith)) ∙ f)
            | no ne ↦ R.inside j (omega arith) (omega arith) ∙ ap older_task (T.others j ne)
          ];
          outside = λ j x. R.outside j (elim x [ inl a ↦ inl (omega arith) | inr a ↦ inr (omega arith) ]) ∙ T.others j (elim x [ inl a ↦ (λ q. omega arith) | inr a ↦ (λ q. omega arith) ]);
          only = only_on T.only R.only;
          next = R.next ∙ T.next;
          prev = R.prev ∙ T.prev;
          word = R.word ∙ T.word;
        }

-- ---- the clock

clock_carry : (l h : ℕ) → l < 2 ^ 32 → l + 2 ^ 32 * h < 2 ^ 48 → suc l % 2 ^ 32 ≡ 0 → 0 + 2 ^ 32 * (suc h % 2 ^ 16) ≡ clock_after (l + 2 ^ 32 * h)
clock_carry l h a b e = go (dec_le (2 + h) 65536)
  where
    q : l ≡ 4294967295
    q = omega arith

    go : Dec (2 + h ≤ 65536) → 0 + 2 ^ 32 * (suc h % 2 ^ 16) ≡ clock_after (l + 2 ^ 32 * h)
    go (yes k) = let r : suc h % 65536 ≡ suc h = omega arith in rw r (omega arith)
    go (no k) = let r : h ≡ 65535 = omega arith in rw (q, r)

clock_step : (l h : ℕ) → l < 2 ^ 32 → l + 2 ^ 32 * h < 2 ^ 48 → (suc l % 2 ^ 32 ≡ 0 → ⊥) → suc l % 2 ^ 32 + 2 ^ 32 * h ≡ clock_after (l + 2 ^ 32 * h)
clock_step l h a b e = omega arith

-- the clock's halves in the words of the system: the low half comes to 0, or not
abbrev ticked : List ℕ → Bool → List ℕ
ticked w t = cond t (set (set w Layout.clock_low 0) Layout.clock_high (suc (get_or w Layout.clock_high 0) % 2 ^ 16)) (set w Layout.clock_low (suc (get_or w Layout.clock_low 0) % 2 ^ 32))

ticked_count : (w : List ℕ) (t : Bool) (i : ℕ) → i < Layout.clock_low → get_or (ticked w t) i 0 ≡ get_or w i 0
ticked_count w true i h = get_or-set_other (set w Layout.clock_low 0) Layout.clock_high i _ 0 (λ e. omega arith) ∙ get_or-set_other w Layout.clock_low i 0 0 (λ e. omega arith)
ticked_count w false i h = get_or-set_other w Layout.clock_low i _ 0 (λ e. omega arith)

-- the low half
ticked_zero : (w : List ℕ) → length w ≡ (Layout.system).width → get_or (ticked w true) Layout.clock_low 0 ≡ 0
ticked_zero w k = get_or-set_other (set w Layout.clock_low 0) Layout.clock_high Layout.clock_low _ 0 (λ e. omega arith) ∙ get_or-set_same w Layout.clock_low 0 0 (omega arith)

ticked_next : (w : List ℕ) → length w ≡ (Layout.system).width → get_or (ticked w false) Layout.clock_low 0 ≡ suc (get_or w Layout.clock_low 0) % 2 ^ 32
ticked_next w k = get_or-set_same w Layout.clock_low _ 0 (omega arith)

ticked_low : (w : List ℕ) (t : Bool) → length w ≡ (Layout.system).width → get_or (ticked w t) Layout.clock_low 0 < 2 ^ 32
ticked_low w true k = rw (ticked_zero w k) (lit≤ tt)
ticked_low w false k = rw (ticked_next w k) (omega arith)

ticked_clock : (w : List ℕ) (t : Bool) → length w ≡ (Layout.system).width → eqb (suc (get_or w Layout.clock_low 0) % 2 ^ 32) 0 ≡ t → get_or w Layout.clock_low 0 < 2 ^ 32 → get_or w Layout.clock_low 0 + 2 ^ 32 * get_or w Layout.clock_high 0 < 2 ^ 48
    → get_or (ticked w t) Layout.clock_low 0 + 2 ^ 32 * get_or (ticked w t) Layout.clock_high 0 ≡ clock_after (get_or w Layout.clock_low 0 + 2 ^ 32 * get_or w Layout.clock_high 0)
ticked_clock w true k e a b = (λ z. ticked_zero w k z + 2 ^ 32 * high z) ∙ clock_carry _ _ a b (eqb-true _ _ e)
  where
    high : get_or (ticked w true) Layout.clock_high 0 ≡ suc (get_or w Layout.clock_high 0) % 2 ^ 16
    high = get_or-set_same (set w Layout.clock_low 0) Layout.clock_high _ 0 (rw (length-set w Layout.clock_low 0) (omega arith))
ticked_clock w false k e a b = (λ z. ticked_next w k z + 2 ^ 32 * high z) ∙ clock_step _ _ a b (eqb-false _ _ e)
  where
    high : get_or (ticked w false) Layout.clock_high 0 ≡ get_or w Layout.clock_high 0
    high = get_or-set_other w Layout.clock_low Layout.clock_high _ 0 (λ e. omega arith)

record Clocked (c d : List ℕ) : Type 0 where
  size : length d ≡ length c
  only : Only (Layout.system ∷ []) c d
  system : words Layout.system d ≡ ticked (words Layout.system c) (eqb (suc (entry Layout.system c Layout.clock_low) % 2 ^ 32) 0)

clocked_law : (c : List ℕ) → Clocked c (clocked c)
unfolding clocked
clocked_law c = go (eqb (suc (entry Layout.system c Layout.clock_low) % 2 ^ 32) 0) refl
  where
    D : Bool → List ℕ
    D t = cond t (Layout.put Layout.system Layout.clock_high (suc (entry Layout.system c Layout.clock_high) % 2 ^ 16) (Layout.put Layout.system Layout.clock_low 0 c)) (Layout.put Layout.system Layout.clock_low (suc (entry Layout.system c Layout.clock_low) % 2 ^ 32) c)

    go : (t : Bool) → eqb (suc (entry Layout.system c Layout.clock_low) % 2 ^ 32) 0 ≡ t → Clocked c (D t)
    go true e = record {
      size = simp length_store;
      only = only_on (put_only Layout.system Layout.clock_low 0 c) (put_only Layout.system Layout.clock_high _ (Layout.put Layout.system Layout.clock_low 0 c));
      system = rw e (simp col_store);
    }
    go false e = record { size = simp length_store; only = put_only Layout.system Layout.clock_low _ c; system = rw e (simp col_store) }

-- ---- the counter

counted_only : (c : List ℕ) → Only (Layout.counter ∷ []) c (counted c)
unfolding counted
counted_only c = go (eqb (entry Layout.counter c Layout.counter_size) 0)
  where
    go : (t : Bool) → Only (Layout.counter ∷ []) c (cond t c (Layout.put Layout.counter Layout.counter_now (count_after (entry Layout.counter c Layout.counter_size) (entry Layout.counter c Layout.counter_now)) c))
    go true = only_none (Layout.counter ∷ []) c
    go false = put_only Layout.counter Layout.counter_now _ c

pub counted_size : (c : List ℕ) → length (counted c) ≡ length c
unfolding counted
counted_size c = go (eqb (entry Layout.counter c Layout.counter_size) 0)
  where
    go : (t : Bool) → length (cond t c (Layout.put Layout.counter Layout.counter_now (count_after (entry Layout.counter c Layout.counter_size) (entry Layout.counter c Layout.counter_now)) c)) ≡ length c
    go true = refl
    go false = simp length_store

-- its size stays, and the count that is shown makes a step
module _ (c : List ℕ) (h : length c ≡ state_words) where
  abbrev m : ℕ
  m = entry Layout.counter c Layout.counter_size

  abbrev n : ℕ
  n = entry Layout.counter c Layout.counter_now

  pub counted_words : (entry Layout.counter (counted c) Layout.counter_size ≡ m) × (count_shown m (entry Layout.counter (counted c) Layout.counter_now) ≡ count_after m (count_shown m n))
  unfolding counted
  counted_words = go m refl
    where
      go : (k : ℕ) → m ≡ k → (entry Layout.counter (cond (eqb k 0) c (Layout.put Layout.counter Layout.counter_now (count_after k n) c)) Layout.counter_size ≡ m)
          × (count_shown k (entry Layout.counter (cond (eqb k 0) c (Layout.put Layout.counter Layout.counter_now (count_after k n) c)) Layout.counter_now) ≡ count_after k (count_shown k n))
      go zero e = (refl, refl)
      go (suc k) e = rw (ne_eqb (suc k) 0 (λ q. omega arith)) (
        entry_other Layout.counter Layout.counter_now (count_after (suc k) n) c Layout.counter refl refl Layout.counter_size (λ q. omega arith),
        entry_put Layout.counter Layout.counter_now (count_after (suc k) n) c h refl (lit< tt),
      )

  counted_shown : counter_shown (counted c) ≡ stepped (counter_shown c)
  unfolding counter_shown
  counted_shown =
      let w = counted_words in λ z. record {
        size = w.0 z;
        now = (ap (λ (x : ℕ). count_shown x (entry Layout.counter (counted c) Layout.counter_now)) w.0 ∙ w.1) z;
        alarms = map (λ k. alarms_kept (counted_only c) refl k z) (ids (alarm_count (w.0 z)));
      }

-- the clock and the counter have risen
record Risen (c d : List ℕ) : Type 0 where
  size : length d ≡ length c
  only : Only (Layout.system ∷ Layout.counter ∷ []) c d
  system : words Layout.system d ≡ ticked (words Layout.system c) (eqb (suc (entry Layout.system c Layout.clock_low) % 2 ^ 32) 0)
  counter : counter_shown d ≡ stepped (counter_shown c)

risen_law : (c : List ℕ) → length c ≡ state_words → Risen c (counted (clocked c))
risen_law c h =
    let K = clocked_law c in
    let F = counted_only (clocked c) in record {
      size = counted_size (clocked c) ∙ K.size;
      only = only_both K.only F;
      system = F.kept Layout.system refl ∙ K.system;
      counter = counted_shown (clocked c) (K.size ∙ h) ∙ ap stepped (counter_kept K.only refl refl);
    }

-- ---- the tick

module _ (b msgs : List ℕ) (A : Accepted b msgs) (F : LowClock b) where
  few_tasks : entry Layout.system b Layout.tasks ≤ max_tasks
  unfolding body_shown
  few_tasks = omega (arith, (sizes b msgs A).tasks.1, length_ids (task_shown b) (entry Layout.system b Layout.tasks))

  clock_range : entry Layout.system b Layout.clock_low + 2 ^ 32 * entry Layout.system b Layout.clock_high < 2 ^ 48
  unfolding body_shown view_shown store_shown
  clock_range = A.sound.body.store.clock

  module _ (c d : List ℕ) (R : Aged (entry Layout.system b Layout.tasks) 1 b c) (K : Risen c d) where
    only : Only (touchable ++ (Layout.system ∷ Layout.counter ∷ [])) b d
    only = only_both R.only K.only

    w : words Layout.system c ≡ words Layout.system b
    w = R.only.kept Layout.system refl

    system : words Layout.system d ≡ ticked (words Layout.system b) (eqb (suc (entry Layout.system b Layout.clock_low) % 2 ^ 32) 0)
    system = K.system ∙ ap (λ (l : List ℕ). ticked l (eqb (suc (get_or l Layout.clock_low 0) % 2 ^ 32) 0)) w

    counts : (i : ℕ) → i < Layout.clock_low → entry Layout.system d i ≡ entry Layout.system b i
    counts i h = ap (λ (l : List ℕ). get_or l i 0) system ∙ ticked_count (words Layout.system b) (eqb (suc (entry Layout.system b Layout.clock_low) % 2 ^ 32) 0) i h

    shown : (j : ℕ) → In j (entry Layout.system b Layout.tasks) → task_shown d j ≡ older_task (task_shown b j)
    shown j h = kept_shown K.only refl j ∙ R.inside j h.0 (omega (arith, h.1))

    tasks : map (task_shown d) (ids (entry Layout.system d Layout.tasks)) ≡ map older_task (map (task_shown b) (ids (entry Layout.system b Layout.tasks)))
    tasks =
        ap (λ (n : ℕ). map (task_shown d) (ids n)) (counts Layout.tasks (lit≤ tt))
        ∙ map_ids (task_shown d) (λ j. older_task (task_shown b j)) (entry Layout.system b Layout.tasks) shown
        ∙ sym (map-map older_task (task_shown b) (ids (entry Layout.system b Layout.tasks)))

    wide : length (words Layout.system b) ≡ (Layout.system).width
    wide = words_length Layout.system b A.whole.size refl

    clock : entry Layout.system d Layout.clock_low + 2 ^ 32 * entry Layout.system d Layout.clock_high ≡ clock_after (entry Layout.system b Layout.clock_low + 2 ^ 32 * entry Layout.system b Layout.clock_high)
    clock =
        (λ z. get_or (system z) Layout.clock_low 0 + 2 ^ 32 * get_or (system z) Layout.clock_high 0)
        ∙ ticked_clock (words Layout.system b) _ wide refl F clock_range

    body : body_shown d msgs ≡ after elapse (body_shown b msgs)
    unfolding body_shown store_shown after
    body = λ z. record { tasks = tasks z; store = stores z; handlers = handlers_kept only refl z; counter = (K.counter ∙ ap stepped (counter_kept R.only refl refl)) z }
      where
        stores : store_shown d msgs ≡ (after elapse (body_shown b msgs)).store
        stores = store_kept b d msgs msgs only refl counts ∙ ap (λ (t : ℕ). with_clock t (store_shown b msgs)) clock

    next : (r : Rings) → words (next_of r) d ≡ words (next_of r) b
    next Tasks = K.only.kept Layout.next refl ∙ R.next
    next Messages = only.kept Layout.mail_next refl
    next Blocks = only.kept Layout.block_next refl

    prev : (r : Rings) → words (prev_of r) d ≡ words (prev_of r) b
    prev Tasks = K.only.kept Layout.prev refl ∙ R.prev
    prev Messages = only.kept Layout.mail_prev refl
    prev Blocks = only.kept Layout.block_prev refl

    ticked_done : Done elapse b msgs d msgs
    unfolding move
    ticked_done = record {
      size = K.size ∙ R.size;
      many = A.whole.marks;
      body = body;
      steps = λ r. rest;
      fine = λ r. tt;
      next = next;
      prev = prev;
      word = ap (λ (l : List ℕ). get_or l 0 0) (K.only.kept Layout.nonempty refl) ∙ R.word;
      counts = counts;
      low_half = λ _. subst (λ (l : List ℕ). get_or l Layout.clock_low 0 < 2 ^ 32) (sym system) (ticked_low (words Layout.system b) (eqb (suc (entry Layout.system b Layout.clock_low) % 2 ^ 32) 0) wide);
      lines = follows_stay (store_shown b msgs) _ _;
    }

  pub elapse_done : Done elapse b msgs (elapsed b) msgs
  unfolding elapsed aged_all
  elapse_done =
      let R = aged_from_lem (entry Layout.system b Layout.tasks) 1 b A.whole.size (omega (arith, few_tasks)) in
      rw (le-leb (entry Layout.system b Layout.tasks) max_tasks few_tasks) (ticked_done _ _ R (risen_law _ R.size))
