-- The tick: the releases of its first pass are those of the rules, and as many; then the alarms ring over what it left. A release changes no other task, so that who is released along the way is who was to be at the start. Assumes nothing.
use mathlib.Core.Bool.{Bool, true, false, not, cond, ◌&&◌, ◌||◌, false≢true, and-false, or-false, or_assoc}
use mathlib.Core.List.{List, [], ◌∷◌, ◌++◌, map}
use mathlib.Core.Logic.{◌≢◌}
use mathlib.Core.Path.{◌≡◌, refl, sym, ap, ◌∙◌}
use Prim.Native.Nat.{ℕ, zero, suc, pred, ◌+◌, ◌-◌, ◌≤◌, ◌<◌}
use native.Mathlib.Decide.{ℕ_discrete}
use native.Mathlib.Numerals.{add-one}
use native.Mathlib.Omega.{arith}
use lib.Bits.{bit_or, or_zero_l, or_add_and, and_le_r}
use lib.Dec.{eqb, leb, ltb}
use lib.IntN.{pos}
use lib.ListN.{length, take, drop, get_or, set}
use lib.Seq.{set-get_or, get_or-take, get_or-drop}
use borrow.Author.Tests.{eqb-true, leb-true, ltb-true, not-false, ne_eqb, le-leb}
use Rattle.rules.specs.Ids.{from, ids, keep, once}
use Rattle.rules.specs.Codes.{number}
use Rattle.rules.specs.State.{semaphore, flag, mailbox, pool, Wait, asleep, timed, on, State, dormant, ready, suspended, absent, waiting, waiting_suspended, alarm_count, Body, task, nobody, wait_of}
use Rattle.rules.specs.Acts.{Act, elapse, afters}
use Rattle.rules.specs.Releases.{releases}
use Rattle.rules.specs.Alarms.{rings}
use Rattle.rules.specs.Time.{ending, endings, timeout, lapse, ticked}
use Rattle.rules.proofs.Ids.{of_ids, length_ids}
use Rattle.rules.proofs.Sizes.{sizes_afters}
use Rattle.rules.proofs.Calls.{lapse_steps}
use Rattle.memory_rings.specs.Columns.{col, store}
use Rattle.memory_columns.specs.Layout as Layout
use Rattle.memory_columns.specs.Layout.{Column, state_words, max_tasks, max_alarms, entry, at_most}
use Rattle.memory_queues.specs.Moves.{queued, unqueued}
use Rattle.memory_tasks.specs.Moves.{rotated, readied}
use Rattle.memory_waits.specs.Waits.{released}
use Rattle.memory_time.specs.Elapsing.{aged, aged_from, aged_all, clocked, counted, elapsed}
use Rattle.memory_picture.specs.Picture.{no_wait, wait_shown, state_shown, task_shown, body_shown, view_shown, Accepted}
use Rattle.memory_picture.specs.Perform.{performed}
use Rattle.memory_queues.proofs.Relinks.{queued_law}
use Rattle.memory_picture.proofs.Lines.{out}
use Rattle.memory_picture.proofs.Touched.{Touched, untouched, touched_put, touched_left, kept_shown}
use Rattle.memory_picture.proofs.Ages.{counted_size, counted_words}
use Rattle.call_words.specs.Doing.{performs, performs_marks, Anything, Does, DoesOnWords}
use Rattle.call_words.specs.declared.Outcome.{Outcome}
use Rattle.call_words.specs.Outcomes.{outcome}
use Rattle.call_words.proofs.Tasks.{few_tasks}
use Rattle.call_words.proofs.Alarms.{alarms_count}
use Rattle.call_words.proofs.Performing.{performs_append, marks_append, releases_append, words_law}
use Rattle.call_words.proofs.TickActs.{lapse_names, lapse_marks, rings_marks}
use Rattle.call_ringing.specs.Ringing.{Performs, PerformsOnWords, HasCounter}
use Rattle.call_tick.specs.Ticking.{last_tick, ends_at, expired_at, expired, expiries, tasks_at, any_from, has_left, has_one}

-- ---- a wait that ends, as shown

wait_ends : (k o p m t : ℕ) → ending (wait_of (waiting (wait_shown k o p m t))) ≡ (eqb k 1 && eqb t 1)
unfolding wait_shown
wait_ends k o p m t = go (eqb k 0) (eqb k 1) (eqb k 2) (eqb k 3) (eqb k 4) (eqb k 5) refl refl
  where
    W : Bool → Bool → Bool → Bool → Bool → Bool → Wait
    W t0 t1 t2 t3 t4 t5 = cond t0 asleep (cond t1 (timed t) (cond t2 (on semaphore o 0 0) (cond t3 (on flag o p m) (cond t4 (on mailbox o 0 0) (cond t5 (on pool o 0 0) no_wait)))))

    go : (t0 t1 t2 t3 t4 t5 : Bool) → eqb k 0 ≡ t0 → eqb k 1 ≡ t1 → ending (wait_of (waiting (W t0 t1 t2 t3 t4 t5))) ≡ (eqb k 1 && eqb t 1)
    go true t1 t2 t3 t4 t5 e f = rw (eqb-true k 0 e)
    go false true t2 t3 t4 t5 e f = rw f
    go false false true t3 t4 t5 e f = rw f
    go false false false true t4 t5 e f = rw f
    go false false false false true t5 e f = rw f
    go false false false false false true e f = rw f
    go false false false false false false e f = rw f

shown_ends : (s k o p m t : ℕ) → ending (wait_of (state_shown s (wait_shown k o p m t))) ≡ last_tick s k t
unfolding state_shown
shown_ends s k o p m t = go (eqb s 0) (eqb s 1) (eqb s 3) (eqb s 4) (eqb s 5) (eqb s 6) refl refl refl refl refl
  where
    S : Bool → Bool → Bool → Bool → Bool → Bool → State
    S a b c d e x = let w = wait_shown k o p m t in cond a dormant (cond b ready (cond c (waiting w) (cond d suspended (cond e (waiting_suspended w) (cond x absent (waiting no_wait))))))

    go : (a b c d e x : Bool) → eqb s 0 ≡ a → eqb s 1 ≡ b → eqb s 3 ≡ c → eqb s 4 ≡ d → eqb s 5 ≡ e → ending (wait_of (S a b c d e x)) ≡ (((eqb s 3 || eqb s 5) && eqb k 1) && eqb t 1)
    go true b c d e x e0 e1 e3 e4 e5 = rw (eqb-true s 0 e0)
    go false true c d e x e0 e1 e3 e4 e5 = rw (eqb-true s 1 e1)
    go false false true d e x e0 e1 e3 e4 e5 = rw e3 (wait_ends k o p m t)
    go false false false true e x e0 e1 e3 e4 e5 = rw (eqb-true s 4 e4)
    go false false false false true x e0 e1 e3 e4 e5 = rw (e3, e5) (wait_ends k o p m t)
    go false false false false false true e0 e1 e3 e4 e5 = rw (e3, e5)
    go false false false false false false e0 e1 e3 e4 e5 = rw (e3, e5)

ends_shown : (b : List ℕ) (i : ℕ) → ending (wait_of (task_shown b i).state) ≡ ends_at b i
unfolding task_shown ends_at
ends_shown b i = shown_ends _ _ _ _ _ _

-- ---- a release changes no other task

record Spared (t : ℕ) (b c : List ℕ) : Type 0 where
  size : length c ≡ state_words
  others : (j : ℕ) → j ≢ t → task_shown c j ≡ task_shown b j

released_spares : (t c w : ℕ) (b : List ℕ) → length b ≡ state_words → Spared t b (released t c w b)
unfolding released readied rotated
released_spares t c w b e = go (eqb (entry Layout.status b t) 3) (eqb (entry Layout.status b t) 5)
  where
    kept : ℕ → List ℕ
    kept s = Layout.put Layout.status t s (Layout.put Layout.ticks t 0 (Layout.put Layout.word t w (Layout.put Layout.code t c b)))

    away : (s : ℕ) → Touched t (out t) b (unqueued t (kept s))
    away s = touched_left (touched_put Layout.status s refl (touched_put Layout.ticks 0 refl (touched_put Layout.word w refl (touched_put Layout.code c refl (untouched e)))))

    -- it goes last in the ready queue of its priority, whichever that is
    last : (a : ℕ) → Spared t b (queued a t (unqueued t (kept 1)))
    last a =
        let T = away 1 in
        let R = queued_law (unqueued t (kept 1)) T.size a t in record { size = R.size; others = λ j ne. kept_shown R.only refl j ∙ T.others j ne }

    go : (x y : Bool) → Spared t b (cond x (readied t (Layout.put Layout.ticks t 0 (Layout.put Layout.word t w (Layout.put Layout.code t c b)))) (cond y (unqueued t (kept 4)) b))
    go true y = last _
    go false true = record { size = (away 4).size; others = (away 4).others }
    go false false = record { size = e; others = λ j ne. refl }

-- who is to be released at the start is so along the way
still_ends : {t : ℕ} {b c : List ℕ} → Spared t b c → (j : ℕ) → j ≢ t → ends_at c j ≡ ends_at b j
still_ends {t} {b} {c} S j ne = sym (ends_shown c j) ∙ ap (λ x. ending (wait_of x.state)) (S.others j ne) ∙ ends_shown b j

-- ---- the first pass

-- the words w and the number k, where those of the list l are released
abbrev Passed : List ℕ → ℕ → List ℕ → List ℕ → Type 0
Passed w k l b = (w ≡ performs (map timeout l) b) × (k ≡ length l)

module _ (p : ℕ → Bool) where
  pass : (n t : ℕ) (b : List ℕ) → length b ≡ state_words → ((j : ℕ) → t ≤ j → ends_at b j ≡ p j) → Passed (expired n t b) (expiries n t b) (keep p (from t n)) b
  unfolding expired expiries expired_at keep performs performed
  pass zero t b e h = (refl, refl)
  pass (suc n) t b e h = go (p t) (h t (omega arith)) (pass n (suc t))
    where
      rest : List ℕ
      rest = keep p (from (suc t) n)

      go : (x : Bool) → ends_at b t ≡ x → ((c : List ℕ) → length c ≡ state_words → ((j : ℕ) → suc t ≤ j → ends_at c j ≡ p j) → Passed (expired n (suc t) c) (expiries n (suc t) c) rest c)
          → Passed (expired n (suc t) (expired_at t b)) (once (ends_at b t) + expiries n (suc t) (expired_at t b)) (cond x (t ∷ rest) rest) b
      go true f ih =
          let S = released_spares t 1 0 b e in
          let r = ih (released t 1 0 b) S.size (λ j k. still_ends S j (λ q. omega arith) ∙ h j (omega arith)) in
          rw f (r.0, omega (arith, r.1))
      go false f ih = let r = ih b e (λ j k. h j (omega arith)) in rw f (r.0, omega (arith, r.1))

keep_from : (p q : ℕ → Bool) (k n : ℕ) → ((i : ℕ) → k ≤ i → i < k + n → p i ≡ q i) → keep p (from k n) ≡ keep q (from k n)
unfolding keep
keep_from p q k zero h = refl
keep_from p q k (suc n) h = λ z. cond (h k (omega arith) (omega arith) z) (k ∷ keep_from p q (suc k) n (λ i a b. h i (omega arith) (omega arith)) z) (keep_from p q (suc k) n (λ i a b. h i (omega arith) (omega arith)) z)

-- the ids that the rules name
endings_shown : (b m : List ℕ) → endings (body_shown b m) ≡ keep (ends_at b) (from 1 (entry Layout.system b 1))
unfolding body_shown ids
endings_shown b m =
    ap (λ (n : ℕ). keep (λ i. ending (wait_of (task (body_shown b m) i).state)) (from 1 n)) (length_ids (task_shown b) (entry Layout.system b 1))
    ∙ keep_from _ _ 1 (entry Layout.system b 1)
    (λ i k l. ap (λ x. ending (wait_of x.state)) (of_ids (task_shown b) (entry Layout.system b 1) i nobody (k, omega arith)) ∙ ends_shown b i)

-- ---- the tick

lapse_releases : (l : List ℕ) → releases (map timeout l ++ elapse ∷ []) ≡ length l
lapse_releases [] = refl
lapse_releases (x ∷ l) = rw (lapse_releases l) (omega arith)

-- how many alarms there are, by the counter's size
eight : (z : ℕ) → (z ≡ 0 → ⊥) → alarm_count z ≡ max_alarms
eight zero ne = absurd (ne refl)
eight (suc z) ne = refl

-- after the waits are the words a, after the clock c, after the counter d
module _ (b : List ℕ) {k : ℕ} {a c d : List ℕ} (ea : a ≡ aged_all (expired (tasks_at b) 1 b)) (ek : k ≡ expiries (tasks_at b) 1 b) (ec : c ≡ clocked a) (ed : d ≡ counted c) where
  module _ (m : List ℕ) (A : Accepted b m) where
    abbrev B : Body
    B = (view_shown b m).body

    -- the first pass performs the rules' releases
    passed : Passed (expired (tasks_at b) 1 b) k (endings B) b
    unfolding view_shown
    passed =
        rw (ek, le-leb (entry Layout.system b 1) 32 (few_tasks b m A), endings_shown b m)
        (pass (ends_at b) (entry Layout.system b 1) 1 b A.whole.size (λ j l. refl))

    lapsed : d ≡ performs (lapse B) b
    unfolding performs performed elapsed
    lapsed =
        ed ∙ ap counted (ec ∙ ap clocked ea) ∙ ap elapsed passed.0 ∙ sym (performs_append (map timeout (endings B)) (elapse ∷ []) b)

    -- the memory is accepted, and the alarms are read from it
    pub law : Accepted d m × ((view_shown d m).body ≡ afters (lapse B) B)
    law = rw lapsed (words_law (lapse B) b m A (lapse_steps B) (lapse_names B) (lapse_marks B m))

    count : length B.counter.alarms ≡ length (view_shown d m).body.counter.alarms
    count = sym (ap (λ (x : Body). length x.counter.alarms) law.1 ∙ (sizes_afters (lapse B) B).alarms)

    pub tick_does : {r : Outcome} {w : List ℕ} {t : ℕ} → Performs (rings (view_shown d m).body (length (view_shown d m).body.counter.alarms) 1) t d w → r ≡ outcome (pos 0) 0 0 (k + t) → Does (ticked (view_shown b m)) r b m w m
    unfolding ticked number
    tick_does {t = t} P e = rw (count, ← law.1) (record {
      says = e ∙ ap (λ (n : ℕ). outcome (pos 0) 0 0 n) (omega (arith, passed.1, lapse_releases (endings B), P.released, releases_append (lapse B) R));
      words = P.words ∙ ap (performs R) lapsed ∙ sym (performs_append (lapse B) R b);
      marks = sym (marks_append (lapse B) R m ∙ ap (performs_marks R) (lapse_marks B m) ∙ rings_marks _ 1 _ m);
    })
      where
        R : List Act
        R = rings (view_shown d m).body (length (view_shown d m).body.counter.alarms) 1

    -- the counter's size is what it was before its step
    size_kept : entry Layout.counter d Layout.counter_size ≡ entry Layout.counter c Layout.counter_size
    size_kept = rw ed (counted_words c (sym (counted_size c) ∙ ap length (sym ed) ∙ law.0.whole.size)).0

    pub alarms_left : {z : ℕ} → z ≡ entry Layout.counter c Layout.counter_size → length (view_shown d m).body.counter.alarms ≡ alarm_count z
    alarms_left ez = alarms_count d m ∙ ap alarm_count (size_kept ∙ sym ez)

-- no counter makes no step
no_step : (c : List ℕ) {z : ℕ} → z ≡ entry Layout.counter c Layout.counter_size → z ≡ 0 → c ≡ counted c
unfolding counted
no_step c ez y = rw (← ez, y)

module _ (b : List ℕ) {k : ℕ} {a c : List ℕ} (ea : a ≡ aged_all (expired (tasks_at b) 1 b)) (ek : k ≡ expiries (tasks_at b) 1 b) (ec : c ≡ clocked a) {z : ℕ} (ez : z ≡ entry Layout.counter c Layout.counter_size) {r : Outcome} where
  -- there is no counter
  pub tick_alone : z ≡ 0 → r ≡ outcome (pos 0) 0 0 k → DoesOnWords Anything ticked r b c
  unfolding rings performs
  tick_alone y e m A u =
      let q : length (view_shown c m).body.counter.alarms ≡ 0 = alarms_left b ea ek ec (no_step c ez y) m A ez ∙ ap alarm_count y in
      tick_does b ea ek ec (no_step c ez y) m A {t = 0} (rw q (record { words = refl; released = refl })) (e ∙ ap (λ (n : ℕ). outcome (pos 0) 0 0 n) (omega arith))

  pub tick_rings : (z ≡ 0 → ⊥) → {d : List ℕ} → d ≡ counted c → {t : ℕ} {w : List ℕ} → PerformsOnWords HasCounter (λ v. rings v.body max_alarms 1) t d w → r ≡ outcome (pos 0) 0 0 (k + t) → DoesOnWords Anything ticked r b w
  tick_rings ne {d} ed P e m A u =
      let q : length (view_shown d m).body.counter.alarms ≡ max_alarms = alarms_left b ea ek ec ed m A ez ∙ eight z ne in
      tick_does b ea ek ec ed m A (rw q (P m (law b ea ek ec ed m A).0 q)) e

-- ---- where the column of ticks shows that there is nothing to do

-- an entry written with what it holds
put_own : (x : Column) (i : ℕ) (b : List ℕ) → Layout.put x i (entry x b i) b ≡ b
unfolding col store
put_own x i b = go (ltb i x.width) refl
  where
    go : (t : Bool) → ltb i x.width ≡ t → cond t (set b (x.at + i) (get_or (take x.width (drop x.at b)) i 0)) b ≡ b
    go true e = ap (set b (x.at + i)) (get_or-take x.width (drop x.at b) i 0 (ltb-true _ _ e) ∙ get_or-drop x.at b i 0) ∙ set-get_or b (x.at + i) 0
    go false e = refl

either_none : (s t : Bool) → (s || t) ≡ false → (s ≡ false) × (t ≡ false)
either_none true t e = absurd (false≢true (sym e))
either_none false t e = (refl, e)

none_from : (p : ℕ → Bool) (n i : ℕ) → any_from p n i ≡ false → (j : ℕ) → i ≤ j → j < i + n → p j ≡ false
unfolding any_from
none_from p zero i e j h k = absurd (omega arith)
none_from p (suc n) i e j h k = elim (ℕ_discrete j i) [
  | yes q ↦ rw q (either_none (p i) (any_from p n (suc i)) e).0
  | no ne ↦ none_from p n (suc i) (either_none (p i) (any_from p n (suc i)) e).1 j (omega arith) (omega arith)
]

not_ended : (b : List ℕ) (i : ℕ) → has_one b i ≡ false → ends_at b i ≡ false
unfolding ends_at
not_ended b i e = rw (e, and-false)

-- nobody has his last tick
expired_none : (n i : ℕ) (b : List ℕ) → ((j : ℕ) → i ≤ j → j < i + n → has_one b j ≡ false) → (b ≡ expired n i b) × (0 ≡ expiries n i b)
unfolding expired expiries expired_at
expired_none zero i b h = (refl, refl)
expired_none (suc n) i b h = let r = expired_none n (suc i) b (λ j k l. h j (omega arith) (omega arith)) in rw (not_ended b i (h i (omega arith) (omega arith))) (r.0, omega (arith, r.1))

-- nothing is left to anybody
none_left : (b : List ℕ) (i : ℕ) → has_left b i ≡ false → entry Layout.ticks b i ≡ 0
none_left b i e = eqb-true _ _ (not-false _ e)

aged_same : (b : List ℕ) (i : ℕ) → has_left b i ≡ false → aged i b ≡ b
unfolding aged
aged_same b i e = let z = none_left b i e in ap (λ (v : ℕ). Layout.put Layout.ticks i v b) (ap pred z ∙ sym z) ∙ put_own Layout.ticks i b

aged_none : (n i : ℕ) (b : List ℕ) → ((j : ℕ) → i ≤ j → j < i + n → has_left b j ≡ false) → aged_from n i b ≡ b
unfolding aged_from
aged_none zero i b h = refl
aged_none (suc n) i b h = ap (aged_from n (suc i)) (aged_same b i (h i (omega arith) (omega arith))) ∙ aged_none n (suc i) b (λ j k l. h j (omega arith) (omega arith))

few_at : (s : ℕ) → at_most s max_tasks ≤ max_tasks
few_at s = go (leb s max_tasks) refl
  where
    go : (t : Bool) → leb s max_tasks ≡ t → cond t s 0 ≤ max_tasks
    go true e = leb-true _ _ e
    go false e = omega arith

module _ (b : List ℕ) where
  pub end_none : {y : Bool} (n : ℕ) → y ≡ any_from (has_one b) n 1 → y ≡ false → (b ≡ expired n 1 b) × (0 ≡ expiries n 1 b)
  end_none n e f = expired_none n 1 b (none_from (has_one b) n 1 (sym e ∙ f))

  pub pass_none : {y : Bool} → y ≡ any_from (has_left b) max_tasks 1 → y ≡ false → (b ≡ aged_all (expired (tasks_at b) 1 b)) × (0 ≡ expiries (tasks_at b) 1 b)
  unfolding aged_all
  pass_none e f =
      let left : (j : ℕ) → 1 ≤ j → j < 1 + tasks_at b → has_left b j ≡ false = λ j h k. none_from (has_left b) max_tasks 1 (sym e ∙ f) j h (omega (arith, few_at (entry Layout.system b Layout.tasks))) in
      let r = expired_none (tasks_at b) 1 b (λ j h k. rw (none_left b j (left j h k))) in
      (sym (aged_none (tasks_at b) 1 b left) ∙ ap aged_all r.0, r.1)

  pub pass_some : {s n : ℕ} → s ≡ entry Layout.system b Layout.tasks → n ≡ at_most s max_tasks → {b₁ b₂ : List ℕ} → b₁ ≡ expired n 1 b → b₂ ≡ aged_all b₁ → b₂ ≡ aged_all (expired (tasks_at b) 1 b)
  pass_some e f g h = h ∙ rw (g, f, e)

  pub pass_count : {s n r : ℕ} → s ≡ entry Layout.system b Layout.tasks → n ≡ at_most s max_tasks → r ≡ expiries n 1 b → r ≡ expiries (tasks_at b) 1 b
  pass_count e f g = g ∙ rw (f, e)

-- ---- a test of n numbers, in turn

module _ (p : ℕ → Bool) (n : ℕ) where
  any_step : (i : ℕ) → i ≤ n → any_from p (n + 1 - i) i ≡ (p i || any_from p (n + 1 - (i + 1)) (i + 1))
  unfolding any_from
  any_step i h = let e : n + 1 - i ≡ suc (n + 1 - (i + 1)) = omega arith in rw (e, add-one i)

  pub any_next : (i : ℕ) (y : Bool) {y' w : Bool} → i ≤ n → y' ≡ (y || p i) → (y || any_from p (n + 1 - i) i) ≡ w → (y' || any_from p (n + 1 - (i + 1)) (i + 1)) ≡ w
  any_next i y h e g = ap (λ (x : Bool). x || any_from p (n + 1 - (i + 1)) (i + 1)) e ∙ or_assoc y (p i) _ ∙ ap (λ (x : Bool). y || x) (sym (any_step i h)) ∙ g

  pub any_last : (i : ℕ) {y w : Bool} → n < i → (y || any_from p (n + 1 - i) i) ≡ w → y ≡ w
  unfolding any_from
  any_last i {y} h g = let e : n + 1 - i ≡ 0 = omega arith in sym (or-false y) ∙ ap (λ (k : ℕ). y || any_from p k i) (sym e) ∙ g

-- the bits of two numbers together are none where both have none
bits_left : (a x : ℕ) → not (eqb (bit_or a x) 0) ≡ (not (eqb a 0) || not (eqb x 0))
bits_left zero x = rw (or_zero_l x)
bits_left (suc a) x = rw (ne_eqb (bit_or (suc a) x) 0 (λ q. omega (arith, or_add_and (suc a) x, and_le_r (suc a) x)), ne_eqb (suc a) 0 (λ q. omega arith))

-- what is seen of task i, behind what was seen before
module _ (b : List ℕ) (i : ℕ) {x : ℕ} (e : x ≡ entry Layout.ticks b i) where
  pub left_next_lem : (a : ℕ) → not (eqb (bit_or a x) 0) ≡ (not (eqb a 0) || has_left b i)
  left_next_lem a = bits_left a x ∙ ap (λ (v : ℕ). not (eqb a 0) || not (eqb v 0)) e

  pub one_next : (y : Bool) → (y || eqb x 1) ≡ (y || has_one b i)
  one_next y = ap (λ (v : ℕ). y || eqb v 1) e

-- ---- the steps of the code

module _ (i : ℕ) (b : List ℕ) {s k t : ℕ} {y : Bool} (e : s ≡ entry Layout.status b i) (f : k ≡ entry Layout.kind b i) (g : t ≡ entry Layout.ticks b i) (h : y ≡ last_tick s k t) where
  ends_read : y ≡ ends_at b i
  unfolding ends_at
  ends_read = h ∙ rw (e, f, g)

  pub expire_yes : y ≡ true → {b₁ : List ℕ} → b₁ ≡ released i 1 0 b → (b₁ ≡ expired_at i b) × (1 ≡ once (ends_at b i))
  unfolding expired_at
  expire_yes z q = rw (sym ends_read ∙ z) (q, refl)

  pub expire_no : y ≡ false → (b ≡ expired_at i b) × (0 ≡ once (ends_at b i))
  unfolding expired_at
  expire_no z = rw (sym ends_read ∙ z) (refl, refl)

-- where k were released before, the words c and the count t are those of the n tasks from i on
abbrev pub Along : ℕ → ℕ → ℕ → List ℕ → List ℕ → ℕ → Type 0
Along k n i b c t = (expired n i b ≡ c) × (k + expiries n i b ≡ t)

module _ (k i : ℕ) (b : List ℕ) {c : List ℕ} {t : ℕ} where
  pub expire_none : (n : ℕ) → n ≤ 0 → Along k n i b c t → (b ≡ c) × (k ≡ t)
  unfolding expired expiries
  expire_none zero h a = (a.0, omega (arith, a.1))
  expire_none (suc n) h a = absurd (omega arith)

  pub expire_step : (n : ℕ) {m : ℕ} {b₁ : List ℕ} {r : ℕ} → n ≡ suc m → b₁ ≡ expired_at i b → r ≡ once (ends_at b i) → Along k n i b c t → Along (k + r) m (i + 1) b₁ c t
  unfolding expired expiries
  expire_step n {m} h e f a = let q : Along k (suc m) i b c t = rw h at a in rw (add-one, e, f) (q.0, omega (arith, q.1))
