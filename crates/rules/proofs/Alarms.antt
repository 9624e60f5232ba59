-- Alarms: what a firing does, which tick it comes at, and what calls 36 to 39 do. Of every state where nothing else is said.
use mathlib.Core.Bool.{Bool, true, false, cond, ◌&&◌, false≢true}
use mathlib.Core.List.{List, [], ◌∷◌, ◌++◌, map, append-nil, append_assoc}
use mathlib.Core.Logic.{◌⊎◌, inl, inr, ◌≢◌}
use mathlib.Core.Option.{Option, none, some}
use mathlib.Core.Path.{◌≡◌, refl, sym, ap, ◌∙◌, subst}
use Prim.Native.Nat.{ℕ, zero, suc, pred, ◌+◌, ◌-◌, ◌%◌, ◌≤◌, ◌<◌}
use native.Mathlib.Decide.{dec_lt}
use native.Mathlib.Nat.{add-mod_right, mod-eq_of_lt, mod-eq-sub-mod}
use native.Mathlib.Omega.{arith}
use lib.Dec.{eqb, leb}
use lib.IntN.{ℤ, pos, nat_abs}
use lib.ListN.{length}
use borrow.Author.Tests.{le-leb, leb-true, leb-false, eqb-true, eqb-false, eq-eqb, ne_eqb}
use Rattle.rules.specs.Ids.{from, ids, In, once, times}
use Rattle.rules.specs.Codes.{Code, OK, E-TMOUT, H-PAR, H-USED, H-IDLE, number}
use Rattle.rules.specs.State.{flag, Wait, asleep, timed, on, State, dormant, ready, suspended, absent, waiting, waiting_suspended, Task, Handlers, is_open, Setting, unset, due, in_use, Alarm, no_alarm, Counter, alarm_of, alarm_count, Body, task, nobody, wait_of, wish, is_dormant, is_absent, is_waiting, is_freed, sleeps}
use Rattle.rules.specs.Places.{waiters}
use Rattle.rules.specs.Events.{Event, tick, enter, exit, call, Words, AllWords, nat, outside}
use Rattle.rules.specs.Acts.{Act, wait, release, wakeups, mark, elapse, nest, alarm, with_state, with_cell, freed, released_task, with_setting, count_after, stepped, change_alarm, after, afters}
use Rattle.rules.specs.View.{View, line}
use Rattle.rules.specs.Verdicts.{Verdict, refuse, gives, done, check, choose}
use Rattle.rules.specs.Tasks.{starting, sta_tsk, waking, wup_tsk}
use Rattle.rules.specs.Objects.{met, left, serve_flag}
use Rattle.rules.specs.Alarms.{fires, count_from, again, fired, firing, rings, alarm_at, set_alm, set_abs, set_rel, can_alm, alm_sts}
use Rattle.rules.specs.Time.{ending, endings, timeout, lapse, ticked}
use Rattle.rules.specs.Handling.{entered, exited}
use Rattle.rules.specs.Rows.{alarm_number, sta_tsk_row, wup_tsk_row, set_abs_row, set_rel_row, can_alm_row, alm_sts_row}
use Rattle.rules.specs.Table.{refusals, judged, table, looked_up, numbered, called, judge}
use Rattle.rules.specs.Sound.{SettingFits, Sound}
use Rattle.rules.specs.Blocks.{is}
use Rattle.rules.specs.Kernel.{next, event}
use Rattle.rules.specs.Runs.{states}
use Rattle.rules.proofs.Ids.{of_put_other, of_put_same, tested}
use Rattle.rules.proofs.States.{waits_by, freed_tells}
use Rattle.rules.proofs.Sizes.{sizes_after, sizes_afters}
use Rattle.rules.proofs.Waiters.{counted}
use Rattle.rules.proofs.Calls.{ends_come, fires_there, sound_next}
use Rattle.rules.proofs.Events.{event_next}
use Rattle.rules.proofs.Judge.{checked_acts, OnActs, on_acts, acts_check, acts_choose}
use Rattle.rules.proofs.Ways.{Finds, simple, rouses, breaks, serves, sets, Way, refused, looked, acted, waited, walked, granted, freed as block-freed, handed, call_way}
use Rattle.rules.proofs.Refusals.{word_decides}
use Rattle.rules.proofs.Firings.{afters_append}
use Rattle.rules.proofs.Cells.{change_each, map_each, body_acts, simple_leaves, Mild, untouched, let_go, list_mild, lapse_list as gentle-lapse}

-- ---- A firing starts or wakes its task as a handler would: the verdict of the handler's call on that task.

-- 1 sta_tsk, 11 wup_tsk
abbrev pub call_of : Bool → ℕ
call_of true = 11
call_of false = 1

-- a number from 1 to n is not outside
inside_by : (i n : ℕ) → In i n → outside (pos i) n ≡ false
inside_by i n r = rw (le-leb 1 i r.0, le-leb i n r.1)

module _ (v : View) (x : Alarm) (b c : ℤ) (r : In x.task (length v.body.tasks)) where
  pub fires_as_handler : fired v.body x ≡ numbered v true 0 (call_of x.wakes) (pos x.task) b c
  unfolding check choose fired numbered looked_up table judged refusals sta_tsk_row wup_tsk_row sta_tsk wup_tsk
  fires_as_handler = go x.wakes refl
    where
      go : (t : Bool) → x.wakes ≡ t → fired v.body x ≡ numbered v true 0 (call_of t) (pos x.task) b c
      go true e = rw (e, inside_by x.task _ r, ne_eqb x.task 0 (λ d. omega (arith, r.0)))
      go false e = rw (e, inside_by x.task _ r)

  -- so it is while a handler is open
  pub fires_as_open_handler : is_open v.body.handlers ≡ true → fired v.body x ≡ judge v (call (pos 1) (pos (call_of x.wakes)) (pos x.task) b c)
  unfolding judge called
  fires_as_open_handler o = fires_as_handler ∙ rw o

-- ---- What a firing does to the counter: its own alarm has another kept code and setting, and nothing else changes.

module _ (b : Body) (x : Alarm) where
  -- what starts or wakes the task leaves the counter
  fired_leaves : OnActs (λ l. (afters l b).counter ≡ b.counter) (fired b x)
  unfolding fired starting waking afters after
  fired_leaves =
      acts_check _ refl (λ n. acts_choose
      (λ w. acts_check _ refl (λ d. acts_choose (λ s. on_acts refl) (λ s. acts_check _ refl (λ m. on_acts refl))))
      (λ w. acts_check _ refl (λ d. on_acts refl)))

  fired_counter : (afters (fired b x).acts b).counter ≡ b.counter
  fired_counter = elim fired_leaves [ on_acts h ↦ h ]

module _ (b : Body) (k : ℕ) where
  abbrev fire : List Act
  fire = firing b k (alarm_of b.counter k)

  -- alarm k is due at the present count
  abbrev rung : Bool
  rung = fires b.counter (alarm_of b.counter k).setting

  firing_counter : (afters fire b).counter ≡ change_alarm k (fired b (alarm_of b.counter k)).code (again b.counter (alarm_of b.counter k).setting) b.counter
  unfolding afters after
  firing_counter =
      ap (λ (c : Body). c.counter) (afters_append (fired b (alarm_of b.counter k)).acts _ b)
      ∙ ap (change_alarm k (fired b (alarm_of b.counter k)).code (again b.counter (alarm_of b.counter k).setting)) (fired_counter b (alarm_of b.counter k))

  firing_other : (j : ℕ) → k ≢ j → alarm_of (afters fire b).counter j ≡ alarm_of b.counter j
  firing_other j n = ap (λ (c : Counter). alarm_of c j) firing_counter ∙ of_put_other b.counter.alarms k j _ no_alarm (ne_eqb k j n)

  firing_same : rung ≡ true
      → alarm_of (afters fire b).counter k ≡ with_setting (fired b (alarm_of b.counter k)).code (again b.counter (alarm_of b.counter k).setting) (alarm_of b.counter k)
  firing_same e =
      ap (λ (c : Counter). alarm_of c k) firing_counter ∙ of_put_same b.counter.alarms k _ no_alarm (fires_there b.counter k e)

  -- one step of the alarms of a tick
  rings_cases : (P : List Act → Type 0) (n : ℕ) → (rung ≡ true → P (fire ++ rings (afters fire b) n (suc k))) → (rung ≡ false → P (rings b n (suc k))) → P (rings b (suc n) k)
  unfolding rings
  rings_cases P n f g = go rung refl
    where
      go : (t : Bool) → rung ≡ t → P (cond t (fire ++ rings (afters fire b) n (suc k)) (rings b n (suc k)))
      go true e = f e
      go false e = g e

-- the same count and m
abbrev SameCount : Counter → Counter → Type 0
SameCount c d = (d.now ≡ c.now) × (d.size ≡ c.size)

fires_by : (c d : Counter) (s : Setting) → SameCount c d → fires d s ≡ fires c s
fires_by c d unset e = refl
fires_by c d (due n p) e = ap (eqb n) e.0

again_by : (c d : Counter) (s : Setting) → SameCount c d → again d s ≡ again c s
again_by c d unset e = refl
again_by c d (due n zero) e = refl
again_by c d (due n (suc p)) e = λ z. due ((e.0 z + suc p) % e.1 z) (suc p)

firing_count : (b : Body) (k : ℕ) → SameCount b.counter (afters (fire b k) b).counter
firing_count b k = (ap (λ (c : Counter). c.now) (firing_counter b k), ap (λ (c : Counter). c.size) (firing_counter b k))

rings_count : (n k : ℕ) (b : Body) → SameCount b.counter (afters (rings b n k) b).counter
unfolding afters
rings_count zero k b = unfold rings in (refl, refl)
rings_count (suc n) k b =
    rings_cases b k (λ l. SameCount b.counter (afters l b).counter) n
    (λ e. rw (afters_append (fire b k) (rings (afters (fire b k) b) n (suc k)) b)
    (let f = firing_count b k in let g = rings_count n (suc k) (afters (fire b k) b) in (g.0 ∙ f.0, g.1 ∙ f.1)))
    (λ e. rings_count n (suc k) b)

-- no other alarm changes
rings_other : (n k : ℕ) (b : Body) (j : ℕ) → (j < k) ⊎ (k + n ≤ j) → alarm_of (afters (rings b n k) b).counter j ≡ alarm_of b.counter j
unfolding afters
rings_other zero k b j o = unfold rings in refl
rings_other (suc n) k b j o =
    rings_cases b k (λ l. alarm_of (afters l b).counter j ≡ alarm_of b.counter j) n
    (λ e. rw (afters_append (fire b k) (rings (afters (fire b k) b) n (suc k)) b) (rings_other n (suc k) (afters (fire b k) b) j later ∙ firing_other b k j apart))
    (λ e. rings_other n (suc k) b j later)
  where
    later : (j < suc k) ⊎ (suc k + n ≤ j)
    later = elim o [ inl l ↦ inl (omega (arith, l)) | inr l ↦ inr (omega (arith, l)) ]

    apart : k ≢ j
    apart e = elim o [ inl l ↦ omega (arith, l, e) | inr l ↦ omega (arith, l, e) ]

-- those from j on fire on what those before j left
rings_split : (i n t k j : ℕ) (b : Body) → t ≡ i + n → j ≡ k + i → rings b t k ≡ rings b i k ++ rings (afters (rings b i k) b) n j
unfolding rings afters
rings_split zero n t k j b p q = let e : t ≡ n = omega arith in let f : j ≡ k = omega arith in rw (e, f)
rings_split (suc i) n zero k j b p q = absurd (omega arith)
rings_split (suc i) n (suc t) k j b p q =
    go (rung b k) (rings_split i n t (suc k) j (afters (fire b k) b) (omega arith) (omega arith)) (rings_split i n t (suc k) j b (omega arith) (omega arith))
  where
    c : Body
    c = afters (fire b k) b

    go : (s : Bool) → rings c t (suc k) ≡ rings c i (suc k) ++ rings (afters (rings c i (suc k)) c) n j → rings b t (suc k) ≡ rings b i (suc k) ++ rings (afters (rings b i (suc k)) b) n j
        → cond s (fire b k ++ rings c t (suc k)) (rings b t (suc k))
        ≡ cond s (fire b k ++ rings c i (suc k)) (rings b i (suc k)) ++ rings (afters (cond s (fire b k ++ rings c i (suc k)) (rings b i (suc k))) b) n j
    go true g h = rw (afters_append (fire b k) (rings c i (suc k)) b, append_assoc (fire b k) (rings c i (suc k)) (rings (afters (rings c i (suc k)) c) n j)) (ap (λ (l : List Act). fire b k ++ l) g)
    go false g h = h

-- ---- A tick: the counter goes one step, to m - 1 and round; timeouts come first, then alarms by number, and those fire that are due at the new count.

lapse_list : (l : List ℕ) (b : Body) → (afters (map timeout l ++ elapse ∷ []) b).counter ≡ stepped b.counter
unfolding afters after
lapse_list [] b = refl
lapse_list (i ∷ l) b = lapse_list l (after (timeout i) b)

lapse_counter : (b : Body) → (afters (lapse b) b).counter ≡ stepped b.counter
lapse_counter b = lapse_list (endings b) b

module _ (v : View) where
  abbrev old : Counter
  old = v.body.counter

  -- after the timeouts
  abbrev lapsed : Body
  lapsed = afters (lapse v.body) v.body

  abbrev pub after_tick : Body
  after_tick = (next v tick).body

  -- what the timeouts and the alarms before number k leave
  abbrev pub when_due : ℕ → Body
  when_due k = afters (rings lapsed (pred k) 1) lapsed

  tick_body : after_tick ≡ afters (rings lapsed (length old.alarms) 1) lapsed
  unfolding next judge ticked
  tick_body = body_acts (judge v tick).acts v ∙ afters_append (lapse v.body) _ v.body

  -- one step, and m stays
  pub tick_counts : (after_tick.counter.now ≡ count_after old.size old.now) × (after_tick.counter.size ≡ old.size)
  tick_counts = rw tick_body (let r = rings_count (length old.alarms) 1 lapsed in (r.0 ∙ ap (λ (c : Counter). c.now) (lapse_counter v.body), r.1 ∙ ap (λ (c : Counter). c.size) (lapse_counter v.body)))

  module _ (k : ℕ) (r : In k (length old.alarms)) where
    abbrev seen : Alarm
    seen = alarm_of old k

    lapsed_alarm : alarm_of lapsed.counter k ≡ seen
    lapsed_alarm = ap (λ (c : Counter). alarm_of c k) (lapse_counter v.body)

    due_alarm : alarm_of (when_due k).counter k ≡ seen
    due_alarm = rings_other (pred k) 1 lapsed k (inr (omega (arith, r.0))) ∙ lapsed_alarm

    due_count : SameCount (stepped old) (when_due k).counter
    due_count =
        let g = rings_count (pred k) 1 lapsed in
        (g.0 ∙ ap (λ (c : Counter). c.now) (lapse_counter v.body), g.1 ∙ ap (λ (c : Counter). c.size) (lapse_counter v.body))

    -- those from number k on
    abbrev onward : ℕ
    onward = length old.alarms - k

    tick_split : (judge v tick).acts ≡ lapse v.body ++ (rings lapsed (pred k) 1 ++ rings (when_due k) (suc onward) k)
    unfolding judge ticked
    tick_split = ap (λ (l : List Act). lapse v.body ++ l) (rings_split (pred k) (suc onward) (length old.alarms) 1 k lapsed (omega (arith, r.0, r.1)) (omega (arith, r.0)))

    tick_onward : after_tick ≡ afters (rings (when_due k) (suc onward) k) (when_due k)
    unfolding next
    tick_onward = body_acts (judge v tick).acts v ∙ ap (λ (l : List Act). afters l v.body) tick_split ∙ afters_append (lapse v.body) _ v.body ∙ afters_append (rings lapsed (pred k) 1) _ lapsed

    due_fires : rung (when_due k) k ≡ fires (stepped old) seen.setting
    due_fires = ap (λ (y : Alarm). fires (when_due k).counter y.setting) due_alarm ∙ fires_by (stepped old) (when_due k).counter seen.setting due_count

    -- what is put there
    abbrev kept_anew : Alarm
    kept_anew = with_setting (fired (when_due k) seen).code (again (stepped old) seen.setting) seen

    anew : with_setting (fired (when_due k) (alarm_of (when_due k).counter k)).code (again (when_due k).counter (alarm_of (when_due k).counter k).setting) (alarm_of (when_due k).counter k) ≡ kept_anew
    anew =
        ap (λ (y : Alarm). with_setting (fired (when_due k) y).code (again (when_due k).counter y.setting) y) due_alarm
        ∙ ap (λ (s : Setting). with_setting (fired (when_due k) seen).code s seen) (again_by (stepped old) (when_due k).counter seen.setting due_count)

    -- an alarm that is due keeps the code of what it did, and goes idle or is set again
    pub tick_fires : fires (stepped old) seen.setting ≡ true → alarm_of after_tick.counter k ≡ kept_anew
    tick_fires f =
        ap (λ (b : Body). alarm_of b.counter k) tick_onward
        ∙ rings_cases (when_due k) k (λ l. alarm_of (afters l (when_due k)).counter k ≡ kept_anew) onward
        (λ e. rw (afters_append (fire (when_due k) k) (rings (afters (fire (when_due k) k) (when_due k)) onward (suc k)) (when_due k))
        (rings_other onward (suc k) (afters (fire (when_due k) k) (when_due k)) k (inl (omega arith)) ∙ firing_same (when_due k) k e ∙ anew))
        (λ e. absurd (false≢true (sym e ∙ due_fires ∙ f)))

    -- any other stays as it is, and an idle one is never due
    pub tick_silent : fires (stepped old) seen.setting ≡ false → alarm_of after_tick.counter k ≡ seen
    tick_silent f =
        ap (λ (b : Body). alarm_of b.counter k) tick_onward
        ∙ rings_cases (when_due k) k (λ l. alarm_of (afters l (when_due k)).counter k ≡ alarm_of (when_due k).counter k) onward
        (λ e. absurd (false≢true (sym f ∙ sym due_fires ∙ e)))
        (λ e. rings_other onward (suc k) (when_due k) k (inl (omega arith)))
        ∙ due_alarm

    pub idle_silent : seen.setting ≡ unset → alarm_of after_tick.counter k ≡ seen
    idle_silent e = tick_silent (ap (fires (stepped old)) e)

    -- what it did stands among the tick's acts, behind the timeouts and the alarms before it
    pub tick_does : fires (stepped old) seen.setting ≡ true
        → (rest : List Act) × ((judge v tick).acts ≡ lapse v.body ++ (rings lapsed (pred k) 1 ++ (((fired (when_due k) seen).acts ++ alarm k (fired (when_due k) seen).code (again (stepped old) seen.setting) ∷ []) ++ rest)))
    tick_does f =
        let l = rings (afters (fire (when_due k) k) (when_due k)) onward (suc k) in
        let e : rings (when_due k) (suc onward) k ≡ fire (when_due k) k ++ l = rings_cases (when_due k) k (λ m. m ≡ fire (when_due k) k ++ l) onward (λ e. refl) (λ e. absurd (false≢true (sym e ∙ due_fires ∙ f))) in
        (l, tick_split ∙ ap (λ (m : List Act). lapse v.body ++ (rings lapsed (pred k) 1 ++ m)) (e ∙ ap (λ (m : List Act). m ++ l) fire_anew))
      where
        fire_anew : fire (when_due k) k ≡ (fired (when_due k) seen).acts ++ alarm k (fired (when_due k) seen).code (again (stepped old) seen.setting) ∷ []
        fire_anew =
            ap (λ (y : Alarm). firing (when_due k) k y) due_alarm
            ∙ ap (λ (s : Setting). (fired (when_due k) seen).acts ++ alarm k (fired (when_due k) seen).code s ∷ []) (again_by (stepped old) (when_due k).counter seen.setting due_count)

  -- ---- What each alarm does at a tick: nothing unless it is due; else its firing, on what the timeouts and the alarms before it left.

  -- the tick brings the counter to the expiry of alarm k
  abbrev pub is_due : ℕ → Bool
  is_due k = fires (stepped old) (alarm_of old k).setting

  abbrev pub share : ℕ → List Act
  share k = cond (is_due k) (firing (when_due k) k (alarm_of old k)) []

  abbrev pub shares : List ℕ → List Act
  shares [] = []
  shares (k ∷ l) = share k ++ shares l

  pub share_none : (k : ℕ) → is_due k ≡ false → share k ≡ []
  share_none k e = rw e

  pub share_firing : (k : ℕ) → is_due k ≡ true → share k ≡ firing (when_due k) k (alarm_of old k)
  share_firing k e = rw e

  module _ (k : ℕ) (r : In k (length old.alarms)) where
    share_alone : rings (when_due k) 1 k ≡ share k
    unfolding rings
    share_alone = rw (due_fires k r) (go (is_due k))
      where
        go : (t : Bool) → cond t (fire (when_due k) k ++ []) [] ≡ cond t (firing (when_due k) k (alarm_of old k)) []
        go true = append-nil (fire (when_due k) k) ∙ ap (firing (when_due k) k) (due_alarm k r)
        go false = refl

    -- what the first one finds is what the timeouts left (`when_due` of 1), and what each leaves the next one finds
    pub due_next : when_due (suc k) ≡ afters (share k) (when_due k)
    due_next =
        ap (λ (l : List Act). afters l lapsed) (rings_split (pred k) 1 k 1 k lapsed (omega (arith, r.0)) (omega (arith, r.0)))
        ∙ afters_append (rings lapsed (pred k) 1) (rings (when_due k) 1 k) lapsed ∙ ap (λ (l : List Act). afters l (when_due k)) share_alone

    share_first : (n : ℕ) → rings (when_due k) (suc n) k ≡ share k ++ rings (when_due (suc k)) n (suc k)
    share_first n =
        rings_split 1 n (suc n) k (suc k) (when_due k) (omega arith) (omega arith)
        ∙ ap (λ (l : List Act). l ++ rings (afters l (when_due k)) n (suc k)) share_alone ∙ ap (λ (b : Body). share k ++ rings b n (suc k)) (sym due_next)

  shares_from : (n k : ℕ) → k + n ≡ suc (length old.alarms) → 1 ≤ k → rings (when_due k) n k ≡ shares (from k n)
  shares_from zero k e l = unfold rings in refl
  shares_from (suc n) k e l = share_first k (l, omega (arith, e)) n ∙ ap (λ (m : List Act). share k ++ m) (shares_from n (suc k) (omega (arith, e)) (omega arith))

  -- the acts of a tick: the timeouts, then the alarms by number
  pub tick_by_number : (judge v tick).acts ≡ lapse v.body ++ shares (ids (length old.alarms))
  unfolding judge ticked rings afters ids
  tick_by_number = ap (λ (l : List Act). lapse v.body ++ l) (shares_from (length old.alarms) 1 (omega arith) (omega arith))

-- ---- So a task timed out in the tick of the alarm that is to wake it is awake by then, and the wake-up is stored.

freed_awake : (s : State) → is_freed s ≡ true → (is_absent s ≡ false) × (is_dormant s ≡ false) × (sleeps (wait_of s) ≡ false)
freed_awake dormant e = absurd (false≢true e)
freed_awake absent e = absurd (false≢true e)
freed_awake ready e = (refl, refl, refl)
freed_awake suspended e = (refl, refl, refl)
freed_awake (waiting w) e = absurd (false≢true e)
freed_awake (waiting_suspended w) e = absurd (false≢true e)

ending_sleeps : (w : Option Wait) → ending w ≡ true → sleeps w ≡ true
ending_sleeps none e = absurd (false≢true e)
ending_sleeps (some asleep) e = absurd (false≢true e)
ending_sleeps (some (timed t)) e = refl
ending_sleeps (some (on k o p m)) e = absurd (false≢true e)

mild_freed : {t u : Task} → Mild t u → is_freed t.state ≡ true → is_freed u.state ≡ true
mild_freed (untouched a b c d) e = c ∙ e
mild_freed (let_go a b) e = b

-- whoever waits and is among those released is awake at the end
timed_out_awake : (l : List ℕ) (b : Body) (i : ℕ) → times i l ≢ 0 → In i (length b.tasks) → is_waiting (task b i).state ≡ true → is_freed (task (afters (map timeout l ++ elapse ∷ []) b) i).state ≡ true
unfolding times afters
timed_out_awake [] b i z r w = absurd (z refl)
timed_out_awake (j ∷ l) b i z r w = go (eqb j i) refl (timed_out_awake l (after (timeout j) b) i)
  where
    c : Body
    c = after (timeout j) b

    self : eqb j i ≡ true → task c i ≡ released_task E-TMOUT 0 (task b i)
    self e = unfold after in rw (eqb-true j i e) (of_put_same b.tasks i (released_task E-TMOUT 0 (task b i)) nobody r)

    other : eqb j i ≡ false → task c i ≡ task b i
    other e = unfold after in of_put_other b.tasks j i _ nobody e

    go : (t : Bool) → eqb j i ≡ t
        → (times i l ≢ 0 → In i (length c.tasks) → is_waiting (task c i).state ≡ true → is_freed (task (afters (map timeout l ++ elapse ∷ []) c) i).state ≡ true)
        → is_freed (task (afters (map timeout l ++ elapse ∷ []) c) i).state ≡ true
    go true e h = mild_freed (list_mild (map timeout l ++ elapse ∷ []) c (gentle-lapse l c) i) (ap (λ (t : Task). is_freed t.state) (self e) ∙ rw w (freed_tells (task b i).state w).1)
    go false e h =
        h (λ y. z (rw e (omega arith))) (subst (In i) (sym (sizes_after (timeout j) b).tasks) r) (ap (λ (t : Task). is_waiting t.state) (other e) ∙ w)

-- and has as many wake-ups as before
same_wakeups : (l : List ℕ) (b : Body) (i : ℕ) → (task (afters (map timeout l ++ elapse ∷ []) b) i).wakeups ≡ (task b i).wakeups
unfolding afters after
same_wakeups [] b i = map_each (λ t u. u.wakeups ≡ t.wakeups) (λ t. refl) _ (λ t. refl) b.tasks i nobody
same_wakeups (j ∷ l) b i = same_wakeups l (after (timeout j) b) i ∙ change_each (λ t u. u.wakeups ≡ t.wakeups) (λ t. refl) (released_task E-TMOUT 0) j b (λ t e. go t (is_waiting t.state)) i
  where
    go : (t : Task) (w : Bool) → (cond w (with_cell (record { code = E-TMOUT; word = 0 }) (with_state (freed t.state) t)) t).wakeups ≡ t.wakeups
    go t true = refl
    go t false = refl

pub timed_out_stores : (v : View) → Sound v → (x : Alarm) → x.wakes ≡ true → ending (wait_of (task v.body x.task).state) ≡ true
    → fired (afters (lapse v.body) v.body) x ≡ done (wakeups x.task 1 ∷ [])
unfolding fired waking check choose
timed_out_stores v s x w e = rw (awake.0, w, awake.1, awake.2, none_stored)
  where
    i : ℕ
    i = x.task

    there : In i (length v.body.tasks)
    there = tested (λ t. ending (wait_of t.state)) v.body.tasks i nobody refl e

    awake : (is_absent (task (afters (lapse v.body) v.body) i).state ≡ false) × (is_dormant (task (afters (lapse v.body) v.body) i).state ≡ false) × (sleeps (wait_of (task (afters (lapse v.body) v.body) i).state) ≡ false)
    awake = freed_awake (task (afters (lapse v.body) v.body) i).state (timed_out_awake (endings v.body) v.body i (ends_come v.body i e) there (waits_by ending refl (task v.body i).state e))

    none_stored : (task (afters (lapse v.body) v.body) i).wakeups ≡ 0
    none_stored = same_wakeups (endings v.body) v.body i ∙ (s.body.tasks i there).sleeper (ending_sleeps (wait_of (task v.body i).state) e)

-- ---- The calls: an idle alarm is set and one in use is cancelled; no other.

module _ (v : View) (a b c : ℤ) where
  pub idle_set_absolute : in_use (alarm_at v a).setting ≡ false → set_abs v a b c ≡ done (alarm (nat a) (alarm_at v a).kept (due (nat b % v.body.counter.size) (nat c)) ∷ [])
  unfolding set_abs set_alm check
  idle_set_absolute e = rw e

  pub idle_set_relative : in_use (alarm_at v a).setting ≡ false
      → set_rel v a b c ≡ done (alarm (nat a) (alarm_at v a).kept (due ((v.body.counter.now + nat b) % v.body.counter.size) (nat c)) ∷ [])
  unfolding set_rel set_alm check
  idle_set_relative e = rw e

  pub used_not_set : in_use (alarm_at v a).setting ≡ true → (set_abs v a b c ≡ refuse H-USED) × (set_rel v a b c ≡ refuse H-USED)
  unfolding set_abs set_rel set_alm check
  used_not_set e = (rw e, rw e)

  pub used_cancelled : in_use (alarm_at v a).setting ≡ true → can_alm v a ≡ done (alarm (nat a) (alarm_at v a).kept unset ∷ [])
  unfolding can_alm check
  used_cancelled e = rw e

  pub idle_not_cancelled : in_use (alarm_at v a).setting ≡ false → can_alm v a ≡ refuse H-IDLE
  unfolding can_alm check
  idle_not_cancelled e = rw e

  -- in use or not, and the kept code without the sign
  pub alarm_shown_lem : alm_sts v a ≡ gives (once (in_use (alarm_at v a).setting)) (nat_abs (number (alarm_at v a).kept)) []
  unfolding alm_sts
  alarm_shown_lem = refl

  -- H_PAR for an alarm that there is not, whatever else applies
  pub no_such_alarm : (h : Bool) (me : ℕ) → outside a (length v.body.counter.alarms) ≡ true
      → (judged v h me (set_abs_row v a b c) ≡ refuse H-PAR) × (judged v h me (set_rel_row v a b c) ≡ refuse H-PAR) × (judged v h me (can_alm_row v a) ≡ refuse H-PAR) × (judged v h me (alm_sts_row v a) ≡ refuse H-PAR)
  unfolding set_abs_row set_rel_row can_alm_row alm_sts_row
  no_such_alarm h me o = (
    word_decides v h me (set_abs_row v a b c) (alarm_number v a) _ refl o,
    word_decides v h me (set_rel_row v a b c) (alarm_number v a) _ refl o,
    word_decides v h me (can_alm_row v a) (alarm_number v a) _ refl o,
    word_decides v h me (alm_sts_row v a) (alarm_number v a) _ refl o,
  )

-- an act on an alarm gives it that code and that setting, and changes no other and nothing else
module _ (b : Body) (k : ℕ) (c : Code) (s : Setting) where
  pub alarm_put : In k (length b.counter.alarms) → alarm_of (after (alarm k c s) b).counter k ≡ with_setting c s (alarm_of b.counter k)
  unfolding after
  alarm_put r = of_put_same b.counter.alarms k _ no_alarm r

  pub alarm_other : (j : ℕ) → k ≢ j → alarm_of (after (alarm k c s) b).counter j ≡ alarm_of b.counter j
  unfolding after
  alarm_other j n = of_put_other b.counter.alarms k j _ no_alarm (ne_eqb k j n)

  pub alarm_only : ((after (alarm k c s) b).tasks ≡ b.tasks) × ((after (alarm k c s) b).store ≡ b.store) × ((after (alarm k c s) b).handlers ≡ b.handlers) × SameCount b.counter (after (alarm k c s) b).counter
  unfolding after
  alarm_only = (refl, refl, refl, (refl, refl))

-- ---- The count stays below m, and there are eight alarms just if there is a counter: it is part of what every run keeps.

module _ (v : View) (s : Sound v) where
  pub counter_below : 0 < v.body.counter.size → v.body.counter.now < v.body.counter.size
  counter_below l = elim s.body.counter.now [ inl e ↦ omega (arith, e, l) | inr e ↦ e ]

  pub eight_alarms : (0 < v.body.counter.size → length v.body.counter.alarms ≡ 8) × (v.body.counter.size ≡ 0 → length v.body.counter.alarms ≡ 0)
  eight_alarms = (λ l. s.body.counter.count ∙ go v.body.counter.size l, λ e. s.body.counter.count ∙ ap alarm_count e)
    where
      go : (m : ℕ) → 0 < m → alarm_count m ≡ 8
      go zero l = absurd (omega arith)
      go (suc m) l = refl

-- ---- An alarm fires at the first later tick that reaches its expiry, a full round later if that is the present count.

-- d ticks on from n the counter of m is at e; d is at most a round
abbrev Reaches : ℕ → ℕ → ℕ → ℕ → Type 0
Reaches m n d e = In d m × ((n + d ≡ e) ⊎ (n + d ≡ e + m))

reaches_by : (m n d e : ℕ) → n < m → In d m → (n + d) % m ≡ e → Reaches m n d e
reaches_by m n d e l r k = (
  r,
  elim (dec_lt (n + d) m) [
    | yes h ↦ inl (sym (mod-eq_of_lt h) ∙ k)
    | no h ↦ inr (let f : n + d - m ≡ e = sym (mod-eq_of_lt (omega (arith, r.1))) ∙ sym (mod-eq-sub-mod (omega (arith, h))) ∙ k in omega (arith, f, h))
  ],
)

-- one tick
reached : (m n e : ℕ) → n < m → e < m → Reaches m n 1 e → e ≡ count_after m n
reached m n e l k h = go (leb m (suc n)) refl h.1
  where
    go : (t : Bool) → leb m (suc n) ≡ t → (n + 1 ≡ e) ⊎ (n + 1 ≡ e + m) → e ≡ cond t 0 (suc n)
    go true p (inl q) = omega (arith, leb-true m (suc n) p)
    go true p (inr q) = omega (arith, leb-true m (suc n) p)
    go false p (inl q) = omega arith
    go false p (inr q) = omega (arith, leb-false m (suc n) p)

not_reached : (m n g e : ℕ) → n < m → e < m → Reaches m n (suc (suc g)) e → (e ≢ count_after m n) × Reaches m (count_after m n) (suc g) e
not_reached m n g e l k h = go (leb m (suc n)) refl h.1
  where
    go : (t : Bool) → leb m (suc n) ≡ t → (n + suc (suc g) ≡ e) ⊎ (n + suc (suc g) ≡ e + m) → (e ≢ cond t 0 (suc n)) × Reaches m (cond t 0 (suc n)) (suc g) e
    go true p (inl q) = absurd (omega (arith, leb-true m (suc n) p))
    go true p (inr q) = (λ z. omega (arith, z, leb-true m (suc n) p), ((omega arith, omega (arith, h.0.1)), inl (omega (arith, leb-true m (suc n) p))))
    go false p (inl q) = (λ z. omega (arith, z), ((omega arith, omega (arith, h.0.1)), inl (omega arith)))
    go false p (inr q) = (λ z. omega (arith, z, h.0.1), ((omega arith, omega (arith, h.0.1)), inr (omega arith)))

-- nor does the walk of set_flg change it
flag_counter : (b : Body) (f have : ℕ) (l : List ℕ) (c : Body) → (afters (serve_flag b f have l) c).counter ≡ c.counter
unfolding afters after
flag_counter b f have [] c = refl
flag_counter b f have (x ∷ l) c =
    go (met have (wish (wait_of (task b x).state)).0 (wish (wait_of (task b x).state)).1)
    (flag_counter b f (left have (wish (wait_of (task b x).state)).1) l (after (release x OK have) c)) (flag_counter b f have l c)
  where
    go : (t : Bool) → (afters (serve_flag b f (left have (wish (wait_of (task b x).state)).1) l) (after (release x OK have) c)).counter ≡ c.counter → (afters (serve_flag b f have l) c).counter ≡ c.counter
        → (afters (cond t (release x OK have ∷ serve_flag b f (left have (wish (wait_of (task b x).state)).1) l) (serve_flag b f have l)) c).counter ≡ c.counter
    go true g h = g
    go false g h = h

-- the ticks of a run
abbrev pub ticks : Event → ℕ
ticks tick = 1
ticks enter = 0
ticks exit = 0
ticks (call x n a b c) = 0

abbrev pub ticks_of : List Event → ℕ
ticks_of [] = 0
ticks_of (e ∷ l) = ticks e + ticks_of l

-- call 38 on alarm k
abbrev pub cancels : ℕ → Event → Bool
cancels k tick = false
cancels k enter = false
cancels k exit = false
cancels k (call x n a b c) = is n 38 && eqb (nat a) k

abbrev pub NotCancelled : ℕ → List Event → Type 0
NotCancelled k [] = Unit {0}
NotCancelled k (e ∷ l) = (cancels k e ≡ false) × NotCancelled k l

-- the same count, and alarm k as it was
abbrev Unmoved : ℕ → Counter → Counter → Type 0
Unmoved k c d = SameCount c d × (alarm_of d k ≡ alarm_of c k)

module _ (v : View) (k : ℕ) (u : in_use (alarm_of v.body.counter k).setting ≡ true) where
  abbrev Leaves : List Act → Type 0
  Leaves l = Unmoved k v.body.counter (afters l v.body).counter

  leaves_by : (l : List Act) → (afters l v.body).counter ≡ v.body.counter → Leaves l
  leaves_by l e = ((ap (λ (c : Counter). c.now) e, ap (λ (c : Counter). c.size) e), ap (λ (c : Counter). alarm_of c k) e)

  leaves_none : Leaves []
  unfolding afters
  leaves_none = ((refl, refl), refl)

  leaves_flag : (f have : ℕ) (l : List ℕ) → Leaves (serve_flag v.body f have l)
  leaves_flag f have l = leaves_by _ (flag_counter v.body f have l v.body)

  -- another alarm
  leaves_alarm : (j : ℕ) (c : Code) (s : Setting) → j ≢ k → Leaves (alarm j c s ∷ [])
  unfolding afters after
  leaves_alarm j c s n = ((refl, refl), alarm_other v.body j c s k n)

  -- none that is in use is set, and another one is cancelled
  finds_leaves : {a p n : ℤ} {d : Act} → (is n 38 && eqb (nat a) k) ≡ false → Finds v a p n d → Leaves (d ∷ [])
  unfolding afters after
  finds_leaves {d} o (simple g f) = leaves_by (d ∷ []) (simple_leaves v.body g).1
  finds_leaves {d} o (rouses g e) = leaves_by (d ∷ []) e
  finds_leaves {d} o (breaks e w) = leaves_by (d ∷ []) refl
  finds_leaves {d} o (serves j t r z e) = leaves_by (d ∷ []) refl
  finds_leaves {a} o (sets (inl c) f) = leaves_alarm (nat a) _ _ (eqb-false (nat a) k (rw c at o))
  finds_leaves {a} o (sets (inr e) f) = leaves_alarm (nat a) _ _ (λ q. false≢true (sym e ∙ ap (λ (j : ℕ). in_use (alarm_of v.body.counter j).setting) q ∙ u))

  way_leaves : {a p n : ℤ} {r : Verdict} → (is n 38 && eqb (nat a) k) ≡ false → Way v a p n r → Leaves r.acts
  unfolding afters after
  way_leaves o (refused c e) = leaves_none
  way_leaves o (looked q) = leaves_none
  way_leaves o (acted q f) = finds_leaves o f
  way_leaves o (waited {i} {w} f) = leaves_by (wait i w ∷ []) refl
  way_leaves {a} o (walked have q i z) = leaves_flag (nat a) have (line v (waiters flag (nat a)))
  way_leaves {a} o (granted {j} y z i e) = leaves_by (mark (nat a) j false ∷ []) refl
  way_leaves {a} {p} o (block-freed e t l) = leaves_by (mark (nat a) (nat p) true ∷ []) refl
  way_leaves {a} {p} o (handed {i} e t l) = leaves_by (release i OK (nat p) ∷ []) refl

  leaves_nest : (h : Handlers) → Leaves (nest h ∷ [])
  unfolding afters after
  leaves_nest h = leaves_by (nest h ∷ []) refl

  -- an alarm in use is left alone by every event but a tick and its own cancelling
  event_leaves : (e : Event) → ticks e ≡ 0 → cancels k e ≡ false → Leaves (judge v e).acts
  unfolding judge entered exited
  event_leaves tick t o = absurd (omega arith)
  event_leaves enter t o = checked_acts Leaves _ _ _ leaves_none (λ e. leaves_nest _)
  event_leaves exit t o = checked_acts Leaves _ _ _ leaves_none (λ e. leaves_nest _)
  event_leaves (call x n a p c) t o = way_leaves o (call_way v x n a p c)

-- in d ticks alarm k is due, at count e; it is x
record Pending (k e : ℕ) (x : Alarm) (d : ℕ) (v : View) : Type 0 where
  sound : Sound v
  there : In k (length v.body.counter.alarms)
  same : alarm_of v.body.counter k ≡ x
  reaches : Reaches v.body.counter.size v.body.counter.now d e

-- its setting after it has fired: idle, or with a period set again by that relative count
abbrev pub anew_at : ℕ → ℕ → ℕ → Setting
anew_at m e zero = unset
anew_at m e (suc p) = due ((e + suc p) % m) (suc p)

again_at : (c : Counter) (e p : ℕ) → c.now ≡ e → again c (due e p) ≡ anew_at c.size e p
again_at c e zero q = refl
again_at c e (suc p) q = ap (λ (n : ℕ). due ((n + suc p) % c.size) (suc p)) q

next_body : (v : View) (e : Event) → (next v e).body ≡ afters (judge v e).acts v.body
unfolding next
next_body v e = body_acts (judge v e).acts v

there_next : (v : View) (e : Event) (k : ℕ) → In k (length v.body.counter.alarms) → In k (length (next v e).body.counter.alarms)
there_next v e k r = rw (next_body v e, (sizes_afters (judge v e).acts v.body).alarms) r

module _ (k e p : ℕ) (x : Alarm) (q : x.setting ≡ due e p) (v : View) where
  module _ (d : ℕ) (h : Pending k e x d v) where
    below : (v.body.counter.now < v.body.counter.size) × (e < v.body.counter.size)
    below = (
      counter_below v h.sound (counted _ _ k h.sound.body.counter.count h.there),
      (subst (λ (s : Setting). SettingFits v.body.counter.size s) (ap (λ (y : Alarm). y.setting) h.same ∙ q) (h.sound.body.counter.alarms k h.there).setting).0,
    )

    in_use_lem : in_use (alarm_of v.body.counter k).setting ≡ true
    in_use_lem = ap (λ (y : Alarm). in_use y.setting) h.same ∙ ap in_use q

    -- another event
    pending_other : (f : Event) → Words f → ticks f ≡ 0 → cancels k f ≡ false → Pending k e x d (event v f).next
    pending_other f w t o = subst (Pending k e x d) (sym (event_next v f h.sound)) (record {
      sound = sound_next v f h.sound w;
      there = there_next v f k h.there;
      same = ap (λ (b : Body). alarm_of b.counter k) (next_body v f) ∙ kept.1 ∙ h.same;
      reaches = rw (ap (λ (b : Body). b.counter.now) (next_body v f) ∙ kept.0.0, ap (λ (b : Body). b.counter.size) (next_body v f) ∙ kept.0.1) h.reaches;
    })
      where
        kept : Unmoved k v.body.counter (afters (judge v f).acts v.body).counter
        kept = event_leaves v k in_use_lem f t o

  abbrev c : Counter
  c = v.body.counter

  module _ (g : ℕ) (h : Pending k e x (suc (suc g)) v) where
    onward_reaches : (e ≢ count_after c.size c.now) × Reaches c.size (count_after c.size c.now) (suc g) e
    onward_reaches = not_reached c.size c.now g e (below (suc (suc g)) h).0 (below (suc (suc g)) h).1 h.reaches

    pending_silent : is_due v k ≡ false
    pending_silent = ap (λ (y : Alarm). fires (stepped c) y.setting) h.same ∙ ap (fires (stepped c)) q ∙ ne_eqb e _ onward_reaches.0

    -- a tick before that
    pending_tick : Pending k e x (suc g) (event v tick).next
    pending_tick = subst (Pending k e x (suc g)) (sym (event_next v tick h.sound)) (record {
      sound = sound_next v tick h.sound tt;
      there = there_next v tick k h.there;
      same = tick_silent v k h.there pending_silent ∙ h.same;
      reaches = rw ((tick_counts v).0, (tick_counts v).1) onward_reaches.1;
    })

  module _ (h : Pending k e x 1 v) where
    reached_now : e ≡ count_after c.size c.now
    reached_now = reached c.size c.now e (below 1 h).0 (below 1 h).1 h.reaches

    pending_due : is_due v k ≡ true
    pending_due = ap (λ (y : Alarm). fires (stepped c) y.setting) h.same ∙ ap (fires (stepped c)) q ∙ eq-eqb e _ reached_now

    -- and the tick that reaches it
    pending_fires : alarm_of (event v tick).next.body.counter k ≡ with_setting (fired (when_due v k) x).code (anew_at c.size e p) x
    pending_fires =
        ap (λ (w : View). alarm_of w.body.counter k) (event_next v tick h.sound)
        ∙ tick_fires v k h.there pending_due
        ∙ ap (λ (y : Alarm). with_setting (fired (when_due v k) y).code (again (stepped c) y.setting) y) h.same
        ∙ ap (λ (s : Setting). with_setting (fired (when_due v k) x).code s x) (ap (again (stepped c)) q ∙ again_at (stepped c) e p (sym reached_now))

-- a run that has fewer ticks
pending_run : (k e p : ℕ) (x : Alarm) → x.setting ≡ due e p → (l : List Event) (v : View) (d g : ℕ) → AllWords l → NotCancelled k l → d ≡ ticks_of l + suc g → Pending k e x d v → Pending k e x (suc g) (states v l)
unfolding states
pending_run k e p x q [] v d g w o t h = let z : d ≡ suc g = omega arith in subst (λ (n : ℕ). Pending k e x n v) z h
pending_run k e p x q (tick ∷ l) v d g w o t h =
    let z : d ≡ suc (suc (ticks_of l + g)) = omega arith in
    pending_run k e p x q l (event v tick).next (suc (ticks_of l + g)) g w.1 o.1 (omega arith) (pending_tick k e p x q v (ticks_of l + g) (subst (λ (n : ℕ). Pending k e x n v) z h))
pending_run k e p x q (enter ∷ l) v d g w o t h = pending_run k e p x q l (event v enter).next d g w.1 o.1 (omega arith) (pending_other k e p x q v d h enter w.0 refl o.0)
pending_run k e p x q (exit ∷ l) v d g w o t h = pending_run k e p x q l (event v exit).next d g w.1 o.1 (omega arith) (pending_other k e p x q v d h exit w.0 refl o.0)
pending_run k e p x q (call m n a b c ∷ l) v d g w o t h =
    pending_run k e p x q l (event v (call m n a b c)).next d g w.1 o.1 (omega arith) (pending_other k e p x q v d h (call m n a b c) w.0 refl o.0)

-- An alarm due at count e, which the counter reaches in d ticks, 1 to m, is cancelled in no event of the run.
module _ (v : View) (l : List Event) (k e p d : ℕ) (s : Sound v) (w : AllWords l) (o : NotCancelled k l) (r : In k (length v.body.counter.alarms)) (q : (alarm_of v.body.counter k).setting ≡ due e p)
    (i : In d v.body.counter.size) (u : count_from v.body.counter d ≡ e) where
  abbrev own : Alarm
  own = alarm_of v.body.counter k

  begins : Pending k e own d v
  begins = record {
    sound = s;
    there = r;
    same = refl;
    reaches = reaches_by v.body.counter.size v.body.counter.now d e (counter_below v s (omega (arith, i.0, i.1))) i u;
  }

  -- before the d-th tick it stays as it is: it has not fired
  pub silent_before : ticks_of l < d → alarm_of (states v l).body.counter k ≡ own
  silent_before t = (pending_run k e p own q l v d (d - suc (ticks_of l)) w o (omega arith) begins).same

  -- at the d-th it fires: it keeps the code of what it did, and goes idle or with a period is set again from the count e
  pub fires_first_later : d ≡ suc (ticks_of l)
      → alarm_of (event (states v l) tick).next.body.counter k ≡ with_setting (fired (when_due (states v l) k) own).code (anew_at (states v l).body.counter.size e p) own
  fires_first_later t = pending_fires k e p own q (states v l) (pending_run k e p own q l v d 0 w o (omega arith) begins)

  -- no earlier tick has an act of it
  pub nothing_before : suc (ticks_of l) < d → share (states v l) k ≡ []
  nothing_before t =
      share_none (states v l) k (pending_silent k e p own q (states v l) (d - suc (suc (ticks_of l))) (pending_run k e p own q l v d (suc (d - suc (suc (ticks_of l)))) w o (omega arith) begins))

  -- the d-th has those of its firing
  pub firing_then : d ≡ suc (ticks_of l) → share (states v l) k ≡ firing (when_due (states v l) k) k own
  firing_then t = share_firing (states v l) k (pending_due k e p own q (states v l) h) ∙ ap (firing (when_due (states v l) k) k) h.same
    where
      h : Pending k e own 1 (states v l)
      h = pending_run k e p own q l v d 0 w o (omega arith) begins

-- Every alarm in use has such a d: its expiry is reached within a round.
pub comes_due : (v : View) (k e p : ℕ) → Sound v → In k (length v.body.counter.alarms) → (alarm_of v.body.counter k).setting ≡ due e p
    → (d : ℕ) × In d v.body.counter.size × (count_from v.body.counter d ≡ e)
comes_due v k e p s r q = elim (dec_lt n e) [
  | yes l ↦ (e - n, (omega (arith, l), omega (arith, l, below)), ap (λ (x : ℕ). x % m) (omega (arith, l)) ∙ mod-eq_of_lt below)
  | no l ↦ (e + m - n, (omega (arith, l, now), omega (arith, l, now)), ap (λ (x : ℕ). x % m) (omega (arith, l, now)) ∙ add-mod_right e m ∙ mod-eq_of_lt below)
]
  where
    m : ℕ
    m = v.body.counter.size

    n : ℕ
    n = v.body.counter.now

    below : e < m
    below = (subst (λ (x : Setting). SettingFits m x) q (s.body.counter.alarms k r).setting).0

    now : n < m
    now = counter_below v s (counted _ _ k s.body.counter.count r)

-- after a full round the counter is where it was: so an expiry at the present count is reached in m ticks
pub full_round : (v : View) → Sound v → 0 < v.body.counter.size → count_from v.body.counter v.body.counter.size ≡ v.body.counter.now
full_round v s l = add-mod_right v.body.counter.now v.body.counter.size ∙ mod-eq_of_lt (counter_below v s l)
