-- From an outermost entry to its return the running task reported is the one at the entry, and at the return the head of the best queue;
-- a tick outside handlers is entry, tick, return; where E_CTX and H_NEST come from. Assumes nothing.
use mathlib.Core.Bool.{Bool, true, false, not, cond, false≢true}
use mathlib.Core.List.{List, [], ◌∷◌, ◌++◌}
use mathlib.Core.Logic.{◌⊎◌, inl, inr, ◌≢◌}
use mathlib.Core.Path.{◌≡◌, refl, sym, ap, ◌∙◌, subst}
use Prim.Native.Nat.{ℕ, zero, suc, ◌<◌}
use lib.IntN.{ℤ, pos, negsuc}
use lib.ListN.{length}
use borrow.Author.Tests.{eq-eqb, ne_eqb, lt-leb}
use Rattle.rules.specs.Ids.{keep}
use Rattle.rules.specs.Codes.{Code, OK, H-CALL, E-CTX, H-NEST}
use Rattle.rules.specs.State.{State, dormant, ready, suspended, waiting, waiting_suspended, absent, Handlers, no_handler, in_handler, depth, is_open, alarm_of, Body, task, is_ready, is_suspended, is_freed}
use Rattle.rules.specs.Places.{Place, ready_at, waiters, mail, free_in, belongs, tabulate}
use Rattle.rules.specs.Events.{Event, tick, enter, exit, call, event_of, AllWords}
use Rattle.rules.specs.Acts.{Act, start, rotate, wait, release, wakeups, pattern, elapse, nest, alarm, with_handlers, after, afters, Move, stay, leave, last, move}
use Rattle.rules.specs.View.{View, line, best, head, reported, running, alone, without, moved, act, acts}
use Rattle.rules.specs.Verdicts.{Verdict, refuse, done, check, on_first}
use Rattle.rules.specs.Tasks.{starting, rot_rdq, waking, state_number, tsk_sts}
use Rattle.rules.specs.Alarms.{fires, fired, firing, rings}
use Rattle.rules.specs.Time.{lapse, ticked}
use Rattle.rules.specs.Handling.{inner, outer, entered, exited}
use Rattle.rules.specs.Rows.{Context, T, both}
use Rattle.rules.specs.Table.{misplaced, caller, handles, called, judge}
use Rattle.rules.specs.Answers.{released_count, answer}
use Rattle.rules.specs.Sound.{HandlersFit, Sound}
use Rattle.rules.specs.Check.{sound?}
use Rattle.rules.specs.Kernel.{Outcome, next, served, damaged, event}
use Rattle.rules.specs.Interrupted.{handled, StaysOpen, Reports}
use Rattle.rules.proofs.Lines.{tabulate_lines}
use Rattle.rules.proofs.Queues.{body_act}
use Rattle.rules.proofs.Firings.{FiringAct, along_keeps, firing_acts}
use Rattle.rules.proofs.Cells.{body_acts, Gentle, releases, begins, counts, sets, elapses, rung, AllGentle, firing_gentle, lapse_gentle, tick_gentle, nothing, one, of_wait, handlers_kept}
use Rattle.rules.proofs.Clean.{Clean, refused, given, waited, tick_clean, call_clean}
use Rattle.rules.proofs.Refused.{none_released}
use Rattle.rules.proofs.Events.{event_served, event_damaged, event_next, sound_event}

-- ---- the handlers after an event

clean_handlers : (b : Body) (r : Verdict) → Clean b r → (afters r.acts b).handlers ≡ b.handlers
clean_handlers b r (refused c n) = handlers_kept b [] nothing
clean_handlers b r (given x y l g) = handlers_kept b l g
clean_handlers b r (waited i w) = handlers_kept b (wait i w ∷ []) (one of_wait)

module _ (v : View) where
  tick_handlers : (next v tick).body.handlers ≡ v.body.handlers
  unfolding next
  tick_handlers = ap (λ (b : Body). b.handlers) (body_acts (judge v tick).acts v) ∙ clean_handlers v.body (judge v tick) (tick_clean v)

  call_handlers : (x n a b c : ℤ) → (next v (call x n a b c)).body.handlers ≡ v.body.handlers
  unfolding next
  call_handlers x n a b c =
      let e = call x n a b c in
      ap (λ (b : Body). b.handlers) (body_acts (judge v e).acts v) ∙ clean_handlers v.body (judge v e) (call_clean v x n a b c)

  nests_handlers : (t : Bool) (c : Code) (h : Handlers)
      → ((acts (check t c (done (nest h ∷ []))).acts v).body.handlers ≡ v.body.handlers) ⊎ ((acts (check t c (done (nest h ∷ []))).acts v).body.handlers ≡ h)
  unfolding check acts act after
  nests_handlers true c h = inl refl
  nests_handlers false c h = inr refl

  enter_handlers : ((next v enter).body.handlers ≡ v.body.handlers) ⊎ ((next v enter).body.handlers ≡ inner v.body.handlers (head v))
  unfolding next judge entered
  enter_handlers = nests_handlers _ H-NEST (inner v.body.handlers (head v))

  exit_handlers : (next v exit).body.handlers ≡ outer v.body.handlers
  unfolding next judge exited check acts act after
  exit_handlers = go v.body.handlers refl
    where
      go : (x : Handlers) → v.body.handlers ≡ x → (acts (check (not (is_open x)) E-CTX (done (nest (outer x) ∷ []))).acts v).body.handlers ≡ outer x
      go no_handler e = e
      go (in_handler n i) e = refl

-- ---- the task reported

-- a handler is open, and the outermost one interrupted task i
abbrev pub Interrupts : ℕ → Handlers → Type 0
Interrupts i no_handler = ⊥
Interrupts i (in_handler n j) = j ≡ i

interrupts_inner : (i r : ℕ) (x : Handlers) → Interrupts i x → Interrupts i (inner x r)
interrupts_inner i r no_handler h = absurd h
interrupts_inner i r (in_handler n j) h = h

interrupts_outer : (i : ℕ) (x : Handlers) → is_open (outer x) ≡ true → Interrupts i x → Interrupts i (outer x)
interrupts_outer i no_handler o h = absurd h
interrupts_outer i (in_handler zero j) o h = absurd (false≢true o)
interrupts_outer i (in_handler (suc n) j) o h = h

interrupts_reports : (i : ℕ) (v : View) → Interrupts i v.body.handlers → running v ≡ i
unfolding running
interrupts_reports i v = go v.body.handlers
  where
    go : (x : Handlers) → Interrupts i x → reported x (head v) ≡ i
    go no_handler h = absurd h
    go (in_handler n j) h = h

interrupts_next : (i : ℕ) (v : View) (e : Event) → Interrupts i v.body.handlers → is_open (next v e).body.handlers ≡ true → Interrupts i (next v e).body.handlers
interrupts_next i v tick h o = subst (Interrupts i) (sym (tick_handlers v)) h
interrupts_next i v enter h o =
    elim (enter_handlers v) [ inl e ↦ subst (Interrupts i) (sym e) h | inr e ↦ subst (Interrupts i) (sym e) (interrupts_inner i (head v) v.body.handlers h) ]
interrupts_next i v exit h o =
    subst (Interrupts i) (sym (exit_handlers v)) (interrupts_outer i v.body.handlers (subst (λ (x : Handlers). is_open x ≡ true) (exit_handlers v) o) h)
interrupts_next i v (call x n a b c) h o = subst (Interrupts i) (sym (call_handlers v x n a b c)) h

-- the running task given in the answer is that of the state after the event
answer_runs : (v : View) (e : Event) → Sound v → (event v e).answer.runs ≡ running (event v e).next
unfolding served answer
answer_runs v e s = ap (λ o. o.answer.runs) (event_served v e s) ∙ ap running (sym (event_next v e s))

-- it is reported as long as a handler stays open
pub interrupts_on : (i : ℕ) (v : View) (e : Event) → Sound v → Interrupts i v.body.handlers → is_open (event v e).next.body.handlers ≡ true
    → ((event v e).answer.runs ≡ i) × Interrupts i (event v e).next.body.handlers
interrupts_on i v e s h o =
    let t = event_next v e s in
    let k : Interrupts i (event v e).next.body.handlers =
    subst (λ (x : View). Interrupts i x.body.handlers) (sym t) (interrupts_next i v e h (subst (λ (x : View). is_open x.body.handlers ≡ true) t o)) in
    (answer_runs v e s ∙ interrupts_reports i (event v e).next k, k)

-- and the head of the best queue when none is
pub head_reported : (v : View) (e : Event) → Sound v → is_open (event v e).next.body.handlers ≡ false → (event v e).answer.runs ≡ head (event v e).next
unfolding running
head_reported v e s o = answer_runs v e s ∙ go (event v e).next.body.handlers o
  where
    go : (x : Handlers) → is_open x ≡ false → reported x (head (event v e).next) ≡ head (event v e).next
    go no_handler k = refl
    go (in_handler n j) k = absurd (false≢true (sym k))

open_first : (v : View) (l : List Event) → StaysOpen v l → is_open v.body.handlers ≡ true
open_first v [] o = o
open_first v (e ∷ l) o = o.0

interrupts_run : (i : ℕ) (v : View) (l : List Event) → Sound v → AllWords l → Interrupts i v.body.handlers → StaysOpen v l → Reports i v l
interrupts_run i v [] s w h o = interrupts_reports i v h
interrupts_run i v (e ∷ l) s w h o =
    let k = interrupts_on i v e s h (open_first (event v e).next l o.1) in
    (interrupts_reports i v h, k.0, interrupts_run i (event v e).next l (sound_event v e s w.0) w.1 k.1 o.1)

-- ---- the handlers put by hand

abbrev pub under : Handlers → View → View
under h v = record { body = with_handlers h v.body; lines = v.lines }

-- nobody moves
pub act_nest : (h : Handlers) (v : View) → Sound v → act (nest h) v ≡ under h v
unfolding act after move moved
act_nest h v s = λ z. record { body = with_handlers h v.body; lines = tabulate_lines v.body.store v.lines s.shape z }

belongs_under : (h : Handlers) (b : Body) (q : Place) (i : ℕ) → belongs (with_handlers h b) q i ≡ belongs b q i
unfolding belongs
belongs_under h b (ready_at p) i = refl
belongs_under h b (waiters k o) i = refl
belongs_under h b (mail m) i = refl
belongs_under h b (free_in p) i = refl

moved_under : (h : Handlers) (b : Body) (m : Move) (q : Place) (l : List ℕ) → moved (with_handlers h b) m q l ≡ moved b m q l
unfolding moved
moved_under h b stay q l = refl
moved_under h b (leave x) q l = refl
moved_under h b (last x) q l = λ z. without x q l ++ keep (λ i. belongs_under h b q i z) (alone x q)

-- the acts of a tick do not look at the handlers
act_under : {a : Act} (v : View) → Gentle v.body a → (h : Handlers) → act a (under h v) ≡ under h (act a v)
unfolding act after move
act_under v (releases i c w n) h = let b = after (release i c w) v.body in λ z. record {
  body = with_handlers h b;
  lines = tabulate b.store (λ q. moved_under h b (move v.body (release i c w)) q (line v q) z);
}
act_under v (sets f n) h = let b = after (pattern f n) v.body in λ z. record {
  body = with_handlers h b;
  lines = tabulate b.store (λ q. moved_under h b (move v.body (pattern f n)) q (line v q) z);
}
act_under v elapses h = let b = after elapse v.body in λ z. record {
  body = with_handlers h b;
  lines = tabulate b.store (λ q. moved_under h b (move v.body elapse) q (line v q) z);
}
act_under v (begins i d) h = let b = after (start i) v.body in λ z. record {
  body = with_handlers h b;
  lines = tabulate b.store (λ q. moved_under h b (move v.body (start i)) q (line v q) z);
}
act_under v (counts i n) h = let b = after (wakeups i n) v.body in λ z. record {
  body = with_handlers h b;
  lines = tabulate b.store (λ q. moved_under h b (move v.body (wakeups i n)) q (line v q) z);
}
act_under v (rung k c s) h = let b = after (alarm k c s) v.body in λ z. record {
  body = with_handlers h b;
  lines = tabulate b.store (λ q. moved_under h b (move v.body (alarm k c s)) q (line v q) z);
}

acts_under : (l : List Act) (v : View) → AllGentle v.body l → (h : Handlers) → acts l (under h v) ≡ under h (acts l v)
unfolding acts
acts_under [] v g h = refl
acts_under (a ∷ l) v g h = ap (acts l) (act_under v g.0 h) ∙ acts_under l (act a v) (rw (body_act a v) g.1) h

after_under : {a : Act} (b : Body) → Gentle b a → (h : Handlers) → after a (with_handlers h b) ≡ with_handlers h (after a b)
unfolding after
after_under b (releases i c w n) h = refl
after_under b (begins i d) h = refl
after_under b (counts i n) h = refl
after_under b (sets f n) h = refl
after_under b elapses h = refl
after_under b (rung k c s) h = refl

afters_under : (l : List Act) (b : Body) → AllGentle b l → (h : Handlers) → afters l (with_handlers h b) ≡ with_handlers h (afters l b)
unfolding afters
afters_under [] b g h = refl
afters_under (a ∷ l) b g h = ap (afters l) (after_under b g.0 h) ∙ afters_under l (after a b) g.1 h

-- and no more do the alarms that fire
rings_under : (h : Handlers) (n k : ℕ) (b : Body) → rings (with_handlers h b) n k ≡ rings b n k
unfolding rings fired starting waking
rings_under h zero k b = refl
rings_under h (suc n) k b = go (fires b.counter (alarm_of b.counter k).setting) refl (λ e. ap (λ (c : Body). rings c n (suc k)) (afters_under these b (gentle e) h) ∙ rings_under h n (suc k) (afters these b)) (rings_under h n (suc k) b)
  where
    these : List Act
    these = firing b k (alarm_of b.counter k)

    gentle : fires b.counter (alarm_of b.counter k).setting ≡ true → AllGentle b these
    gentle e = (along_keeps FiringAct Gentle (λ c. Unit {0}) (λ c a h g. (firing_gentle c a g, tt)) these b tt (firing_acts b k e)).0

    go : (t : Bool) → fires b.counter (alarm_of b.counter k).setting ≡ t
        → (fires b.counter (alarm_of b.counter k).setting ≡ true → rings (afters these (with_handlers h b)) n (suc k) ≡ rings (afters these b) n (suc k)) → rings (with_handlers h b) n (suc k) ≡ rings b n (suc k)
        → cond t (these ++ rings (afters these (with_handlers h b)) n (suc k)) (rings (with_handlers h b) n (suc k)) ≡ cond t (these ++ rings (afters these b) n (suc k)) (rings b n (suc k))
    go true e p q = ap (λ (l : List Act). these ++ l) (p e)
    go false e p q = q

tick_under : (h : Handlers) (v : View) → next (under h v) tick ≡ under h (next v tick)
unfolding next judge ticked
tick_under h v =
    let b = v.body in
    let n = length b.counter.alarms in
    ap (λ (l : List Act). acts (lapse b ++ l) (under h v)) (ap (λ (c : Body). rings c n 1) (afters_under (lapse b) b (lapse_gentle b) h) ∙ rings_under h n 1 (afters (lapse b) b))
    ∙ acts_under (lapse b ++ rings (afters (lapse b) b) n 1) v (tick_gentle b n) h

-- ---- an entry at depth 0, and the return to it

-- code 0 and no words
abbrev pub quietly : ℕ → ℕ → View → Outcome
quietly r n v = record { answer = record { code = OK; w1 = 0; w2 = 0; runs = r; released = n }; next = v }

-- an accepted entry or return
nests_served : (v : View) (e : Event) (h : Handlers) → Sound v → judge v e ≡ done (nest h ∷ []) → event v e ≡ quietly (running (under h v)) 0 (under h v)
unfolding served next answer acts
nests_served v e h s k =
    event_served v e s
    ∙ (λ z. record { answer = answer (k z) v (acts (k z).acts v); next = acts (k z).acts v })
    ∙ (λ z. quietly (running (act_nest h v s z)) (released_count v.body.tasks (act_nest h v s z).body.tasks) (act_nest h v s z))
    ∙ ap (λ (n : ℕ). quietly (running (under h v)) n (under h v)) (none_released v.body.tasks)

-- outside handlers the head of the best queue runs
pub head_runs : (v : View) → v.body.handlers ≡ no_handler → running v ≡ head v
unfolding running
head_runs v z = rw z

module _ (v : View) (s : Sound v) (z : v.body.handlers ≡ no_handler) where
  -- an entry changes the handlers and nothing else
  pub enters : event v enter ≡ quietly (head v) 0 (under (in_handler 0 (head v)) v)
  unfolding running
  enters = nests_served v enter (in_handler 0 (head v)) s (unfold judge entered check in rw z)

  -- From an accepted outermost entry to its return the running task reported is the one at the entry, whatever happens between: it is the
  -- head of the best queue before the entry, and every answer up to the return gives it.
  pub reported_until_return : (l : List Event) → AllWords l → StaysOpen (event v enter).next l
      → ((event v enter).answer.code ≡ OK) × ((event v enter).answer.runs ≡ running v) × Reports (running v) (event v enter).next l
  reported_until_return l w o = (
    ap (λ x. x.answer.code) enters,
    ap (λ x. x.answer.runs) enters ∙ sym (head_runs v z),
    interrupts_run (running v) (event v enter).next l (sound_event v enter s tt) w (subst (λ (x : View). Interrupts (running v) x.body.handlers) (sym (ap (λ x. x.next) enters)) (sym (head_runs v z))) o,
  )

module _ (v : View) (i : ℕ) (s : Sound v) (z : v.body.handlers ≡ in_handler 0 i) where
  -- and so does its return
  pub exits : event v exit ≡ quietly (head v) 0 (under no_handler v)
  unfolding running
  exits = nests_served v exit no_handler s (unfold judge exited check in rw z)

  -- at the return of the outermost handler the running task is the head of the best queue again, as the handlers left it
  pub head_at_return : ((event v exit).answer.code ≡ OK) × ((event v exit).answer.runs ≡ head v) × ((event v exit).next.body.handlers ≡ no_handler) × (running (event v exit).next ≡ head v)
  unfolding running
  head_at_return = (
    ap (λ x. x.answer.code) exits,
    ap (λ x. x.answer.runs) exits,
    ap (λ x. x.next.body.handlers) exits,
    ap (λ x. running x.next) exits,
  )

-- above depth 0 and below 15 one more handler opens, and above 1 one closes; the interrupted task stays
pub enters_deeper : (v : View) (n i : ℕ) → Sound v → v.body.handlers ≡ in_handler n i → suc n < 15 → event v enter ≡ quietly i 0 (under (in_handler (suc n) i) v)
unfolding running
enters_deeper v n i s z k = nests_served v enter (in_handler (suc n) i) s (unfold judge entered check in rw (z, lt-leb 15 (suc n) k))

pub exits_deeper : (v : View) (n i : ℕ) → Sound v → v.body.handlers ≡ in_handler (suc n) i → event v exit ≡ quietly i 0 (under (in_handler n i) v)
unfolding running
exits_deeper v n i s z = nests_served v exit (in_handler n i) s (unfold judge exited check in rw z)

-- ---- A tick outside handlers counts as entry, tick, return.

handled_by : (v : View) (e : Event) (u : View) (o r : Outcome) → (event v enter).next ≡ u → event u e ≡ o → event o.next exit ≡ r
    → handled v e ≡ record { answer = record { code = o.answer.code; w1 = o.answer.w1; w2 = o.answer.w2; runs = r.answer.runs; released = o.answer.released }; next = r.next }
unfolding handled
handled_by v e u o r p q k = rw (p, q, k)

tick_served : (v : View) → Sound v → event v tick ≡ quietly (running (next v tick)) (released_count v.body.tasks (next v tick).body.tasks) (next v tick)
unfolding served answer judge ticked
tick_served v s = event_served v tick s

module _ (v : View) (s : Sound v) (z : v.body.handlers ≡ no_handler) where
  abbrev inside : Handlers
  inside = in_handler 0 (head v)

  abbrev later : View
  later = next v tick

  inside_sound : Sound (under inside v)
  inside_sound = subst Sound (ap (λ x. x.next) (enters v s z)) (sound_event v enter s tt)

  ticks_inside : event (under inside v) tick ≡ quietly (running (under inside later)) (released_count v.body.tasks later.body.tasks) (under inside later)
  ticks_inside = tick_served (under inside v) inside_sound ∙ (λ z. quietly (running (tick_under inside v z)) (released_count v.body.tasks (tick_under inside v z).body.tasks) (tick_under inside v z))

  later_sound : Sound (under inside later)
  later_sound = subst Sound (ap (λ x. x.next) ticks_inside) (sound_event (under inside v) tick inside_sound tt)

  outside_again : under no_handler later ≡ later
  outside_again = λ x. record { body = with_handlers (sym (tick_handlers v ∙ z) x) later.body; lines = later.lines }

  tick_handled_sound : event v tick ≡ handled v tick
  tick_handled_sound =
      tick_served v s
      ∙ (λ x. quietly (head_runs later (tick_handlers v ∙ z) x) (released_count v.body.tasks later.body.tasks) (sym outside_again x))
      ∙ sym (handled_by v tick (under inside v) _ _ (ap (λ x. x.next) (enters v s z)) ticks_inside (exits (under inside later) (head v) later_sound refl))

-- the state is the one after entry, tick and return; code, words and the number released are the tick's, the running task is read at the return
pub tick_handled : (v : View) → v.body.handlers ≡ no_handler → event v tick ≡ handled v tick
tick_handled v z = go (sound? v)
  where
    go : Dec (Sound v) → event v tick ≡ handled v tick
    go (yes s) = tick_handled_sound v s z
    go (no h) =
        event_damaged v tick h
        ∙ sym (handled_by v tick v (damaged v) (damaged v) (unfold damaged in ap (λ x. x.next) (event_damaged v enter h)) (event_damaged v tick h) (unfold damaged in event_damaged v exit h))
        ∙ (unfold damaged in refl)

-- ---- rot_rdq(0) acts on the best nonempty ready queue, whoever is reported; with every queue empty it moves nothing, code 0.

pub rotates_best : (v : View) (x : ℕ) (l : List ℕ) → best v ≡ x ∷ l → rot_rdq v (pos 0) ≡ done (rotate x ∷ [])
unfolding rot_rdq on_first
rotates_best v x l e = rw e

pub rotates_nobody : (v : View) → best v ≡ [] → rot_rdq v (pos 0) ≡ done []
unfolding rot_rdq on_first
rotates_nobody v e = rw e

-- ---- Playback kinds 2, 3 and 4 are tick, entry and return, whatever the other words; any kind but 0 to 4 is H_CALL.

pub kinds : (n a b c : ℤ) → (event_of (pos 2) n a b c ≡ tick) × (event_of (pos 3) n a b c ≡ enter) × (event_of (pos 4) n a b c ≡ exit)
kinds n a b c = (refl, refl, refl)

pub no_such_kind : (v : View) (k : ℕ) (n a b c : ℤ)
    → (judge v (event_of (pos (suc (suc (suc (suc (suc k)))))) n a b c) ≡ refuse H-CALL) × (judge v (event_of (negsuc k) n a b c) ≡ refuse H-CALL)
unfolding judge called
no_such_kind v k n a b c = (refl, refl)

-- ---- the refusals

-- E_CTX: a handler's call at depth 0, whatever the call; a task's call above 0; a return at 0
pub handler_call_outside : (v : View) (c : Context) → v.body.handlers ≡ no_handler → misplaced c (handles v true) (caller v true) ≡ true
handler_call_outside v T z = refl
handler_call_outside v both z = rw z

pub task_call_inside : (v : View) (c : Context) → is_open v.body.handlers ≡ true → misplaced c (handles v false) (caller v false) ≡ true
task_call_inside v T o = rw o
task_call_inside v both o = rw o

pub return_outside : (v : View) → v.body.handlers ≡ no_handler → judge v exit ≡ refuse E-CTX
unfolding judge exited check
return_outside v z = rw z

-- H_NEST: an entry at depth 15
pub entry_at_fifteen : (v : View) → depth v.body.handlers ≡ 15 → judge v enter ≡ refuse H-NEST
unfolding judge entered check
entry_at_fifteen v z = rw z

-- ---- While any handler is open tsk_sts shows SUSPEND or RUN for the interrupted task, and READY for every other task in a ready queue.

freed_number : (s : State) → is_freed s ≡ true → state_number s true ≡ cond (is_suspended s) 4 2
unfolding state_number
freed_number dormant e = absurd (false≢true e)
freed_number absent e = absurd (false≢true e)
freed_number ready e = refl
freed_number suspended e = refl
freed_number (waiting w) e = absurd (false≢true e)
freed_number (waiting_suspended w) e = absurd (false≢true e)

ready_number : (s : State) → is_ready s ≡ true → state_number s false ≡ 1
unfolding state_number
ready_number dormant e = absurd (false≢true e)
ready_number absent e = absurd (false≢true e)
ready_number ready e = refl
ready_number suspended e = absurd (false≢true e)
ready_number (waiting w) e = absurd (false≢true e)
ready_number (waiting_suspended w) e = absurd (false≢true e)

module _ (v : View) (n i : ℕ) (s : Sound v) (z : v.body.handlers ≡ in_handler n i) where
  reports : running v ≡ i
  unfolding running
  reports = rw z

  pub interrupted_shown : i ≢ 0 → (tsk_sts v (pos i)).w1 ≡ cond (is_suspended (task v.body i).state) 4 2
  unfolding tsk_sts
  interrupted_shown k = rw (reports, eq-eqb i i refl) (go (subst (HandlersFit v.body.tasks) z s.body.handlers).1)
    where
      go : (i ≡ 0) ⊎ (is_freed (task v.body i).state ≡ true) → state_number (task v.body i).state true ≡ cond (is_suspended (task v.body i).state) 4 2
      go (inl e) = absurd (k e)
      go (inr e) = freed_number (task v.body i).state e

  pub others_shown : (j : ℕ) → j ≢ i → is_ready (task v.body j).state ≡ true → (tsk_sts v (pos j)).w1 ≡ 1
  unfolding tsk_sts
  others_shown j k e = rw (reports, ne_eqb j i k) (ready_number (task v.body j).state e)
