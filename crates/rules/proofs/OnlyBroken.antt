-- Only an accepted rel_wai makes a cell E_RLWAI, and no event is answered with it: every other act leaves a cell alone or writes another
-- code. Over runs: a cell reads E_RLWAI exactly if such a rel_wai was the task's last release or start. Assumes nothing.
use mathlib.Core.Bool.{Bool, true, false, cond, ◌||◌, false≢true}
use mathlib.Core.List.{List, [], ◌∷◌, ◌++◌, map}
use mathlib.Core.Logic.{◌⊎◌, inl, inr, ◌≢◌, ◌↔◌}
use mathlib.Core.Path.{◌≡◌, refl, sym, ap, ◌∙◌, subst}
use Prim.Native.Nat.{ℕ, zero, suc}
use native.Mathlib.Decide.{ℕ_discrete}
use native.Mathlib.Omega.{arith}
use lib.IntN.{ℤ, pos, negsuc}
use lib.ListN.{length}
use borrow.Author.Tests.{ne_eqb}
use Rattle.rules.specs.Ids.{of, from, ids, In}
use Rattle.rules.specs.Codes.{Code, OK, E-NOEXS, E-RLWAI, number, tells_damage}
use Rattle.rules.specs.State.{flag, State, dormant, ready, suspended, absent, waiting, waiting_suspended, Cell, Task, Body, task, nobody, is_absent, is_waiting}
use Rattle.rules.specs.Places.{waiters, tabulate}
use Rattle.rules.specs.Setup.{got, Entry, Setup, setup}
use Rattle.rules.specs.Events.{Event, tick, enter, exit, call, Words, AllWords, nat, outside}
use Rattle.rules.specs.Acts.{Act, start, release, mark, nest, alarm, started, released_task, older, with_state, with_wakeups, after, afters}
use Rattle.rules.specs.View.{View, line}
use Rattle.rules.specs.Verdicts.{Verdict, gives}
use Rattle.rules.specs.Time.{ticked}
use Rattle.rules.specs.Handling.{entered, exited}
use Rattle.rules.specs.Table.{judge}
use Rattle.rules.specs.Sound.{CellNumbers, Sound}
use Rattle.rules.specs.Check.{sound?}
use Rattle.rules.specs.Breach.{breach}
use Rattle.rules.specs.Answers.{answer, read_cell}
use Rattle.rules.specs.Kernel.{idle_task, idle, frees, starts, begins, fresh, next, served, damaged, guarded, event, cell}
use Rattle.rules.specs.Plain.{Plain, view_of, plain_answer}
use Rattle.rules.specs.Runs.{states}
use Rattle.rules.specs.Broken.{broken, is_fresh, StaysBroken, BreaksOff, OnlyRelWai, NeverFresh, BrokenOff}
use Rattle.rules.proofs.Ids.{of_put_other}
use Rattle.rules.proofs.Waits.{in_by}
use Rattle.rules.proofs.States.{older_same}
use Rattle.rules.proofs.Judge.{checked_acts}
use Rattle.rules.proofs.Ways.{Finds, simple, rouses, breaks, serves, sets as alarm-sets, Way, refused, looked, acted, waited, walked, granted, freed as block-freed, handed, call_way}
use Rattle.rules.proofs.Cells.{change_each, map_each, body_acts, Gentle, releases, begins as begun, counts, sets, elapses, rung, AllGentle, Simple, of_wait, Calm, simple_calm, calm_stays, firing_gentle, flag_gentle, tick_gentle, served_whole}
use Rattle.rules.proofs.Clean.{judge_not_broken}
use Rattle.rules.proofs.Breach.{breach_tells}
use Rattle.rules.proofs.Events.{event_next, cell_reads, sound_event, fresh_sound}
use Rattle.rules.proofs.Broken.{tasks_next, stays, stays_broken}

-- ---- a task that an act does not break off

-- the cell is not E_RLWAI, or it is as it was and the task was neither released nor started nor deleted
abbrev Whole : Task → Task → Type 0
Whole t u = (u.cell.code ≢ E-RLWAI) ⊎ ((u.cell ≡ t.cell) × (is_fresh t.state u.state ≡ false))

unfresh : (s : State) → is_fresh s s ≡ false
unfresh dormant = refl
unfresh absent = refl
unfresh ready = refl
unfresh suspended = refl
unfresh (waiting x) = refl
unfresh (waiting_suspended x) = refl

whole_same : (t : Task) → Whole t t
whole_same t = inr (refl, unfresh t.state)

-- For lists of acts: the cell is not E_RLWAI, or it is as it was and the task is as near to a release or a start as before.
data Spared (t u : Task) : Type 0 where
  rewritten : u.cell.code ≢ E-RLWAI → Spared t u
  left_alone : u.cell ≡ t.cell → ((s : State) → is_fresh t.state s ≡ is_fresh u.state s) → Spared t u

spared_same : (t : Task) → Spared t t
spared_same t = left_alone refl (λ s. refl)

spared_then : {t u w : Task} → Spared t u → Spared u w → Spared t w
spared_then h (rewritten n) = rewritten n
spared_then (rewritten n) (left_alone c f) = rewritten (λ e. n (ap (λ c. c.code) (sym c) ∙ e))
spared_then (left_alone c f) (left_alone c' f') = left_alone (c' ∙ c) (λ s. f s ∙ f' s)

spared_whole : {t u : Task} → Spared t u → Whole t u
spared_whole (rewritten n) = inl n
spared_whole {u} (left_alone c f) = inr (c, f u.state ∙ unfresh u.state)

released_spared : (c : Code) (w : ℕ) → c ≢ E-RLWAI → (t : Task) → Spared t (released_task c w t)
released_spared c w n t = go (is_waiting t.state) refl
  where
    go : (x : Bool) → is_waiting t.state ≡ x → Spared t (released_task c w t)
    go true e = rw e (rewritten n)
    go false e = rw e (spared_same t)

older_spared : (t : Task) → Spared t (with_state (older t.state) t)
older_spared t = left_alone refl (λ s. rw ((older_same t.state).waiting, (older_same t.state).dormant, (older_same t.state).absent))

gentle_spared : {a : Act} (b : Body) → Gentle b a → (i : ℕ) → Spared (task b i) (task (after a b) i)
unfolding after
gentle_spared b (releases j c w n) i = change_each Spared spared_same (released_task c w) j b (λ t e. released_spared c w n t) i
gentle_spared b (begun j d) i = change_each Spared spared_same started j b (λ t e. rewritten served_whole) i
gentle_spared b (counts j n) i = change_each Spared spared_same (with_wakeups n) j b (λ t e. left_alone refl (λ s. refl)) i
gentle_spared b (sets f n) i = spared_same _
gentle_spared b elapses i = map_each Spared spared_same _ older_spared b.tasks i nobody
gentle_spared b (rung k c s) i = spared_same _

list_spared : (l : List Act) (b : Body) → AllGentle b l → (i : ℕ) → Spared (task b i) (task (afters l b) i)
unfolding afters
list_spared [] b g i = spared_same _
list_spared (a ∷ l) b g i = spared_then (gentle_spared b g.0 i) (list_spared l (after a b) g.1 i)

-- ---- every call: the calls but rel_wai break nobody off

calm_whole : {t u : Task} → Calm t u → Whole t u
calm_whole k = elim (calm_stays k) [ inl c ↦ inr c | inr e ↦ inl (rw e served_whole) ]

module _ (b : Body) where
  abbrev AllWhole : List Act → Type 0
  AllWhole l = (i : ℕ) → Whole (task b i) (task (afters l b) i)

  whole_none : AllWhole []
  unfolding afters
  whole_none i = whole_same (task b i)

  whole_simple : {a : Act} → Simple a → AllWhole (a ∷ [])
  unfolding afters
  whole_simple g i = calm_whole (simple_calm b g i)

  -- a mark, an alarm, or handlers that change: the tasks stay
  whole_still : (a : Act) → (after a b).tasks ≡ b.tasks → AllWhole (a ∷ [])
  unfolding afters
  whole_still a e i = rw e (whole_same (task b i))

  whole_list : (l : List Act) → AllGentle b l → AllWhole l
  whole_list l g i = spared_whole (list_spared l b g i)

  whole_gentle : {a : Act} → Gentle b a → AllWhole (a ∷ [])
  whole_gentle {a} g = whole_list (a ∷ []) (g, tt)

-- what is left: call 6, done by a release of the task that a names
abbrev Breaks : ℤ → ℤ → Verdict → Type 0
Breaks n a r = (n ≡ pos 6) × (r.code ≡ OK) × (r.acts ≡ release (nat a) E-RLWAI 0 ∷ [])

abbrev Spares : Body → ℤ → ℤ → Verdict → Type 0
Spares b a n r = AllWhole b r.acts ⊎ Breaks n a r

finds_spares : (x y : ℕ) {v : View} {a p n : ℤ} {d : Act} → Finds v a p n d → Spares v.body a n (gives x y (d ∷ []))
unfolding after
finds_spares x y {v} (simple g f) = inl (whole_simple v.body g)
finds_spares x y {v} (rouses g e) = inl (whole_gentle v.body (firing_gentle v.body _ g))
finds_spares x y (breaks e w) = inr (e, refl, refl)
finds_spares x y {v} (serves k {w} {i} o r z e) = inl (whole_gentle v.body (releases i OK w served_whole))
finds_spares x y {v} {a} (alarm-sets {c} {s} o f) = inl (whole_still v.body (alarm (nat a) c s) refl)

way_spares : {v : View} {a p n : ℤ} {r : Verdict} → Way v a p n r → Spares v.body a n r
unfolding after
way_spares {v} (refused c e) = inl (whole_none v.body)
way_spares {v} (looked q) = inl (whole_none v.body)
way_spares (acted {x} {y} q f) = finds_spares x y f
way_spares {v} (waited f) = inl (whole_simple v.body of_wait)
way_spares {v} {a} (walked have q i z) = inl (whole_list v.body _ (flag_gentle v.body v.body (nat a) have (line v (waiters flag (nat a)))))
way_spares {v} {a} (granted {j} y z i e) = inl (whole_still v.body (mark (nat a) j false) refl)
way_spares {v} {a} {p} (block-freed e o l) = inl (whole_still v.body (mark (nat a) (nat p) true) refl)
way_spares {v} (handed {i} e o l) = inl (whole_gentle v.body (releases i OK _ served_whole))

-- ---- an event

-- a release changes the task that the word names, and no other
release_names : (b : Body) (a : ℤ) (c : Code) (w i : ℕ) → (a ≡ pos i) ⊎ (task (after (release (nat a) c w) b) i ≡ task b i)
unfolding after
release_names b (pos k) c w i = elim (ℕ_discrete k i) [ yes e ↦ inl (ap pos e) | no n ↦ inr (of_put_other b.tasks k i _ nobody (ne_eqb k i n)) ]
release_names b (negsuc k) c w i = inr refl

whole_only : (i : ℕ) (e : Event) (code : ℤ) (t u : Task) → Whole t u → OnlyRelWai i e code t u
whole_only i e code t u (inl n) h = absurd (n h)
whole_only i e code t u (inr k) h = inr k

-- of any verdict of a call
call_only : (b : Body) (i : ℕ) (x n a y z : ℤ) (r : Verdict) → Spares b a n r → OnlyRelWai i (call x n a y z) (number r.code) (task b i) (task (afters r.acts b) i)
call_only b i x n a y z r (inl w) = whole_only i (call x n a y z) (number r.code) (task b i) (task (afters r.acts b) i) (w i)
call_only b i x n a y z r (inr k) = rw (k.1, k.2) (λ h. go (release_names b a E-RLWAI 0 i))
  where
    go : (a ≡ pos i) ⊎ (task (after (release (nat a) E-RLWAI 0) b) i ≡ task b i)
        → BreaksOff (pos i) (call x n a y z) (number OK)
        ⊎ (((task (afters (release (nat a) E-RLWAI 0 ∷ []) b) i).cell ≡ (task b i).cell) × (is_fresh (task b i).state (task (afters (release (nat a) E-RLWAI 0 ∷ []) b) i).state ≡ false))
    go (inl e) = inl (k.0, e, unfold number in refl)
    go (inr e) = inr (unfold afters in rw e (refl, unfresh (task b i).state))

module _ (v : View) (i : ℕ) where
  acts_only : (e : Event) → OnlyRelWai i e (number (judge v e).code) (task v.body i) (task (afters (judge v e).acts v.body) i)
  unfolding judge ticked entered exited after
  acts_only enter = whole_only i enter (number (entered v).code) (task v.body i) (task (afters (entered v).acts v.body) i) (checked_acts (AllWhole v.body) _ _ _ (whole_none v.body) (λ k. whole_still v.body (nest _) refl) i)
  acts_only exit = whole_only i exit (number (exited v).code) (task v.body i) (task (afters (exited v).acts v.body) i) (checked_acts (AllWhole v.body) _ _ _ (whole_none v.body) (λ k. whole_still v.body (nest _) refl) i)
  acts_only tick = whole_only i tick (number OK) (task v.body i) (task (afters (ticked v).acts v.body) i) (whole_list v.body _ (tick_gentle v.body _) i)
  acts_only (call x n a p c) = call_only v.body i x n a p c (judge v (call x n a p c)) (way_spares (call_way v x n a p c))

-- Only an accepted rel_wai that names the task makes its cell E_RLWAI. Of any state: a damaged one is left as it was.
pub only_rel_wai : (v : View) (e : Event) (i : ℕ) → OnlyRelWai i e (number (event v e).answer.code) (task v.body i) (task (event v e).next.body i)
unfolding event guarded served next damaged answer
only_rel_wai v e i = go (sound? v)
  where
    go : (d : Dec (Sound v)) → OnlyRelWai i e (number (guarded v e d).answer.code) (task v.body i) (task (guarded v e d).next.body i)
    go (yes s) = rw (body_acts (judge v e).acts v) (acts_only v i e)
    go (no n) = whole_only i e (number (breach v).code) (task v.body i) (task v.body i) (whole_same (task v.body i))

-- No event is answered with E_RLWAI, in either kernel.
pub never_answered : (v : View) (e : Event) → (event v e).answer.code ≢ E-RLWAI
unfolding event guarded served damaged answer tells_damage
never_answered v e = go (sound? v)
  where
    go : (d : Dec (Sound v)) → (guarded v e d).answer.code ≢ E-RLWAI
    go (yes s) = judge_not_broken v e
    go (no n) = λ h. false≢true (ap tells_damage (sym h) ∙ breach_tells v)

pub plain_never_answered : (s : Plain) (e : Event) → (plain_answer s e).code ≢ E-RLWAI
unfolding plain_answer answer
plain_never_answered s e = judge_not_broken (view_of s) e

-- ---- runs

-- a cell that reads E_RLWAI is that of a task that there is
read_there : (b : Body) (a : ℤ) → (read_cell b a).code ≡ E-RLWAI → (a ≡ pos (nat a)) × (outside a (length b.tasks) ≡ false) × ((task b (nat a)).cell.code ≡ E-RLWAI) × (is_absent (task b (nat a)).state ≡ false)
unfolding read_cell
read_there b a h = go (outside a (length b.tasks)) (is_absent (task b (nat a)).state) refl refl h
  where
    named : (a : ℤ) → In (nat a) (length b.tasks) → a ≡ pos (nat a)
    named (pos k) r = refl
    named (negsuc k) r = absurd (omega (arith, r.0))

    go : (t n : Bool) → outside a (length b.tasks) ≡ t → is_absent (task b (nat a)).state ≡ n → (cond (t || n) (record { code = E-NOEXS; word = 0 }) (task b (nat a)).cell).code ≡ E-RLWAI
        → (a ≡ pos (nat a)) × (outside a (length b.tasks) ≡ false) × ((task b (nat a)).cell.code ≡ E-RLWAI) × (is_absent (task b (nat a)).state ≡ false)
    go true n e d h = absurd (let z : ◌≡◌ {A = ℕ} 0 1 = cc in omega arith)
    go false true e d h = absurd (let z : ◌≡◌ {A = ℕ} 0 1 = cc in omega arith)
    go false false e d h = (named a (in_by a _ e), e, h, d)

-- what is read by id, at one event
step : (v : View) (e : Event) (a : ℤ) → Sound v → Words e → (cell (event v e).next a).code ≡ E-RLWAI
    → BreaksOff a e (number (event v e).answer.code) ⊎ (((cell v a).code ≡ E-RLWAI) × (is_fresh (task v.body (nat a)).state (task (event v e).next.body (nat a)).state ≡ false))
unfolding read_cell
step v e a s w h =
    let r = read_there (event v e).next.body a (rw (cell_reads (event v e).next a (sound_event v e s w)) at h) in
    go r (only_rel_wai v e (nat a) r.2)
  where
    t : Task
    t = task v.body (nat a)

    u : Task
    u = task (event v e).next.body (nat a)

    go : (a ≡ pos (nat a)) × (outside a (length (event v e).next.body.tasks) ≡ false) × (u.cell.code ≡ E-RLWAI) × (is_absent u.state ≡ false)
        → BreaksOff (pos (nat a)) e (number (event v e).answer.code) ⊎ ((u.cell ≡ t.cell) × (is_fresh t.state u.state ≡ false))
        → BreaksOff a e (number (event v e).answer.code) ⊎ (((cell v a).code ≡ E-RLWAI) × (is_fresh t.state u.state ≡ false))
    go r (inl k) = inl (subst (λ (b : ℤ). BreaksOff b e (number (event v e).answer.code)) (sym r.0) k)
    go r (inr k) = inr (rw (cell_reads v a s, inside, there) (was ∙ r.2), k.1)
      where
        was : t.cell.code ≡ u.cell.code
        was = ap (λ c. c.code) (sym k.0)

        inside : outside a (length v.body.tasks) ≡ false
        inside = ap (λ (n : ℕ). outside a n) (sym (ap (λ (x : View). length x.body.tasks) (event_next v e s) ∙ tasks_next v e)) ∙ r.1

        -- one that is not there has cell 0 and 0
        there : is_absent t.state ≡ false
        there = side (is_absent t.state) refl
          where
            side : (x : Bool) → is_absent t.state ≡ x → x ≡ false
            side false d = refl
            side true d = absurd (served_whole (sym ((s.body.tasks (nat a) (in_by a _ inside)).absent d).3 ∙ was ∙ r.2))

since : (a : ℤ) (v : View) (l : List Event) → Sound v → AllWords l → (cell (states v l) a).code ≡ E-RLWAI
    → BrokenOff a v l ⊎ (((cell v a).code ≡ E-RLWAI) × NeverFresh a v l)
unfolding states
since a v [] s w h = inr (h, tt)
since a v (e ∷ l) s w h = go (since a (event v e).next l (sound_event v e s w.0) w.1 h)
  where
    at : NeverFresh a (event v e).next l
        → BreaksOff a e (number (event v e).answer.code) ⊎ (((cell v a).code ≡ E-RLWAI) × (is_fresh (task v.body (nat a)).state (task (event v e).next.body (nat a)).state ≡ false))
        → BrokenOff a v (e ∷ l) ⊎ (((cell v a).code ≡ E-RLWAI) × NeverFresh a v (e ∷ l))
    at n (inl k) = inl (inl (k, n))
    at n (inr k) = inr (k.0, (k.1, n))

    go : BrokenOff a (event v e).next l ⊎ (((cell (event v e).next a).code ≡ E-RLWAI) × NeverFresh a (event v e).next l) → BrokenOff a v (e ∷ l) ⊎ (((cell v a).code ≡ E-RLWAI) × NeverFresh a v (e ∷ l))
    go (inl k) = inl (inr k)
    go (inr k) = at k.1 (step v e a s w.0 k.0)

-- ---- and the other way round

-- a cell of a sound state that reads E_RLWAI has word 0
cell_broken : (v : View) (a : ℤ) → Sound v → (cell v a).code ≡ E-RLWAI → cell v a ≡ broken
unfolding read_cell
cell_broken v a s h =
    let r = read_there v.body a (rw (cell_reads v a s) at h) in
    cell_reads v a s ∙ rw (r.1, r.3) (go (task v.body (nat a)).cell r.2 (s.body.tasks (nat a) (in_by a _ r.1)).cell)
  where
    go : (c : Cell) → c.code ≡ E-RLWAI → CellNumbers c → c ≡ broken
    go c e (inl k) = absurd (served_whole (sym k.0 ∙ e))
    go c e (inr k) = λ z. record { code = e z; word = k.1 z }

stays_end : (a : ℤ) (v : View) (l : List Event) → StaysBroken a v l → NeverFresh a v l → (cell (states v l) a).code ≡ E-RLWAI
unfolding states
stays_end a v [] h n = ap (λ c. c.code) h
stays_end a v (e ∷ l) h n = stays_end a (event v e).next l (rw n.0 at h.1) n.1

broken_reads : (a : ℤ) (v : View) (l : List Event) → Sound v → AllWords l → BrokenOff a v l → (cell (states v l) a).code ≡ E-RLWAI
unfolding states
broken_reads a v [] s w h = absurd h
broken_reads a v (e ∷ l) s w (inr h) = broken_reads a (event v e).next l (sound_event v e s w.0) w.1 h
broken_reads a v (e ∷ l) s w (inl h) = stays_end a (event v e).next l (go e w.0 h.0) h.1
  where
    go : (e : Event) → Words e → BreaksOff a e (number (event v e).answer.code) → StaysBroken a (event v e).next l
    go tick q k = absurd k
    go enter q k = absurd k
    go exit q k = absurd k
    go (call x n b y z) q k = named n b k.0 k.1 q k.2
      where
        named : (n b : ℤ) → n ≡ pos 6 → b ≡ a → Words (call x n b y z) → number (event v (call x n b y z)).answer.code ≡ pos 0 → StaysBroken a (event v (call x n b y z)).next l
        named n b p q = rw (p, q) (λ r k. stays_broken v x a y z s r k l w.1)

-- From any sound state: a cell reads E_RLWAI behind a run exactly if some event of the run is an accepted rel_wai that names the task and no
-- event behind it releases or starts the task, or the cell read so before the run and no event of it does.
pub broken_since : (a : ℤ) (v : View) (l : List Event) → Sound v → AllWords l
    → ((cell (states v l) a).code ≡ E-RLWAI) ↔ (BrokenOff a v l ⊎ (((cell v a).code ≡ E-RLWAI) × NeverFresh a v l))
broken_since a v l s w = (since a v l s w, go)
  where
    go : BrokenOff a v l ⊎ (((cell v a).code ≡ E-RLWAI) × NeverFresh a v l) → (cell (states v l) a).code ≡ E-RLWAI
    go (inl h) = broken_reads a v l s w h
    go (inr h) = stays_end a v l (stays a v l s w (cell_broken v a s h.0)) h.1

-- ---- from the fresh start: no cell is E_RLWAI

idle_whole : (l : List Entry) (i : ℕ) → (of (map idle_task l) i nobody).cell.code ≢ E-RLWAI
idle_whole l zero = served_whole
idle_whole [] (suc i) = served_whole
idle_whole (x ∷ l) (suc zero) = served_whole
idle_whole (x ∷ l) (suc (suc i)) = idle_whole l (suc i)

abbrev NoneBroken : Body → Type 0
NoneBroken b = (i : ℕ) → (task b i).cell.code ≢ E-RLWAI

started_whole : (b : Body) (k i : ℕ) → Whole (task b i) (task (after (start k) b) i)
unfolding after
started_whole b k i = change_each Whole whole_same started k b (λ t e. inl served_whole) i

starts_whole : (k : ℕ) (l : List Entry) (b : Body) → NoneBroken b → NoneBroken (afters (starts k l) b)
unfolding starts afters
starts_whole k [] b h = h
starts_whole k (e ∷ l) b h = go e.started (starts_whole (suc k) l (after (start k) b) (λ i. one i (started_whole b k i))) (starts_whole (suc k) l b h)
  where
    one : (i : ℕ) → Whole (task b i) (task (after (start k) b) i) → (task (after (start k) b) i).cell.code ≢ E-RLWAI
    one i (inl n) = n
    one i (inr c) = λ d. h i (ap (λ c. c.code) (sym c.0) ∙ d)

    go : (t : Bool) → NoneBroken (afters (starts (suc k) l) (after (start k) b)) → NoneBroken (afters (starts (suc k) l) b)
        → NoneBroken (afters (cond t (start k ∷ starts (suc k) l) (starts (suc k) l)) b)
    go true p q = p
    go false p q = q

-- blocks that are freed change no cell
marks_whole : (p j n : ℕ) (r m : List Act) → ((b : Body) → NoneBroken b → NoneBroken (afters (r ++ m) b))
    → (b : Body) → NoneBroken b → NoneBroken (afters (map (λ k. mark p k true) (from j n) ++ r ++ m) b)
unfolding afters after
marks_whole p j zero r m g b h = g b h
marks_whole p j (suc n) r m g b h = marks_whole p (suc j) n r m g (after (mark p j true) b) h

frees_whole : (p : ℕ) (l : List ℕ) (m : List Act) → ((b : Body) → NoneBroken b → NoneBroken (afters m b)) → (b : Body) → NoneBroken b → NoneBroken (afters (frees p l ++ m) b)
unfolding frees ids
frees_whole p [] m g b h = g b h
frees_whole p (n ∷ l) m g b h = marks_whole p 1 n (frees (suc p) l) m (frees_whole (suc p) l m g) b h

fresh_whole : (u : Setup) → NoneBroken (fresh u).body
unfolding fresh idle begins
fresh_whole u i =
    rw (body_acts (begins u) (record { body = idle u; lines = tabulate (idle u).store (λ q. []) }))
    (frees_whole 1 u.pools (starts 1 u.tasks) (starts_whole 1 u.tasks) (idle u) (idle_whole u.tasks) i)

-- In a run from the fresh state a cell reads E_RLWAI exactly if some event is an accepted rel_wai that names the task, and no event behind
-- it releases or starts the task.
pub fresh_broken : (s : List ℕ) (u : Setup) (i : ℕ) → setup s ≡ got u i → (a : ℤ) (l : List Event) → AllWords l
    → ((cell (states (fresh u) l) a).code ≡ E-RLWAI) ↔ BrokenOff a (fresh u) l
fresh_broken s u i e a l w = (λ h. go (since a (fresh u) l sound w h), broken_reads a (fresh u) l sound w)
  where
    sound : Sound (fresh u)
    sound = fresh_sound s u i e

    go : BrokenOff a (fresh u) l ⊎ (((cell (fresh u) a).code ≡ E-RLWAI) × NeverFresh a (fresh u) l) → BrokenOff a (fresh u) l
    go (inl h) = h
    go (inr h) = absurd (fresh_whole u (nat a) (read_there (fresh u).body a (rw (cell_reads (fresh u) a sound) at h.0)).2)
