-- Demand 2's broken mark: after an accepted rel_wai the cell reads E_RLWAI and 0 until the task's next release, start or deletion. Assumes nothing.
use mathlib.Core.Bool.{Bool, true, false, cond, not, ◌&&◌, ◌||◌, false≢true}
use mathlib.Core.List.{List, [], ◌∷◌}
use mathlib.Core.Logic.{inl, inr, ◌≢◌}
use mathlib.Core.Option.{Option, none, some}
use mathlib.Core.Path.{◌≡◌, refl, sym, ap, ◌∙◌, subst}
use Prim.Native.Nat.{ℕ}
use native.Mathlib.Omega.{arith}
use lib.IntN.{ℤ, pos}
use lib.ListN.{length}
use borrow.Author.Tests.{not-false}
use Rattle.rules.specs.Codes.{Code, H-CALL, E-NOEXS, E-CTX, E-SELF, E-DMT, E-NOWAI, E-RLWAI, number, negative, refuses}
use Rattle.rules.specs.State.{State, Cell, Body, task, nobody, is_absent, is_waiting}
use Rattle.rules.specs.Events.{Event, call, Words, AllWords, nat, outside}
use Rattle.rules.specs.Acts.{wait, release, released_task, after, afters}
use Rattle.rules.specs.View.{View}
use Rattle.rules.specs.Verdicts.{Verdict, refuse, check}
use Rattle.rules.specs.Tasks.{rel_wai}
use Rattle.rules.specs.Rows.{rel_wai_row}
use Rattle.rules.specs.Table.{refusals, judged, table, handler, looked_up, numbered, called, judge}
use Rattle.rules.specs.Answers.{is_released, answer, read_cell}
use Rattle.rules.specs.Sound.{Sound}
use Rattle.rules.specs.Kernel.{next, served, event, cell}
use Rattle.rules.specs.Broken.{broken, is_started, is_deleted, is_fresh, Unless, StaysBroken}
use Rattle.rules.proofs.Ids.{of_put_same, length_put}
use Rattle.rules.proofs.Sizes.{sizes_afters}
use Rattle.rules.proofs.Waits.{in_by, neither}
use Rattle.rules.proofs.States.{freed_tells}
use Rattle.rules.proofs.Cells.{body_acts, Kept, nothing, one, of_wait, list_kept}
use Rattle.rules.proofs.Clean.{refused, given, waited, CleanEvent, clean_verdict, nests, judge_clean}
use Rattle.rules.proofs.Events.{event_served, event_next, cell_reads, sound_event}

-- ---- only release, sta_tsk and deletion change a cell

clean_kept : (b : Body) (r : Verdict) → CleanEvent b r → (i : ℕ) → Kept (task b i) (task (afters r.acts b) i)
unfolding after afters
clean_kept b r (clean_verdict (refused c n)) = list_kept b [] nothing
clean_kept b r (clean_verdict (given x y l g)) = list_kept b l g
clean_kept b r (clean_verdict (waited i w)) = list_kept b (wait i w ∷ []) (one of_wait)
clean_kept b r (nests h) = λ i. inl refl

-- a task whose cell an event changed was released or started by it, or is not there after, as the states before and after tell
pub cell_kept : (v : View) (e : Event) (i : ℕ) → Kept (task v.body i) (task (next v e).body i)
unfolding next
cell_kept v e i = rw (body_acts (judge v e).acts v) (clean_kept v.body (judge v e) (judge_clean v e) i)

pub tasks_next : (v : View) (e : Event) → length (next v e).body.tasks ≡ length v.body.tasks
unfolding next
tasks_next v e = rw (body_acts (judge v e).acts v) (sizes_afters (judge v e).acts v.body).tasks

-- one that was there and is not fresh is there after
still_there : (s t : State) → is_absent s ≡ false → is_fresh s t ≡ false → is_absent t ≡ false
still_there s t n h = subst (λ (x : Bool). (not x && is_absent t) ≡ false) n (neither (is_started s t) (is_deleted s t) (neither (is_released s t) _ h).1).1

-- the same of what is read by id
pub read_kept : (v : View) (e : Event) (a : ℤ) → is_absent (task v.body (nat a)).state ≡ false
    → is_fresh (task v.body (nat a)).state (task (next v e).body (nat a)).state ≡ false → read_cell (next v e).body a ≡ read_cell v.body a
unfolding read_cell
read_kept v e a n h = λ z. cond (outside a (tasks_next v e z) || (there ∙ sym n) z) (record { code = E-NOEXS; word = 0 }) (same (cell_kept v e (nat a)) z)
  where
    there : is_absent (task (next v e).body (nat a)).state ≡ false
    there = still_there (task v.body (nat a)).state (task (next v e).body (nat a)).state n h

    same : Kept (task v.body (nat a)) (task (next v e).body (nat a)) → (task (next v e).body (nat a)).cell ≡ (task v.body (nat a)).cell
    same (inl k) = k
    same (inr (inl k)) = absurd (false≢true (sym h ∙ k))
    same (inr (inr k)) = absurd (false≢true (sym there ∙ k))

-- a cell that does not read E_NOEXS is that of a task that is there
pub read_there : (b : Body) (a : ℤ) → (read_cell b a).code ≢ E-NOEXS → is_absent (task b (nat a)).state ≡ false
unfolding read_cell
read_there b a = go (outside a (length b.tasks)) (is_absent (task b (nat a)).state)
  where
    go : (o t : Bool) → (cond (o || t) (record { code = E-NOEXS; word = 0 }) (task b (nat a)).cell).code ≢ E-NOEXS → t ≡ false
    go o false h = refl
    go true true h = absurd (h refl)
    go false true h = absurd (h refl)

pub broken_read : E-RLWAI ≢ E-NOEXS
broken_read e = let z : ◌≡◌ {A = ℕ} 0 1 = cc in omega arith

-- as one that reads as broken
broken_there : (b : Body) (a : ℤ) → read_cell b a ≡ broken → is_absent (task b (nat a)).state ≡ false
broken_there b a h = read_there b a (λ e. broken_read (sym (ap (λ (c : Cell). c.code) h) ∙ e))

-- ---- over runs from any sound state

pub stays : (a : ℤ) (v : View) (l : List Event) → Sound v → AllWords l → cell v a ≡ broken → StaysBroken a v l
stays a v [] s w c = c
stays a v (e ∷ l) s w c =
    (c, go (is_fresh (task v.body (nat a)).state (task (event v e).next.body (nat a)).state) refl (stays a (event v e).next l (sound_event v e s w.0) w.1))
  where
    go : (t : Bool) → is_fresh (task v.body (nat a)).state (task (event v e).next.body (nat a)).state ≡ t → (cell (event v e).next a ≡ broken → StaysBroken a (event v e).next l)
        → Unless t (StaysBroken a (event v e).next l)
    go true f k = tt
    go false f k = k (cell_reads (event v e).next a (sound_event v e s w.0) ∙ ap (λ (x : View). read_cell x.body a) (event_next v e s)
        ∙ read_kept v e a (broken_there v.body a (sym (cell_reads v a s) ∙ c)) (rw (event_next v e s) at f) ∙ sym (cell_reads v a s) ∙ c)

-- ---- an accepted rel_wai breaks the wait

-- a refusal is not accepted
Accepts : (Verdict → Type 0) → Verdict → Type 0
Accepts P r = number r.code ≡ pos 0 → P r

module _ (P : Verdict → Type 0) where
  accepts_refuse : (c : Code) → refuses c ≡ true → Accepts P (refuse c)
  unfolding Accepts refuses
  accepts_refuse c n e = absurd (false≢true (ap negative (sym e) ∙ n))

  accepts_check : (t : Bool) (c : Code) (r : Verdict) → refuses c ≡ true → (t ≡ false → Accepts P r) → Accepts P (check t c r)
  unfolding check
  accepts_check true c r n h = accepts_refuse c n
  accepts_check false c r n h = h refl

-- the cell of task a reads as broken after the acts
Breaks : View → ℤ → Verdict → Type 0
Breaks v a r = read_cell (afters r.acts v.body) a ≡ broken

released_broken : (b : Body) (a : ℤ) → outside a (length b.tasks) ≡ false → is_waiting (task b (nat a)).state ≡ true → read_cell (after (release (nat a) E-RLWAI 0) b) a ≡ broken
unfolding read_cell after
released_broken b a o w =
    rw (length_put b.tasks (nat a) (released_task E-RLWAI 0 (task b (nat a))), o, of_put_same b.tasks (nat a) (released_task E-RLWAI 0 (task b (nat a))) nobody (in_by a _ o), w, (freed_tells (task b (nat a)).state w).3)

rel_wai_breaks : (v : View) (x a b c : ℤ) → Accepts (Breaks v a) (judge v (call x (pos 6) a b c))
unfolding judge called numbered looked_up table rel_wai_row judged refusals rel_wai Breaks afters refuses number Accepts
rel_wai_breaks v x a b c = go (handler x)
  where
    go : (h : Option Bool) → Accepts (Breaks v a) (called v h (pos 6) a b c)
    go none = accepts_refuse (Breaks v a) H-CALL refl
    go (some h) =
        accepts_check (Breaks v a) _ E-NOEXS _ refl (λ o. accepts_check (Breaks v a) _ E-CTX _ refl
        (λ p. accepts_check (Breaks v a) _ E-NOEXS _ refl (λ n. accepts_check (Breaks v a) false E-SELF _ refl (λ q. accepts_check (Breaks v a) false E-DMT _ refl
        (λ d. accepts_check (Breaks v a) _ E-NOWAI _ refl (λ w. λ k. released_broken v.body a o (not-false _ w)))))))

-- after an accepted rel_wai the cell reads E_RLWAI and 0 until the task is next released, started or deleted
pub stays_broken : (v : View) (x a b c : ℤ) → Sound v → Words (call x (pos 6) a b c) → number (event v (call x (pos 6) a b c)).answer.code ≡ pos 0
    → (l : List Event) → AllWords l → StaysBroken a (event v (call x (pos 6) a b c)).next l
unfolding next served answer Accepts Breaks
stays_broken v x a b c s w k l ws =
    let e = call x (pos 6) a b c in
    let ok : number (judge v e).code ≡ pos 0 = ap (λ o. number o.answer.code) (sym (event_served v e s)) ∙ k in
    stays a (event v e).next l (sound_event v e s w) ws
    (cell_reads (event v e).next a (sound_event v e s w) ∙ ap (λ (y : View). read_cell y.body a) (event_next v e s)
    ∙ ap (λ (y : Body). read_cell y a) (body_acts (judge v e).acts v) ∙ rel_wai_breaks v x a b c ok)
