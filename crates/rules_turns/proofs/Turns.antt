-- The last in line gets served: an accepted call that gives to an object releases the first in its line, whoever keeps waiting never falls
-- back (Ahead.antt), and so with each such call it comes forward. Proved once over the kind. Assumes nothing.
use mathlib.Core.Bool.{Bool, true, false, false≢true}
use mathlib.Core.List.{List, [], ◌∷◌}
use mathlib.Core.Option.{Option, none, some}
use mathlib.Core.Path.{◌≡◌, refl, sym, ap, ◌∙◌, subst}
use Prim.Native.Nat.{ℕ, suc, ◌+◌, ◌≤◌}
use native.Mathlib.Omega.{arith}
use lib.Dec.{eqb}
use lib.IntN.{ℤ, pos, negsuc}
use lib.ListN.{length}
use borrow.Author.Tests.{eqb-true, le-leb}
use Rattle.rules.specs.Ids.{In, once, times}
use Rattle.rules.specs.Codes.{Code, OK, H-CALL, H-MSG, H-ILBLK, number}
use Rattle.rules.specs.State.{Kind, semaphore, flag, mailbox, pool, task, nobody, objects, wait_of, is_waiting}
use Rattle.rules.specs.Places.{waiters, belongs, awaits}
use Rattle.rules.specs.Events.{Event, tick, enter, exit, call, Words, AllWords, nat, outside}
use Rattle.rules.specs.Acts.{Act, release, released_task, after}
use Rattle.rules.specs.View.{View, line, act, acts}
use Rattle.rules.specs.Verdicts.{Verdict, refuse, on_first}
use Rattle.rules.specs.Objects.{to_first, sig_sem, snd_msg, rel_blk}
use Rattle.rules.specs.Rows.{sig_sem_row, snd_msg_row, rel_blk_row}
use Rattle.rules.specs.Table.{table, handler, caller, handles, looked_up, entry, numbered, called, judge}
use Rattle.rules.specs.Answers.{answer, read_cell}
use Rattle.rules.specs.Sound.{WaitNumbers, Sound}
use Rattle.rules.specs.Kernel.{fresh, next, served, event, cell}
use Rattle.rules.specs.Runs.{states}
use Rattle.rules.specs.Blocks.{is, ok}
use Rattle.rules.specs.Ahead.{waits_at, ahead}
use Rattle.rules_turns.specs.Turns.{is_giver, gave, gift, served_cell, gifts, Whether, Leaves, InTurn, EveryTurn}
use Rattle.rules.proofs.Ids.{of_put_same, of_put_other, length_put, tested}
use Rattle.rules.proofs.Waits.{both_true, waits_asks}
use Rattle.rules.proofs.States.{freed_tells}
use Rattle.rules.proofs.Judge.{bad, bad_not_ok, by_check, by_row}
use Rattle.rules.proofs.Queues.{first_belongs, body_act}
use Rattle.rules.proofs.Events.{event_served, event_next, cell_reads, sound_event, sound_states, fresh_sound}
use Rattle.rules.proofs.Ahead.{awaits_waits, Lined, stands, first_released, next_ahead}

-- ---- what an accepted call that gives does

-- if the verdict accepts, the first in line is released with the word y, and that is all
Serves : View → Kind → ℤ → ℕ → Verdict → Type 0
Serves v k a y r = ok r.code ≡ true → (x : ℕ) (m : List ℕ) → line v (waiters k (nat a)) ≡ x ∷ m → r.acts ≡ release x OK y ∷ []

module _ (v : View) (k : Kind) (a : ℤ) (y : ℕ) where
  abbrev P : ℤ → Verdict → Type 0
  P n r = Serves v k a y r

  refused_serves : (n : ℤ) (c : Code) → bad c ≡ true → P n (refuse c)
  unfolding Serves
  refused_serves n c b e = absurd (false≢true (sym (bad_not_ok c b) ∙ e))

  first_serves : (r : Verdict) → Serves v k a y (to_first v k a y r)
  unfolding Serves to_first on_first
  first_serves r t x m e = rw e refl

  -- whoever calls, it is enough to look at the row
  called_serves : (x b c : ℤ) (n : ℕ) → ((h : Bool) (me : ℕ) → Serves v k a y (looked_up v h me (entry (table v me a b c) n))) → Serves v k a y (judge v (call x (pos (suc n)) a b c))
  unfolding judge called numbered bad
  called_serves x b c n g = go (handler x)
    where
      go : (h : Option Bool) → Serves v k a y (called v h (pos (suc n)) a b c)
      go none = refused_serves (pos 0) H-CALL refl
      go (some h) = g (handles v h) (caller v h)

module _ (v : View) (x a b c : ℤ) where
  sig_serves : Serves v semaphore a 0 (judge v (call x (pos 13) a b c))
  unfolding looked_up table sig_sem_row sig_sem bad
  sig_serves =
      called_serves v semaphore a 0 x b c 12
      (λ h me. by_row (P v semaphore a 0) (refused_serves v semaphore a 0) v h me 13 _ refl (λ t. first_serves v semaphore a 0 _))

  snd_serves : Serves v mailbox a (nat b) (judge v (call x (pos 20) a b c))
  unfolding looked_up table snd_msg_row snd_msg bad
  snd_serves =
      called_serves v mailbox a (nat b) x b c 19
      (λ h me. by_row (P v mailbox a (nat b)) (refused_serves v mailbox a (nat b)) v h me 20 _ refl
      (λ t. by_check (P v mailbox a (nat b)) (refused_serves v mailbox a (nat b)) {n = pos 20} H-MSG refl (λ e. first_serves v mailbox a (nat b) _)))

  rel_serves : Serves v pool a (nat b) (judge v (call x (pos 25) a b c))
  unfolding looked_up table rel_blk_row rel_blk bad
  rel_serves =
      called_serves v pool a (nat b) x b c 24
      (λ h me. by_row (P v pool a (nat b)) (refused_serves v pool a (nat b)) v h me 25 _ refl
      (λ t. by_check (P v pool a (nat b)) (refused_serves v pool a (nat b)) {n = pos 25} H-ILBLK refl (λ e. first_serves v pool a (nat b) _)))

  called_by : (n : ℤ) (m : ℕ) (P : ℤ → Type 0) → is n m ≡ true → P (pos m) → P n
  called_by (pos l) m P e h = subst (λ (j : ℕ). P (pos j)) (sym (eqb-true l m e)) h
  called_by (negsuc l) m P e h = absurd (false≢true e)

  giver_serves : (k : Kind) (n : ℤ) → is_giver k n ≡ true → Serves v k a (gift k (call x n a b c)) (judge v (call x n a b c))
  giver_serves semaphore n g = called_by n 13 (λ i. Serves v semaphore a 0 (judge v (call x i a b c))) g sig_serves
  giver_serves flag n g = absurd (false≢true g)
  giver_serves mailbox n g = called_by n 20 (λ i. Serves v mailbox a (nat b) (judge v (call x i a b c))) g snd_serves
  giver_serves pool n g = called_by n 25 (λ i. Serves v pool a (nat b) (judge v (call x i a b c))) g rel_serves

-- ---- an event, seen by task i, which waits on object o of kind k

module _ (k : Kind) (o i : ℕ) (v : View) (s : Sound v) (w : waits_at v k o i ≡ true) where
  here : In i (length v.body.tasks)
  here = tested (λ t. awaits t.state k o) v.body.tasks i nobody refl w

  lined : Lined k o i v
  lined = record { there = there; queue = s.queues (waiters k o) there }
    where
      there : In o (objects v.body.store k)
      there = (subst (WaitNumbers v.body.store) (waits_asks (wait_of (task v.body i).state) k o w).2 (s.body.tasks i here).wait).0

  gives_first : (e : Event) → gave k o e (number (judge v e).code) ≡ true → (y : ℕ) (m : List ℕ) → line v (waiters k o) ≡ y ∷ m → (judge v e).acts ≡ release y OK (gift k e) ∷ []
  unfolding Serves ok
  gives_first tick g y m d = absurd (false≢true g)
  gives_first enter g y m d = absurd (false≢true g)
  gives_first exit g y m d = absurd (false≢true g)
  gives_first (call x n a b c) g y m d =
      let p = both_true _ _ g in
      let q = both_true _ _ p.1 in
      giver_serves v x a b c k n p.0 q.0 y m (ap (λ (z : ℕ). line v (waiters k z)) (eqb-true (nat a) o q.1) ∙ d)

  -- somebody stands first in the line, for i stands in it
  record First (e : Event) : Type 0 where
    id : ℕ
    rest : List ℕ
    stands_first : line v (waiters k o) ≡ id ∷ rest
    released : (judge v e).acts ≡ release id OK (gift k e) ∷ []

  first_of : (e : Event) → gave k o e (number (judge v e).code) ≡ true → First e
  unfolding times
  first_of e g = go (line v (waiters k o)) refl
    where
      go : (l : List ℕ) → line v (waiters k o) ≡ l → First e
      go [] d = absurd (subst (λ (l : List ℕ). times i l ≡ 0 → ⊥) d (stands k o i v lined w) refl)
      go (y ∷ m) d = record { id = y; rest = m; stands_first = d; released = gives_first e g y m d }

  next_first : (e : Event) (r : First e) → next v e ≡ act (release r.id OK (gift k e)) v
  unfolding next acts
  next_first e r = ap (λ (l : List Act). acts l v) r.released

  first_waits : (e : Event) (r : First e) → is_waiting (task v.body r.id).state ≡ true
  unfolding belongs
  first_waits e r = awaits_waits (task v.body r.id).state k o (first_belongs v s (waiters k o) lined.there r.id r.rest r.stands_first)

  -- whoever keeps waiting comes forward with each such call, and never falls back
  forward : (e : Event) → Words e → waits_at (next v e) k o i ≡ true → ahead (next v e) k o i + once (gave k o e (number (judge v e).code)) ≤ ahead v k o i
  forward e n u = go (gave k o e (number (judge v e).code)) refl
    where
      one_less : (r : First e) → suc (ahead (next v e) k o i) ≤ ahead v k o i
      one_less r =
          rw (next_first e r) (first_released k o i v lined r.id r.rest r.stands_first (first_waits e r) OK (gift k e) w
          (rw (next_first e r, body_act (release r.id OK (gift k e)) v) at u))

      go : (t : Bool) → gave k o e (number (judge v e).code) ≡ t → ahead (next v e) k o i + once t ≤ ahead v k o i
      go true g = omega (arith, one_less (first_of e g))
      go false g = omega (arith, next_ahead k o i v lined w s e n u)

  -- ---- the cell of the one served

  others_wait : (y : ℕ) (c : Code) (z : ℕ) → eqb y i ≡ false → awaits (task (after (release y c z) v.body) i).state k o ≡ true
  unfolding after
  others_wait y c z e = rw (of_put_other v.body.tasks y i (released_task c z (task v.body y)) nobody e) w

  in_not_outside : outside (pos i) (length v.body.tasks) ≡ false
  in_not_outside = rw (le-leb 1 i here.0, le-leb i (length v.body.tasks) here.1) refl

  released_reads : (c : Code) (z : ℕ) → read_cell (after (release i c z) v.body) (pos i) ≡ record { code = c; word = z }
  unfolding read_cell after
  released_reads c z =
      let a = awaits_waits (task v.body i).state k o w in
      rw (
        length_put v.body.tasks i (released_task c z (task v.body i)),
        in_not_outside,
        of_put_same v.body.tasks i (released_task c z (task v.body i)) nobody here,
        a,
        (freed_tells (task v.body i).state a).3,
      )

  cell_served : (e : Event) → waits_at (next v e) k o i ≡ false → gave k o e (number (judge v e).code) ≡ true → read_cell (next v e).body (pos i) ≡ served_cell k e
  cell_served e u g = go (first_of e g)
    where
      go : First e → read_cell (next v e).body (pos i) ≡ served_cell k e
      go r = rw (next_first e r, body_act (release r.id OK (gift k e)) v) (same (eqb r.id i) refl)
        where
          gone : awaits (task (after (release r.id OK (gift k e)) v.body) i).state k o ≡ false
          gone = rw (next_first e r, body_act (release r.id OK (gift k e)) v) at u

          same : (t : Bool) → eqb r.id i ≡ t → read_cell (after (release r.id OK (gift k e)) v.body) (pos i) ≡ served_cell k e
          same true d = rw (eqb-true r.id i d) (released_reads OK (gift k e))
          same false d = absurd (false≢true (sym gone ∙ others_wait r.id OK (gift k e) d))

-- ---- an event of a run

module _ (k : Kind) (o i : ℕ) (v : View) (e : Event) (s : Sound v) (n : Words e) (w : waits_at v k o i ≡ true) where
  pub event_forward : waits_at (event v e).next k o i ≡ true → ahead (event v e).next k o i + once (gave k o e (number (event v e).answer.code)) ≤ ahead v k o i
  unfolding served answer
  event_forward u = rw (event_served v e s) (forward k o i v s w e n (rw (event_served v e s) at u))

  -- whom an accepted call that gives lets go reads 0 and what was given
  pub event_cell : waits_at (event v e).next k o i ≡ false → gave k o e (number (event v e).answer.code) ≡ true → cell (event v e).next (pos i) ≡ served_cell k e
  unfolding served answer
  event_cell u g =
      cell_reads (event v e).next (pos i) (sound_event v e s n) ∙ ap (λ (y : View). read_cell y.body (pos i)) (event_next v e s)
      ∙ cell_served k o i v s w e (rw (event_next v e s) at u) (rw (event_served v e s) at g)

-- ---- over runs from any sound state

pub in_turn_lem : (v : View) (l : List Event) → Sound v → AllWords l → InTurn v l
in_turn_lem v [] s ws k o i w h = absurd (omega (arith, h))
in_turn_lem v (e ∷ l) s ws k o i w h = go (waits_at (event v e).next k o i) refl (in_turn_lem (event v e).next l (sound_event v e s ws.0) ws.1 k o i)
  where
    go : (t : Bool) → waits_at (event v e).next k o i ≡ t
        → (waits_at (event v e).next k o i ≡ true → suc (ahead (event v e).next k o i) ≤ gifts k o (event v e).next l → Leaves k o i (event v e).next l)
        → Whether t (Leaves k o i (event v e).next l) (gave k o e (number (event v e).answer.code) ≡ true → cell (event v e).next (pos i) ≡ served_cell k e)
    go true u rest = rest u (omega (arith, h, event_forward k o i v e s ws.0 w u))
    go false u rest = event_cell k o i v e s ws.0 w u

-- so from every state that a run from a fresh start reaches
pub last_in_line : EveryTurn
last_in_line s u n e past wp l wl = in_turn_lem (states (fresh u) past) l (sound_states (fresh u) past (fresh_sound s u n e) wp) wl
