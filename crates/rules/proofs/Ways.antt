-- The ways in which a call ends, and what it finds where it does an act. The one walk over the table: each theorem about calls follows by a
-- clause for each way. Assumes nothing; a fact that needs a sound state or 32-bit words asks for them.
use mathlib.Core.Bool.{Bool, true, false, cond, not, ◌||◌, false≢true}
use mathlib.Core.List.{List, [], ◌∷◌}
use mathlib.Core.Logic.{◌⊎◌, inl, inr, ◌≢◌}
use mathlib.Core.Option.{some}
use mathlib.Core.Path.{◌≡◌, refl, ap}
use Prim.Native.Nat.{ℕ, zero, suc, ◌^◌, ◌<◌}
use native.Mathlib.Nat.{mod-lt}
use native.Mathlib.Omega.{arith}
use lib.Bits.{bit_and, and_le_l, or_lt}
use lib.Dec.{eqb, lit<}
use lib.IntN.{ℤ, pos, negsuc}
use lib.ListN.{length}
use borrow.Author.Tests.{eqb-true, eqb-false, eq-eqb, leb-false, not-false}
use Rattle.rules.specs.Ids.{of, In}
use Rattle.rules.specs.Codes.{Code, OK, E-RLWAI}
use Rattle.rules.specs.State.{Kind, semaphore, flag, mailbox, pool, Wait, asleep, on, Setting, in_use, Body, task, nobody, objects, is_dormant, is_absent, is_ready, is_waiting, sleeps}
use Rattle.rules.specs.Places.{ready_at, waiters, mail, free_in, population, same_kind, belongs}
use Rattle.rules.specs.Events.{call, Word, nat, bits, outside, above}
use Rattle.rules.specs.Acts.{Act, wait, release, wakeups, mark, alarm, after}
use Rattle.rules.specs.View.{View, line, best}
use Rattle.rules.specs.Verdicts.{Verdict, refuse, gives, done, waits}
use Rattle.rules.specs.Tasks.{starting, rot_rdq, take_wakeup, wai_for, waking}
use Rattle.rules.specs.Objects.{to_first, count_of, sig_sem, take_sem, pattern_of, met, serve_flag, set_flg, clr_flg, take_flg, snd_msg, take_msg, blocks_of, take_blk, rel_blk}
use Rattle.rules.specs.Alarms.{alarm_at, set_alm}
use Rattle.rules.specs.Table.{table, calls_shown, caller, handles, judge}
use Rattle.rules.specs.Sound.{WishNumbers, WaitNumbers, would_serve, Unserved, Sound}
use Rattle.rules.specs.Blocks.{is_free, is}
use Rattle.rules.proofs.Ids.{tested}
use Rattle.rules.proofs.States.{there_by}
use Rattle.rules.proofs.Waits.{in_by, neither}
use Rattle.rules.proofs.Judge.{◌⊗◌, bad, AllRows, by_check, by_choose, by_first, by_count, by_call}
use Rattle.rules.proofs.Fits.{in_range_lem}
use Rattle.rules.proofs.Keeps.{Asks, Pre, Ready}
use Rattle.rules.proofs.Queues.{first_belongs, empty_belongs, none_waits, first_ready, best_ready}
use Rattle.rules.proofs.Handling.{calls_alone, caller_ready}
use Rattle.rules.proofs.Firings.{FiringAct, starts, wakes, stores}
use Rattle.rules.proofs.Cells.{Simple, of_retire, of_create, of_delete, of_rotate, of_regrade, of_suspend, of_resume, of_wakeups, of_count, of_pattern, of_post, of_receive}
use Rattle.rules.proofs.Waiters.{at_most_lem, nat_small, bits_small, asks_well, none_by, wakeups_few, stored_awake, none_free, nowhere_lies, met_less, left_unmet, left_small, counted}

-- block j of pool q is out
pub record OutBlock (b : Body) (q j : ℕ) : Type 0 where
  pub pool : In q (length b.store.pools)
  pub block : In j (length (of b.store.pools q []))
  pub out : is_free b q j ≡ false

-- the calls on blocks: get_blk, pget_blk, rel_blk
abbrev pub deals : ℤ → Bool
deals n = (is n 23 || is n 24) || is n 25

-- of call n with the words a and p
module _ (v : View) (a p : ℤ) where
  abbrev b : Body
  b = v.body

  abbrev There : Kind → Type 0
  There k = In (nat a) (objects b.store k)

  -- in a sound state and with 32-bit words the act finds what it needs, and what it names
  abbrev pub Needs : Act → Type 0
  Needs d = Sound v → Word a → Word p → Ready v.body d

  pub data Finds (n : ℤ) : Act → Type 0 where
    simple : {d : Act} → Simple d → Needs d → Finds n d
    -- a dormant task is started, a sleeper woken, a wake-up stored, as an alarm does
    rouses : {d : Act} → FiringAct v.body d → (after d v.body).counter ≡ v.body.counter → Finds n d
    -- rel_wai on a task that waits
    breaks : n ≡ pos 6 → is_waiting (task v.body (nat a)).state ≡ true → Finds n (release (nat a) E-RLWAI 0)
    -- the first in line is served, but not with a block
    serves : (k : Kind) {w i : ℕ} {m : List ℕ} → same_kind k pool ≡ false → In (nat a) (objects v.body.store k) → (Word p → w < 2 ^ 32)
        → line v (waiters k (nat a)) ≡ i ∷ m → Finds n (release i OK w)
    -- an alarm is cancelled, or it was idle
    sets : {c : Code} {s : Setting} → (is n 38 ≡ true) ⊎ (in_use (alarm_at v a).setting ≡ false) → Needs (alarm (nat a) c s) → Finds n (alarm (nat a) c s)

  pub data Way (n : ℤ) : Verdict → Type 0 where
    refused : (c : Code) → bad c ≡ true → Way n (refuse c)
    looked : {x y : ℕ} → deals n ≡ false → Way n (gives x y [])
    acted : {x y : ℕ} {d : Act} → deals n ≡ false → Finds n d → Way n (gives x y (d ∷ []))
    waited : {i : ℕ} {w : Wait} → Needs (wait i w) → Way n (waits i w)
    -- set_flg
    walked : {x : ℕ} (have : ℕ) → deals n ≡ false → In (nat a) (length v.body.store.flags) → (Sound v → Word p → have < 2 ^ 32)
        → Way n (gives x 0 (serve_flag v.body (nat a) have (line v (waiters flag (nat a)))))
    -- a block that is free is granted; one that is out is freed, or handed to the first in line
    granted : {j : ℕ} {m : List ℕ} → (is n 23 || is n 24) ≡ true → is n 25 ≡ false → In (nat a) (length v.body.store.pools) → line v (free_in (nat a)) ≡ j ∷ m
        → Way n (gives j 0 (mark (nat a) j false ∷ []))
    freed : n ≡ pos 25 → OutBlock v.body (nat a) (nat p) → line v (waiters pool (nat a)) ≡ [] → Way n (done (mark (nat a) (nat p) true ∷ []))
    handed : {i : ℕ} {m : List ℕ} → n ≡ pos 25 → OutBlock v.body (nat a) (nat p) → line v (waiters pool (nat a)) ≡ i ∷ m → Way n (done (release i OK (nat p) ∷ []))

  no_way : (n : ℤ) (c : Code) → bad c ≡ true → Way n (refuse c)
  no_way n c e = refused c e

  -- ---- rules on tasks

  module _ {n : ℤ} (q : deals n ≡ false) where
    starting_way : (i : ℕ) → Way n (starting b i)
    unfolding starting after bad
    starting_way i = by_check Way no_way _ refl (λ e. acted q (rouses (starts i (not-false _ e)) refl))

    waking_way : (i : ℕ) → is_absent (task b i).state ≡ false → is_dormant (task b i).state ≡ false → Way n (waking b i)
    unfolding waking after bad
    waking_way i x d = by_choose Way no_way (λ s. acted q (rouses (wakes i s) refl)) (λ s. by_check Way no_way _ refl (λ m. acted q (rouses (stores i x d s m) refl)))

    rotate_way : Way n (rot_rdq v a)
    unfolding rot_rdq
    rotate_way = by_first Way no_way (λ e. looked q) (λ x m e. acted q (simple of_rotate (λ s _ _. (turned s (eqb (nat a) 0) x m e, tt))))
      where
        turned : Sound v → (t : Bool) (x : ℕ) (m : List ℕ) → cond t (best v) (line v (ready_at (nat a))) ≡ x ∷ m → is_ready (task b x).state ≡ true
        turned s true x m e = best_ready v s x m e
        turned s false x m e = first_ready v s (nat a) x m e

  -- ---- the caller of a call that only a task may make

  module _ (x : Bool) (z : eqb (caller v x) 0 ≡ false) where
    abbrev me : ℕ
    me = caller v x

    mine : Sound v → In me (length b.tasks)
    mine s = tested (λ t. is_ready t.state) b.tasks me nobody refl (caller_ready v x z s)

    waits_way : {n : ℤ} (w : Wait) → (Word a → Word p → WaitNumbers b.store (some w)) → (Sound v → Unserved b.store (some w)) → (sleeps (some w) ≡ true → (task b me).wakeups ≡ 0) → Way n (waits me w)
    waits_way w f g e = waited (λ s y u. ((calls_alone v x z, (λ r. (f y u, g s, e)), caller_ready v x z s), mine s))

    -- a caller whom the object would not serve waits on it
    waits_on_way : {n : ℤ} (k : Kind) (w m : ℕ) → There k → (Word p → WishNumbers k w m) → (Sound v → would_serve b.store k (nat a) w m ≡ false) → Way n (waits me (on k (nat a) w m))
    waits_on_way k w m i f g = waits_way (on k (nat a) w m) (λ y u. (i, f u)) g (λ t. absurd (false≢true t))

    wakeup_way : {n : ℤ} (r : Verdict) → deals n ≡ false → ((task b me).wakeups ≡ 0 → Way n r) → Way n (take_wakeup v me r)
    unfolding take_wakeup
    wakeup_way r q f = by_count Way no_way f (λ k e. acted q (simple of_wakeups (λ s _ _. (stored s k e, mine s))))
      where
        stored : Sound v → (k : ℕ) → (task b me).wakeups ≡ suc k → Pre b (wakeups me k)
        stored s k e =
            let w = stored_awake b s.body me k e in
            (omega (arith, wakeups_few b s.body me), (λ t. absurd (w.0 t)), (λ t. absurd (w.1 t)), λ t. absurd (w.2 t))

    for_way : {n : ℤ} (t : ℤ) → (Word a → Word t) → (task b me).wakeups ≡ 0 → Way n (wai_for me t)
    unfolding wai_for bad
    for_way (pos zero) f e = refused _ refl
    for_way (pos (suc t)) f e = waits_way _ (λ y u. few t (f y)) (λ s. tt) (λ t. e)
      where
        few : (t : ℕ) → Word (pos (suc t)) → In (suc t) 2147483647
        few t h = (omega arith, omega arith)
    for_way (negsuc t) f e = waits_way _ (λ y u. tt) (λ s. tt) (λ t. e)

  -- ---- rules on objects

  -- who waits on the flag
  flag_asks : Sound v → (i y m : ℕ) → Asks b i flag (nat a) y m → (y ≢ 0) × (met (pattern_of v a) y m ≡ false)
  flag_asks s i y m w = let g = asks_well b s.body s.unserved i flag (nat a) y m w in (g.0.0, g.1)

  module _ {n : ℤ} (q : deals n ≡ false) where
    -- the first in line is served; else nobody stands there
    first_way : (k : Kind) (w : ℕ) (r : Verdict) → same_kind k pool ≡ false → There k → (Word p → w < 2 ^ 32) → (line v (waiters k (nat a)) ≡ [] → Way n r) → Way n (to_first v k a w r)
    unfolding to_first
    first_way k w r o i z f = by_first Way no_way f (λ x m e. acted q (serves k o i z e))

    signal_way : There semaphore → Way n (sig_sem v a)
    unfolding sig_sem bad
    signal_way i =
        first_way semaphore 0 _ refl i (λ u. lit< tt) (λ e. by_check Way no_way _ refl (λ k. acted q (simple of_count
        (λ s _ _. ((omega (arith, leb-false 65535 (count_of v a) k), inr (none_waits v s semaphore (nat a) i e)), i)))))

    semaphore_way : (r : Verdict) → There semaphore → (count_of v a ≡ 0 → Way n r) → Way n (take_sem v a r)
    unfolding take_sem
    semaphore_way r i f =
        by_count Way no_way f (λ k e. acted q (simple of_count (λ s _ _. (
          (
            omega (arith, s.body.store.semaphores (nat a) i),
            inr (none_by b s.body s.unserved semaphore (nat a) (λ y m g. omega (arith, eqb-true (count_of v a) 0 (not-false _ g)))),
          ),
          i,
        ))))

    set_way : There flag → Way n (set_flg v a p)
    unfolding set_flg
    set_way i = walked _ q i (λ s u. or_lt 32 (pattern_of v a) (bits p) (s.body.store.flags (nat a) i) (bits_small p u))

    clear_way : There flag → Way n (clr_flg v a p)
    unfolding clr_flg
    clear_way i = acted q (simple (of_pattern {n = bit_and (pattern_of v a) (bits p)}) (λ s _ _. (
      (omega (arith, and_le_l (pattern_of v a) (bits p), s.body.store.flags (nat a) i), λ j y m w. met_less (pattern_of v a) (bits p) y m (flag_asks s j y m w).1),
      i,
    )))

    flag_way : (m : ℤ) (r : Verdict) → There flag → (met (pattern_of v a) (bits p) (nat m) ≡ false → Way n r) → Way n (take_flg v a p m r)
    unfolding take_flg
    flag_way m r i f = by_choose Way no_way (λ t. acted q (simple of_pattern (λ s _ _. (
      (
        left_small (pattern_of v a) (nat m) (s.body.store.flags (nat a) i),
        λ j y k w. left_unmet (pattern_of v a) y k (nat m) (flag_asks s j y k w).0 (flag_asks s j y k w).1,
      ),
      i,
    )))) f

    send_way : There mailbox → In (nat p) (length b.store.messages) → Way n (snd_msg v a p)
    unfolding snd_msg bad
    send_way i j =
        by_check Way no_way _ refl (λ l. first_way mailbox (nat p) _ refl i (nat_small p)
        (λ e. acted q (simple of_post (λ s _ _. ((i, none_waits v s mailbox (nat a) i e), (j, l))))))

    receive_way : (r : Verdict) → There mailbox → (line v (mail (nat a)) ≡ [] → Way n r) → Way n (take_msg v a r)
    unfolding take_msg population
    receive_way r i f = by_first Way no_way f (λ x m e. acted q (simple of_receive (λ s _ _. (tt, in_range_lem b (mail (nat a)) x (first_belongs v s (mail (nat a)) i x m e)))))

  -- ---- rules on alarms

  some_size : In (nat a) (length b.counter.alarms) → Sound v → 0 < b.counter.size
  some_size i s = counted b.counter.size (length b.counter.alarms) (nat a) s.body.counter.count i

  set_alarm_way : {n : ℤ} → deals n ≡ false → In (nat a) (length b.counter.alarms) → (e : ℕ) (c : ℤ) → (Sound v → e < b.counter.size) → above c b.counter.size ≡ false → Way n (set_alm v a e c)
  unfolding set_alm bad
  set_alarm_way q i e c l h = by_check Way no_way _ refl (λ u. acted q (sets (inr u) (λ s _ _. (((s.body.counter.alarms (nat a) i).kept, (l s, at_most_lem c _ h)), i))))

  -- ---- rules on blocks

  block_way : {n : ℤ} (r : Verdict) → (is n 23 || is n 24) ≡ true → is n 25 ≡ false → There pool → (line v (free_in (nat a)) ≡ [] → Way n r) → Way n (take_blk v a r)
  unfolding take_blk
  block_way r y z i f = by_first Way no_way f (λ k m e. granted y z i e)

  return_way : There pool → Way (pos 25) (rel_blk v a p)
  unfolding rel_blk to_first bad
  return_way i = by_check Way no_way _ refl (λ e.
      let o = neither (outside p (length (blocks_of v a))) (of (blocks_of v a) (nat p) true) e in
      let k : OutBlock b (nat a) (nat p) = record { pool = i; block = in_by p _ o.0; out = o.1 } in
      by_first Way no_way (freed refl k) (λ x m w. handed refl k w))

  -- ---- what would not serve the caller

  no_message : There mailbox → line v (mail (nat a)) ≡ [] → Sound v → would_serve b.store mailbox (nat a) 0 0 ≡ false
  unfolding belongs
  no_message i e s = nowhere_lies b.store.messages (nat a) (empty_belongs v s (mail (nat a)) i e)

  no_block : There pool → line v (free_in (nat a)) ≡ [] → Sound v → would_serve b.store pool (nat a) 0 0 ≡ false
  unfolding belongs
  no_block i e s = ap not (eq-eqb _ 0 (none_free (blocks_of v a) (empty_belongs v s (free_in (nat a)) i e)))

  -- ---- the table

  module _ (x : Bool) (c : ℤ) where
    here : (k : Kind) → outside a (objects b.store k) ≡ false → There k
    here k e = in_by a (objects b.store k) e

    whom : outside a (length b.tasks) ≡ false → In (nat a) (length b.tasks)
    whom e = in_by a (length b.tasks) e

    -- what a waiter on a flag may ask for
    wish_well : eqb (bits p) 0 ≡ false → above c 3 ≡ false → Word p → WishNumbers flag (bits p) (nat c)
    wish_well z m u = (eqb-false (bits p) 0 z, bits_small p u, at_most_lem c 3 m)

    rows : AllRows Way v (handles v x) (caller v x) 1 (table v (caller v x) a p c)
    unfolding calls_shown bad
    rows =
        (λ t. starting_way refl (nat a))
        ⊗ (λ t. acted refl (simple of_retire (λ s _ _. ((calls_alone v x t.context, there_by is_ready refl (task b (caller v x)).state (caller_ready v x t.context s)), mine x t.context s))))
        ⊗ (λ t. acted refl (simple of_retire (λ s _ _. ((calls_alone v x t.context, t.there), whom t.words.0))))
        ⊗ (λ t. acted refl (simple of_regrade (λ s _ _. ((in_by p _ t.words.1.0, t.dormant, t.there), whom t.words.0))))
        ⊗ (λ t. rotate_way refl)
        ⊗ (λ t. by_check Way no_way _ refl (λ e. acted refl (breaks refl (not-false _ e))))
        ⊗ (λ t. by_check Way no_way _ refl (λ e. acted refl (simple of_suspend (λ s _ _. (tt, whom t.words.0)))))
        ⊗ (λ t. by_check Way no_way _ refl (λ e. acted refl (simple of_resume (λ s _ _. (tt, whom t.words.0)))))
        ⊗ (λ t. wakeup_way x t.context _ refl (λ e. waits_way x t.context asleep (λ y u. tt) (λ s. tt) (λ _. e)))
        ⊗ (λ t. wakeup_way x t.context _ refl (for_way x t.context a (λ u. u)))
        ⊗ (λ t. waking_way refl (nat a) t.there t.dormant)
        ⊗ (λ t. acted refl (simple of_wakeups (λ s _ _. ((omega arith, (λ e. refl), (λ e. refl), λ e. refl), whom t.words.0))))
        ⊗ (λ t. signal_way refl (here semaphore t.words.0))
        ⊗ (λ t. semaphore_way refl _ (here semaphore t.words.0) (λ e. waits_on_way x t.context semaphore 0 0 (here semaphore t.words.0) (λ u. (refl, refl)) (λ s. ap not (eq-eqb _ 0 e))))
        ⊗ (λ t. semaphore_way refl _ (here semaphore t.words.0) (λ e. refused _ refl))
        ⊗ (λ t. set_way refl (here flag t.words.0))
        ⊗ (λ t. clear_way refl (here flag t.words.0))
        ⊗ (λ t. flag_way refl c _ (here flag t.words.0) (λ e. waits_on_way x t.context flag (bits p) (nat c) (here flag t.words.0) (wish_well t.words.1.0 t.words.1.1.0) (λ s. e)))
        ⊗ (λ t. flag_way refl c _ (here flag t.words.0) (λ e. refused _ refl))
        ⊗ (λ t. send_way refl (here mailbox t.words.0) (in_by p _ t.words.1.0))
        ⊗ (λ t. receive_way refl _ (here mailbox t.words.0) (λ e. waits_on_way x t.context mailbox 0 0 (here mailbox t.words.0) (λ u. (refl, refl)) (no_message (here mailbox t.words.0) e)))
        ⊗ (λ t. receive_way refl _ (here mailbox t.words.0) (λ e. refused _ refl))
        ⊗ (λ t. block_way _ refl refl (here pool t.words.0) (λ e. waits_on_way x t.context pool 0 0 (here pool t.words.0) (λ u. (refl, refl)) (no_block (here pool t.words.0) e)))
        ⊗ (λ t. block_way _ refl refl (here pool t.words.0) (λ e. refused _ refl))
        ⊗ (λ t. return_way (here pool t.words.0))
        ⊗ (λ t. looked refl)
        ⊗ (λ t. looked refl)
        ⊗ (λ t. looked refl)
        ⊗ (λ t. looked refl)
        ⊗ (λ t. looked refl)
        ⊗ (λ t. looked refl)
        ⊗ (λ t. looked refl)
        ⊗ (λ t. by_check Way no_way _ refl (λ e. acted refl (simple of_create (λ s _ _. ((calls_alone v x t.context, in_by p _ t.words.1.0), whom t.words.0)))))
        ⊗ (λ t. by_check Way no_way _ refl (λ e. acted refl (simple of_delete (λ s _ _. (calls_alone v x t.context, whom t.words.0)))))
        ⊗ (λ t. acted refl (simple of_delete (λ s _ _. (calls_alone v x t.context, mine x t.context s))))
        ⊗ (λ t. set_alarm_way refl (in_by a _ t.words.0) _ c (λ s. mod-lt _ (some_size (in_by a _ t.words.0) s)) t.words.1.1.0)
        ⊗ (λ t. set_alarm_way refl (in_by a _ t.words.0) _ c (λ s. mod-lt _ (some_size (in_by a _ t.words.0) s)) t.words.1.1.0)
        ⊗ (λ t. by_check Way no_way _ refl (λ e. acted refl (sets (inl refl) (λ s _ _. (((s.body.counter.alarms (nat a) (in_by a _ t.words.0)).kept, tt), in_by a _ t.words.0)))))
        ⊗ (λ t. looked refl)
        ⊗ tt

pub call_way : (v : View) (x n a p c : ℤ) → Way v a p n (judge v (call x n a p c))
call_way v x n a p c = by_call (Way v a p) (no_way v a p) v a p c (λ h. rows v a p h c) x n
