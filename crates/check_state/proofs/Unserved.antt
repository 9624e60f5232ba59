-- The tests that nothing would serve a waiter decide that rule, once the numbers lie in their ranges and the messages' queues are whole. Assumes nothing.
use mathlib.Core.Bool.{Bool, true, false, cond, not, ◌||◌}
use mathlib.Core.List.{List, [], ◌∷◌}
use mathlib.Core.Logic.{◌↔◌}
use mathlib.Core.Option.{Option, none, some}
use mathlib.Core.Path.{◌≡◌, refl, sym, ap, ◌∙◌, subst}
use Prim.Native.Nat.{ℕ, zero, suc, ◌/◌, ◌%◌, ◌^◌}
use native.Mathlib.Nat.{pow-succ', div-div-eq-div-mul}
use native.Mathlib.Omega.{arith}
use lib.Dec.{eqb}
use lib.ListN.{length}
use borrow.Author.Tests.{eqb-true, eqb-false, eq-eqb, le-leb}
use Rattle.rules.specs.Ids.{of, In, once, times}
use Rattle.rules.specs.State.{Kind, semaphore, flag, mailbox, pool, Wait, asleep, timed, on, Store, wait_of}
use Rattle.rules.specs.Places.{Place, mail, many as many_at, lies, belongs, population}
use Rattle.rules.specs.Objects.{met, free}
use Rattle.rules.specs.Sound.{WaitNumbers, any_lies, would_serve, Unserved, Queue}
use Rattle.rules.proofs.Ids.{of_ids, length_ids}
use Rattle.rules.proofs.Waits.{neither}
use Rattle.memory_rings.specs.Links.{first_of}
use Rattle.memory_rings.specs.Rings.{head_of, line_of}
use Rattle.memory_rings.proofs.Laws.{first_law}
use Rattle.memory_columns.specs.declared.Rings.TheVariants.{Messages}
use Rattle.memory_columns.specs.Layout as Layout
use Rattle.memory_columns.specs.Layout.{state_words, max_objects, max_blocks, words, entry}
use Rattle.memory_queues.specs.Moves.{mail_anchor}
use Rattle.memory_picture.specs.Picture.{wait_shown, state_shown, task_shown, bits_of, pool_shown, tasks_shown, messages_shown, store_shown, body_shown, kind_number, anchor, line_shown, WholeRings}
use Rattle.memory_picture.proofs.Done.{used_at}
use Rattle.check_ranges.specs.Ranges.{every, many}
use Rattle.check_state.specs.Unserved.{wait_free, wait_free_at, unserved_ok}
use Rattle.check_ranges.proofs.Decisions.{Decides, decides_as, decides_yes, decides_eq, decides_not, decides_every}
use Rattle.memory_picture.proofs.Cases.{asked, kind_cases, status_cases}
use Rattle.check_ranges.proofs.Ranges.{many_of, objects_shown, Ranges}
use Rattle.check_queues.proofs.Homes.{Keeps}
use Rattle.check_queues.proofs.Standing.{InRings, objects_few}

decides_not_not : (t : Bool) → Decides t (not t ≡ false)
decides_not_not true = ((λ e. refl), (λ e. refl))
decides_not_not false = ((λ e. sym e), (λ e. sym e))

-- ---- blocks

-- no bit of the mask is set just where no block is free
bits_free : (k m : ℕ) → m / 2 ^ k ≡ 0 → (m ≡ 0) ↔ (free (bits_of k m) ≡ 0)
unfolding bits_of
bits_free zero m h = ((λ e. refl), (λ e. omega arith))
bits_free (suc k) m h = go (eqb (m % 2) 1) refl (bits_free k (m / 2) (div-div-eq-div-mul m 2 (2 ^ k) ∙ ap (λ (x : ℕ). m / x) (sym (pow-succ' 2 k)) ∙ h))
  where
    go : (t : Bool) → eqb (m % 2) 1 ≡ t → ((m / 2 ≡ 0) ↔ (free (bits_of k (m / 2)) ≡ 0)) → (m ≡ 0) ↔ (free (t ∷ bits_of k (m / 2)) ≡ 0)
    go true e r = let o : m % 2 ≡ 1 = eqb-true (m % 2) 1 e in ((λ z. absurd (omega arith)), (λ z. absurd (omega arith)))
    go false e r = let o = eqb-false (m % 2) 1 e in ((λ z. r.0 (omega arith)), (λ z. let y : m / 2 ≡ 0 = r.1 z in omega arith))

pool_free : (k m : ℕ) → In (length (pool_shown k m)) max_blocks → (m ≡ 0) ↔ (free (pool_shown k m) ≡ 0)
unfolding pool_shown
pool_free k m = go (eqb (m / 2 ^ k) 0) refl
  where
    go : (t : Bool) → eqb (m / 2 ^ k) 0 ≡ t → In (length (cond t (bits_of k m) [])) max_blocks → (m ≡ 0) ↔ (free (cond t (bits_of k m) []) ≡ 0)
    go true e h = bits_free k m (eqb-true (m / 2 ^ k) 0 e)
    go false e h = absurd (omega (arith, h.0))

-- ---- messages

-- no message of the table lies in mailbox m
nowhere : (l : List (Option ℕ)) (m : ℕ) → (any_lies l m ≡ false) ↔ ((j : ℕ) → In j (length l) → lies (of l j none) m ≡ false)
nowhere l m = (to l, fro l)
  where
    to : (l : List (Option ℕ)) → any_lies l m ≡ false → (j : ℕ) → In j (length l) → lies (of l j none) m ≡ false
    to l e zero h = refl
    to [] e (suc j) h = refl
    to (x ∷ l) e (suc zero) h = (neither (lies x m) (any_lies l m) e).0
    to (x ∷ l) e (suc (suc j)) h = to l (neither (lies x m) (any_lies l m) e).1 (suc j) (omega (arith, h.0), omega (arith, h.1))

    fro : (l : List (Option ℕ)) → ((j : ℕ) → In j (length l) → lies (of l j none) m ≡ false) → any_lies l m ≡ false
    fro [] f = refl
    fro (x ∷ l) f = rw (f 1 (omega arith, omega arith)) (fro l (λ j h. back j h))
      where
        back : (j : ℕ) → In j (length l) → lies (of l j none) m ≡ false
        back zero h = refl
        back (suc j) h = f (suc (suc j)) (omega arith, omega (arith, h.1))

once_false : (t : Bool) → 0 ≡ once t → t ≡ false
once_false true e = absurd (omega arith)
once_false false e = refl

-- a line is empty just where nobody belongs to it
none_belongs : (n : ℕ) (f : ℕ → Bool) (l : List ℕ) → Keeps n f l → (head_of l 0 ≡ 0) ↔ ((j : ℕ) → In j n → f j ≡ false)
unfolding times
none_belongs n f [] k = ((λ e j h. once_false (f j) (k.1 j h)), (λ g. refl))
none_belongs n f (x ∷ l) k = ((λ e. absurd (omega (arith, k.0.0.0))), (λ g. absurd (omega (arith, k.1 x k.0.0, ap once (g x k.0.0), ap once (eq-eqb x x refl)))))

-- ---- objects

module _ (b msgs : List ℕ) (R : Ranges b msgs) where
  pub semaphore_law : (o : ℕ) → In o (many b Layout.semaphores) → Decides (eqb (entry Layout.semaphore b o) 0) (not (eqb (of (store_shown b msgs).semaphores o 0) 0) ≡ false)
  unfolding store_shown
  semaphore_law o h = rw (of_ids (entry Layout.semaphore b) (many b Layout.semaphores) o 0 h) (decides_not_not _)

  pub flag_law : (o p m : ℕ) → In o (many b Layout.flags) → Decides (not (met (entry Layout.flag b o) p m)) (met (of (store_shown b msgs).flags o 0) p m ≡ false)
  unfolding store_shown
  flag_law o p m h = rw (of_ids (entry Layout.flag b) (many b Layout.flags) o 0 h) (decides_not _)

  pub pool_law : (o : ℕ) → In o (many b Layout.pools) → Decides (eqb (entry Layout.free b o) 0) (not (eqb (free (of (store_shown b msgs).pools o [])) 0) ≡ false)
  unfolding store_shown
  pool_law o h = decides_as (decides_eq (entry Layout.free b o) 0) (λ e. (decides_not_not _).0 (eq-eqb _ 0 (same.0 e))) (λ e. same.1 (eqb-true _ 0 ((decides_not_not _).1 e)))
    where
      at : of (store_shown b msgs).pools o [] ≡ pool_shown (entry Layout.size b o) (entry Layout.free b o)
      at = of_ids (λ p. pool_shown (entry Layout.size b p) (entry Layout.free b p)) (many b Layout.pools) o [] h

      same : (entry Layout.free b o ≡ 0) ↔ (free (of (store_shown b msgs).pools o []) ≡ 0)
      same = rw at (pool_free (entry Layout.size b o) (entry Layout.free b o) (subst (λ (l : List Bool). In (length l) max_blocks) at (R.store.pools o (subst (In o) (sym (length_ids _ _)) h))))

-- ---- a waiter: P says of a wait that nothing would serve it

module _ (b msgs : List ℕ) (R : Ranges b msgs) (P : Option Wait → Type 0) (none_waits : P none) (sleeper : P (some asleep)) (ticking : (t : ℕ) → P (some (timed t)))
    (object : (c : Kind) (n o p m : ℕ) → n ≡ kind_number c → In o (many_of b c) → Decides (wait_free b n o p m) (P (some (on c o (asked c p) (asked c m))))) where
  abbrev u : Store
  u = store_shown b msgs

  wait_law : (k o p m t : ℕ) → WaitNumbers u (some (wait_shown k o p m t)) → Decides (wait_free b k o p m) (P (some (wait_shown k o p m t)))
  unfolding wait_free
  wait_law k o p m t = kind_cases k o p m t (λ w. WaitNumbers u (some w) → Decides (wait_free b k o p m) (P (some w)))
      (λ e h. rw e (decides_yes sleeper)) (λ e h. rw e (decides_yes (ticking t))) (λ c e h. object c k o p m e (subst (In o) (objects_shown b msgs c) h.0)) (λ h. absurd (omega (arith, h.0)))

  state_law : (s : ℕ) (w : Wait) (t : Bool) → (WaitNumbers u (some w) → Decides t (P (some w))) → WaitNumbers u (wait_of (state_shown s w))
      → Decides (cond (eqb s 3 || eqb s 5) t true) (P (wait_of (state_shown s w)))
  state_law s w t f = status_cases s w (λ x. WaitNumbers u (wait_of x) → Decides (cond (eqb s 3 || eqb s 5) t true) (P (wait_of x)))
      (λ e h. rw e (decides_yes none_waits)) (λ e h. rw e (decides_yes none_waits)) (λ e h. rw e (f h)) (λ e h. rw e (decides_yes none_waits)) (λ e h. rw e (f h)) (λ e h. rw e (decides_yes none_waits)) (λ h. absurd (omega (arith, h.0)))

  pub waiter_law : (i : ℕ) → In i (tasks_shown b) → Decides (unserved_ok b i) (P (wait_of (task_shown b i).state))
  unfolding unserved_ok task_shown
  waiter_law i h = state_law (entry Layout.status b i) _ (wait_free_at b i) (wait_law _ _ _ _ _) (R.tasks i h).wait

-- ---- all waiters

module _ (b msgs : List ℕ) (size : length b ≡ state_words) (R : Ranges b msgs)
    (M : WholeRings b msgs Messages) (K : (q : Place) → InRings (store_shown b msgs) Messages q → Queue (body_shown b msgs) q (line_shown b q)) where
  mailbox_law : (o : ℕ) → In o (many b Layout.mailboxes) → Decides (eqb (first_of (words Layout.mail_next b) (mail_anchor o)) 0) (any_lies (store_shown b msgs).messages o ≡ false)
  unfolding store_shown belongs body_shown line_shown population
  mailbox_law o h = decides_as (decides_eq _ 0)
      (λ e. (nowhere (store_shown b msgs).messages o).1 (λ j r. empty.0 (sym first ∙ e) j (subst (In j) (length_ids _ _) r)))
      (λ e. first ∙ empty.1 (λ j r. (nowhere (store_shown b msgs).messages o).0 e j (subst (In j) (sym (length_ids _ _)) r)))
    where
      line : List ℕ
      line = line_of (messages_shown b) (words Layout.mail_next b) (anchor (mail o))

      at : mail_anchor o ≡ anchor (mail o)
      at = rw (le-leb o max_objects (omega (arith, h.1, objects_few b msgs size R mailbox))) (unfold anchor in refl)

      first : first_of (words Layout.mail_next b) (mail_anchor o) ≡ head_of line 0
      first = ap (first_of (words Layout.mail_next b)) at ∙ first_law M (anchor (mail o)) (used_at (mail o) h)

      held : Keeps (many_at (body_shown b msgs) (mail o)) (belongs (body_shown b msgs) (mail o)) line
      held = let k = K (mail o) (h, refl) in (k.known, k.stands)

      empty : (head_of line 0 ≡ 0) ↔ ((j : ℕ) → In j (messages_shown b) → belongs (body_shown b msgs) (mail o) j ≡ false)
      empty = none_belongs (messages_shown b) (belongs (body_shown b msgs) (mail o)) line (subst (λ (n : ℕ). Keeps n (belongs (body_shown b msgs) (mail o)) line) (length_ids _ (messages_shown b)) held)

  object_law : (c : Kind) (n o p m : ℕ) → n ≡ kind_number c → In o (many_of b c) → Decides (wait_free b n o p m) (would_serve (store_shown b msgs) c o (asked c p) (asked c m) ≡ false)
  unfolding wait_free
  object_law semaphore n o p m e h = rw e (semaphore_law b msgs R o h)
  object_law flag n o p m e h = rw e (flag_law b msgs R o p m h)
  object_law mailbox n o p m e h = rw e (mailbox_law o h)
  object_law pool n o p m e h = rw e (pool_law b msgs R o h)

  pub unserved_law : Decides (every (many b Layout.tasks) 1 (unserved_ok b)) ((i : ℕ) → In i (tasks_shown b) → Unserved (store_shown b msgs) (wait_of (task_shown b i).state))
  unserved_law = decides_every (many b Layout.tasks) (unserved_ok b) (waiter_law b msgs R (Unserved (store_shown b msgs)) tt tt (λ t. tt) object_law)
