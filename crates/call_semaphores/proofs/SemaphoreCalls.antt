-- The calls on semaphores: at each return of the code the rule's verdict is what was answered and done. Assumes nothing.
use mathlib.Core.List.{List}
use mathlib.Core.Path.{◌≡◌, refl}
use Prim.Native.Nat.{ℕ, suc, ◌+◌, ◌-◌, ◌≤◌, ◌<◌}
use native.Mathlib.Numerals.{add-one}
use lib.IntN.{pos}
use borrow.Author.Tests.{le-leb, lt-leb}
use Rattle.rules.specs.Acts.{count}
use Rattle.rules.specs.Codes.{number, E-QOVR}
use Rattle.rules.specs.State.{semaphore}
use Rattle.rules.specs.Verdicts.{Verdict}
use Rattle.rules.specs.Objects.{count_of, sig_sem, take_sem}
use Rattle.rules.proofs.Ids.{of_ids}
use Rattle.memory_columns.specs.Layout as Layout
use Rattle.memory_columns.specs.Layout.{entry}
use Rattle.memory_waits.specs.Waits.{released}
use Rattle.memory_picture.specs.Perform.{performed, performed_marks}
use Rattle.memory_picture.specs.Picture.{store_shown, body_shown, view_shown, Accepted}
use Rattle.call_words.specs.declared.Outcome.{Outcome}
use Rattle.call_words.specs.Outcomes.{outcome}
use Rattle.call_words.specs.Doing.{Does, DoesOnWords}
use Rattle.call_words.specs.Naming.{NamesObject}
use Rattle.call_words.proofs.Verdicts.{check_stops, check_passes, count_none, count_some, gives_one}
use Rattle.call_objects.specs.Waiting.{first_waiter}
use Rattle.call_objects.proofs.Waiters.{counted, to_nobody, to_waiter}

module _ (i : ℕ) {b : List ℕ} where
  pub count_read : (m : List ℕ) → Accepted b m → NamesObject semaphore i (view_shown b m) → count_of (view_shown b m) (pos i) ≡ entry Layout.semaphore b i
  unfolding view_shown body_shown store_shown
  count_read m A k = of_ids (entry Layout.semaphore b) _ i 0 (counted semaphore i b m A k)

  module _ {s : Outcome} where
    -- ---- sig_sem

    module _ {x : ℕ} (ex : x ≡ first_waiter 2 i b) where
      pub sig_serves : (x ≡ 0 → ⊥) → {b' : List ℕ} → b' ≡ released x 0 0 b → s ≡ outcome (pos 0) 0 0 1 → DoesOnWords (NamesObject semaphore i) (λ v. sig_sem v (pos i)) s b b'
      unfolding sig_sem
      sig_serves z g e m A k = to_waiter semaphore i b m A k ex z 0 _ g e

      module _ {n : ℕ} (en : n ≡ entry Layout.semaphore b i) where
        pub sig_full : x ≡ 0 → 65535 ≤ n → s ≡ outcome (number E-QOVR) 0 0 0 → DoesOnWords (NamesObject semaphore i) (λ v. sig_sem v (pos i)) s b b
        unfolding sig_sem
        sig_full z l e m A k = to_nobody semaphore i b m A k ex z 0 _ (check_stops E-QOVR _ (rw (count_read m A k, ← en) (le-leb 65535 n l)) e)

        pub sig_counts : x ≡ 0 → n < 65535 → {b' : List ℕ} → b' ≡ Layout.put Layout.semaphore i (n + 1) b → s ≡ outcome (pos 0) 0 0 0 → DoesOnWords (NamesObject semaphore i) (λ v. sig_sem v (pos i)) s b b'
        unfolding sig_sem performed performed_marks
        sig_counts z l g e m A k = to_nobody semaphore i b m A k ex z 0 _
            (check_passes E-QOVR _ (rw (count_read m A k, ← en) (lt-leb 65535 n l)) (gives_one (count i (suc _)) refl e (rw (count_read m A k, ← en) (rw add-one at g))))

    -- ---- wai_sem, preq_sem: one is taken, or as r says

    module _ {n : ℕ} (en : n ≡ entry Layout.semaphore b i) (r : Verdict) where
      pub none_taken : n ≡ 0 → {b' : List ℕ} → ((m : List ℕ) → Does r s b m b' m) → DoesOnWords (NamesObject semaphore i) (λ v. take_sem v (pos i) r) s b b'
      unfolding take_sem
      none_taken z d m A k = rw (count_read m A k, ← en) (count_none r _ z (d m))

      pub one_taken : (n ≡ 0 → ⊥) → {b' : List ℕ} → b' ≡ Layout.put Layout.semaphore i (n - 1) b → s ≡ outcome (pos 0) 0 0 0 → DoesOnWords (NamesObject semaphore i) (λ v. take_sem v (pos i) r) s b b'
      unfolding take_sem performed performed_marks
      one_taken z g e m A k = rw (count_read m A k, ← en) (count_some n r _ z (gives_one (count i (n - 1)) refl e g))
