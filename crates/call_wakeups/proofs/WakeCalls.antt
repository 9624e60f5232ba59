-- The calls on wake-ups: slp_tsk, wai_tsk, wup_tsk, can_wup. At each return of the code the rule's verdict is what was answered and done. Assumes nothing.
use mathlib.Core.Bool.{Bool, true, false, true≢false}
use mathlib.Core.List.{List}
use mathlib.Core.Path.{◌≡◌, refl, sym, ap, ◌∙◌}
use Prim.Native.Nat.{ℕ, zero, suc, ◌+◌, ◌-◌, ◌≤◌, ◌<◌}
use native.Mathlib.Numerals.{add-one}
use native.Mathlib.Omega.{arith}
use lib.IntN.{ℤ, pos, negsuc}
use lib.Signed.{lt_z}
use borrow.Author.Tests.{le-leb, lt-leb, ltb-true}
use Rattle.rules.specs.Acts.{release, wakeups}
use Rattle.rules.specs.Codes.{number, OK, E-TMOUT, E-QOVR}
use Rattle.rules.specs.Events.{nat}
use Rattle.rules.specs.State.{asleep, timed}
use Rattle.rules.specs.Verdicts.{Verdict, refuse, waits}
use Rattle.rules.specs.Tasks.{take_wakeup, slp_tsk, wai_for, wai_tsk, waking, can_wup}
use Rattle.memory_columns.specs.Layout as Layout
use Rattle.memory_columns.specs.Layout.{entry}
use Rattle.memory_waits.specs.Waits.{released, slept}
use Rattle.memory_picture.specs.Perform.{put_to_wait, performed, performed_marks}
use Rattle.memory_picture.specs.Picture.{view_shown}
use Rattle.call_words.specs.declared.Outcome.{Outcome}
use Rattle.call_words.specs.Outcomes.{outcome}
use Rattle.call_words.specs.Doing.{Does, DoesOnWords}
use Rattle.call_words.proofs.Verdicts.{refuses_with, check_stops, check_passes, choose_first, choose_second, count_none, count_some, gives_one, waits_one}
use Rattle.call_words.specs.Naming.{NamesTask, HasCaller}
use Rattle.call_reading.specs.Reading.{sleeps_at, wakeups_at}
use Rattle.call_reading.proofs.Readings.{stored_read, sleeping_read, wakeups_read}

-- ---- slp_tsk, wai_tsk

-- what the wait for a ticks is
for_ever : (me : ℕ) (a : ℤ) → lt_z a (pos 0) ≡ true → wai_for me a ≡ waits me asleep
unfolding wai_for
for_ever me (pos k) e = absurd (omega (arith, ltb-true k 0 e))
for_ever me (negsuc k) e = refl

not_at_all : (me : ℕ) (a : ℤ) → lt_z a (pos 0) ≡ false → nat a ≡ 0 → wai_for me a ≡ refuse E-TMOUT
unfolding wai_for
not_at_all me (pos zero) e z = refl
not_at_all me (pos (suc k)) e z = absurd (omega arith)
not_at_all me (negsuc k) e z = absurd (true≢false e)

for_ticks : (me : ℕ) (a : ℤ) → (nat a ≡ 0 → ⊥) → wai_for me a ≡ waits me (timed (nat a))
unfolding wai_for
for_ticks me (pos zero) z = absurd (z refl)
for_ticks me (pos (suc k)) z = refl
for_ticks me (negsuc k) z = absurd (z refl)

module _ (me : ℕ) {b : List ℕ} {s : Outcome} where
  -- one that waits for ever sleeps
  pub wai_sleeps : (a : ℤ) → lt_z a (pos 0) ≡ true → {b' : List ℕ} → DoesOnWords (HasCaller me) (λ v. slp_tsk v me) s b b' → DoesOnWords (HasCaller me) (λ v. wai_tsk v me a) s b b'
  unfolding slp_tsk wai_tsk
  wai_sleeps a l d m A k = rw (for_ever me a l) (d m A k)

  module _ {n : ℕ} (en : n ≡ wakeups_at b me) where
    taken : (n ≡ 0 → ⊥) → (r : Verdict) (m : List ℕ) {b' : List ℕ} → HasCaller me (view_shown b m) → b' ≡ Layout.put Layout.wakeups me (n - 1) b → s ≡ outcome (pos 0) 0 0 0
        → Does (take_wakeup (view_shown b m) me r) s b m b' m
    unfolding take_wakeup performed performed_marks
    taken z r m ne g e = rw (stored_read b m me ne, ← en) (count_some n r _ z (gives_one (wakeups me (n - 1)) refl e g))

    none_taken : n ≡ 0 → (r : Verdict) (m : List ℕ) {b' : List ℕ} → HasCaller me (view_shown b m) → Does r s b m b' m → Does (take_wakeup (view_shown b m) me r) s b m b' m
    unfolding take_wakeup
    none_taken z r m ne d = rw (stored_read b m me ne, ← en) (count_none r _ z d)

    pub slp_takes : (n ≡ 0 → ⊥) → {b' : List ℕ} → b' ≡ Layout.put Layout.wakeups me (n - 1) b → s ≡ outcome (pos 0) 0 0 0 → DoesOnWords (HasCaller me) (λ v. slp_tsk v me) s b b'
    unfolding slp_tsk
    slp_takes z g e m A k = taken z _ m k g e

    pub slp_waits : n ≡ 0 → {b' : List ℕ} → b' ≡ slept me 0 0 b → s ≡ outcome (pos 1) 0 0 0 → DoesOnWords (HasCaller me) (λ v. slp_tsk v me) s b b'
    unfolding slp_tsk performed put_to_wait
    slp_waits z g e m A k = none_taken z _ m k (waits_one me asleep e g)

    module _ (a : ℤ) where
      pub wai_takes : (n ≡ 0 → ⊥) → {b' : List ℕ} → b' ≡ Layout.put Layout.wakeups me (n - 1) b → s ≡ outcome (pos 0) 0 0 0 → DoesOnWords (HasCaller me) (λ v. wai_tsk v me a) s b b'
      unfolding wai_tsk
      wai_takes z g e m A k = taken z _ m k g e

      module _ (z : n ≡ 0) {t : ℕ} (f : t ≡ nat a) where
        pub wai_ends : lt_z a (pos 0) ≡ false → t ≡ 0 → s ≡ outcome (number E-TMOUT) 0 0 0 → DoesOnWords (HasCaller me) (λ v. wai_tsk v me a) s b b
        unfolding wai_tsk
        wai_ends l y e m A k = none_taken z _ m k (rw (not_at_all me a l (sym f ∙ y)) (refuses_with E-TMOUT e))

        pub wai_waits : (t ≡ 0 → ⊥) → {b' : List ℕ} → b' ≡ slept me 1 t b → s ≡ outcome (pos 1) 0 0 0 → DoesOnWords (HasCaller me) (λ v. wai_tsk v me a) s b b'
        unfolding wai_tsk performed put_to_wait
        wai_waits y g e m A k = none_taken z _ m k (rw (for_ticks me a (λ x. y (f ∙ x))) (waits_one me (timed (nat a)) e (rw f at g)))

-- ---- wup_tsk

module _ (i : ℕ) {b : List ℕ} {s : Outcome} {t : Bool} (et : t ≡ sleeps_at b i) where
  pub wup_wakes : t ≡ true → {b' : List ℕ} → b' ≡ released i 0 0 b → s ≡ outcome (pos 0) 0 0 1 → DoesOnWords (NamesTask i) (λ v. waking v.body i) s b b'
  unfolding waking performed performed_marks
  wup_wakes z g e m A k = choose_first _ _ (sleeping_read b m i k A ∙ sym et ∙ z) (gives_one (release i OK 0) refl e g)

  module _ (z : t ≡ false) {n : ℕ} (en : n ≡ entry Layout.wakeups b i) where
    pub wup_full : 15 ≤ n → s ≡ outcome (number E-QOVR) 0 0 0 → DoesOnWords (NamesTask i) (λ v. waking v.body i) s b b
    unfolding waking
    wup_full l e m A k = choose_second _ _ (sleeping_read b m i k A ∙ sym et ∙ z) (check_stops E-QOVR _ (rw (wakeups_read b m i k, ← en) (le-leb 15 n l)) e)

    pub wup_counts : n < 15 → {b' : List ℕ} → b' ≡ Layout.put Layout.wakeups i (n + 1) b → s ≡ outcome (pos 0) 0 0 0 → DoesOnWords (NamesTask i) (λ v. waking v.body i) s b b'
    unfolding waking performed performed_marks
    wup_counts l g e m A k = choose_second _ _ (sleeping_read b m i k A ∙ sym et ∙ z)
        (check_passes E-QOVR _ (rw (wakeups_read b m i k, ← en) (lt-leb 15 n l)) (gives_one (wakeups i (suc _)) refl e (rw (wakeups_read b m i k, ← en) (rw add-one at g))))

-- ---- can_wup

module _ (i : ℕ) {b : List ℕ} {s : Outcome} where
  pub can_done : {n : ℕ} → n ≡ entry Layout.wakeups b i → {b' : List ℕ} → b' ≡ Layout.put Layout.wakeups i 0 b → s ≡ outcome (pos 0) n 0 0 → DoesOnWords (NamesTask i) (λ v. can_wup v (pos i)) s b b'
  unfolding can_wup performed performed_marks
  can_done f g e m A k = gives_one (wakeups i 0) refl (e ∙ ap (λ (x : ℕ). outcome (pos 0) x 0 0) (f ∙ sym (wakeups_read b m i k))) g
