-- The counter and the alarms that the view shows, as the columns say. Assumes nothing.
use mathlib.Core.Bool.{Bool, true, false, cond}
use mathlib.Core.List.{List}
use mathlib.Core.Path.{◌≡◌, refl, ap, ◌∙◌, subst}
use Prim.Native.Nat.{ℕ, zero, suc, ◌≤◌}
use native.Mathlib.Omega.{arith}
use lib.Dec.{leb}
use lib.ListN.{length}
use borrow.Author.Tests.{leb-true, le-leb}
use Rattle.rules.specs.Ids.{In}
use Rattle.rules.specs.State.{Alarm, no_alarm, alarm_of, alarm_count}
use Rattle.rules.specs.Sound.{AlarmFits}
use Rattle.rules.proofs.Ids.{of_ids, length_ids}
use Rattle.memory_columns.specs.Layout as Layout
use Rattle.memory_columns.specs.Layout.{entry}
use Rattle.memory_picture.specs.Picture.{count_shown, alarm_shown, counter_shown, body_shown, view_shown, Accepted}
use Rattle.memory_picture.specs.Perform.{kept_number}
use Rattle.memory_picture.proofs.FormWords.{kept_number_lem}
use Rattle.call_words.specs.Naming.{NamesAlarm}

module _ (b m : List ℕ) where
  pub alarms_count : length (view_shown b m).body.counter.alarms ≡ alarm_count (entry Layout.counter b Layout.counter_size)
  unfolding view_shown body_shown counter_shown
  alarms_count = length_ids (alarm_shown b) (alarm_count (entry Layout.counter b Layout.counter_size))

  pub size_shown : (view_shown b m).body.counter.size ≡ entry Layout.counter b Layout.counter_size
  unfolding view_shown body_shown counter_shown
  size_shown = refl

  -- an alarm that there is
  module _ (k : ℕ) (r : NamesAlarm k (view_shown b m)) where
    among : In k (alarm_count (entry Layout.counter b Layout.counter_size))
    among = subst (In k) alarms_count r

    pub alarm_shown_lem : alarm_of (view_shown b m).body.counter k ≡ alarm_shown b k
    unfolding view_shown body_shown counter_shown
    alarm_shown_lem = of_ids (alarm_shown b) (alarm_count (entry Layout.counter b Layout.counter_size)) k no_alarm among

    -- there is a counter
    pub some_size : entry Layout.counter b Layout.counter_size ≡ 0 → ⊥
    some_size z = let i : In k (alarm_count 0) = subst (λ (n : ℕ). In k (alarm_count n)) z among in omega (arith, i.0, i.1)

    pub now_shown : (view_shown b m).body.counter.now ≡ entry Layout.counter b Layout.counter_now
    unfolding view_shown body_shown counter_shown
    now_shown = counts _ _ some_size
      where
        counts : (n x : ℕ) → (n ≡ 0 → ⊥) → count_shown n x ≡ x
        counts zero x ne = absurd (ne refl)
        counts (suc n) x ne = refl

    module _ (A : Accepted b m) where
      fits : AlarmFits (length (view_shown b m).body.tasks) (view_shown b m).body.counter.size (alarm_shown b k)
      fits = subst (AlarmFits (length (view_shown b m).body.tasks) (view_shown b m).body.counter.size) alarm_shown_lem (A.sound.body.counter.alarms k r)

      -- its code is kept by its number
      pub code_shown : kept_number (alarm_of (view_shown b m).body.counter k).kept ≡ entry Layout.alarm_code b k
      unfolding alarm_shown
      code_shown = ap (λ (x : Alarm). kept_number x.kept) alarm_shown_lem ∙ kept_number_lem (alarm_shown b k).wakes _ fits.kept

      -- it is told to start or to wake, so that its task is the one that is kept
      pub told_which : entry Layout.alarm_wakes b k ≤ 1
      unfolding alarm_shown
      told_which = go (leb (entry Layout.alarm_wakes b k) 1) refl fits.task.0
        where
          go : (t : Bool) → leb (entry Layout.alarm_wakes b k) 1 ≡ t → 1 ≤ cond t (entry Layout.alarm_task b k) 0 → entry Layout.alarm_wakes b k ≤ 1
          go true e h = leb-true _ _ e
          go false e h = absurd (omega arith)

      pub alarm_task_lem : (alarm_of (view_shown b m).body.counter k).task ≡ entry Layout.alarm_task b k
      unfolding alarm_shown
      alarm_task_lem = ap (λ (x : Alarm). x.task) alarm_shown_lem ∙ rw (le-leb _ 1 told_which)

      pub task_there : In (entry Layout.alarm_task b k) (length (view_shown b m).body.tasks)
      task_there = subst (λ (i : ℕ). In i (length (view_shown b m).body.tasks)) alarm_task_lem (A.sound.body.counter.alarms k r).task
