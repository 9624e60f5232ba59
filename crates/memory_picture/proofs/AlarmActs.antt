-- The act on an alarm: three words of it are written, and nobody moves.
use mathlib.Core.Bool.{cond}
use mathlib.Core.List.{List, [], ◌∷◌, map}
use mathlib.Core.Logic.{◌≢◌}
use mathlib.Core.Path.{◌≡◌, refl, sym, ap, ◌∙◌, subst}
use Prim.Native.Nat.{ℕ, zero, suc, ◌≤◌}
use native.Mathlib.Omega.{arith}
use lib.Dec.{eqb, leb}
use lib.ListN.{length, get_or}
use Rattle.rules.specs.Ids.{of, put, ids, In}
use Rattle.rules.specs.Codes.{Code}
use Rattle.rules.specs.State.{Setting, no_alarm, alarm_count}
use Rattle.rules.specs.Acts.{alarm, after, move, with_setting, change_alarm}
use Rattle.rules.proofs.Ids.{of_ids, length_ids}
use Rattle.memory_columns.specs.Layout as Layout
use Rattle.memory_columns.specs.Layout.{Column, max_alarms, counter, alarm_code, alarm_due, alarm_period, next_of, prev_of, entry, Only}
use Rattle.memory_columns.proofs.Frame.{Sized, put_size, put_among, put_apart, entry_put, entry_other, only_on, alarm_column}
use Rattle.memory_objects.specs.Moves.{alarmed}
use Rattle.memory_picture.specs.Picture.{kept_of, setting_shown, alarm_shown, count_shown, counter_shown, store_shown, body_shown, Accepted}
use Rattle.memory_picture.specs.Perform.{kept_number, due_kept, period_kept}
use Rattle.memory_picture.proofs.Lines.{rest, follows_stay}
use Rattle.memory_picture.proofs.Done.{Done}
use Rattle.memory_picture.proofs.Touched.{map_put, tasks_kept, store_stays, handlers_kept, rings_clear, alarm_by}
use Rattle.memory_picture.proofs.FormWords.{back_setting}

-- the number of an alarm
pub alarm_number : (m k : ℕ) → In k (alarm_count m) → k ≤ max_alarms
alarm_number zero k h = omega (arith, h.1)
alarm_number (suc m) k h = h.1

-- what the act may write
abbrev settable : List Column
settable = alarm_code ∷ alarm_due ∷ alarm_period ∷ []

module _ (k c d p : ℕ) (b : List ℕ) (h : Sized b) where
  abbrev coded : List ℕ
  coded = Layout.put alarm_code k c b

  abbrev dated : List ℕ
  dated = Layout.put alarm_due k d coded

  alarmed_size : Sized (alarmed k c d p b)
  unfolding alarmed
  alarmed_size = put_size alarm_period k p dated (put_size alarm_due k d coded (put_size alarm_code k c b h))

  alarmed_only : Only settable b (alarmed k c d p b)
  unfolding alarmed
  alarmed_only = only_on (put_among settable alarm_code k c b refl) (only_on (put_among settable alarm_due k d coded refl) (put_among settable alarm_period k p dated refl))

  -- another alarm
  alarmed_other : (j : ℕ) → j ≢ k → alarm_shown (alarmed k c d p b) j ≡ alarm_shown b j
  unfolding alarmed
  alarmed_other j ne = alarm_by b (Layout.put alarm_period k p dated) j (λ x e. let i = alarm_column x e in
      entry_other alarm_period k p dated x refl i j ne ∙ entry_other alarm_due k d coded x refl i j ne ∙ entry_other alarm_code k c b x refl i j ne)

  -- this one
  module _ (r : k ≤ max_alarms) where
    code_now : entry alarm_code (alarmed k c d p b) k ≡ c
    unfolding alarmed
    code_now =
        ap (λ (l : List ℕ). get_or l k 0) (put_apart alarm_period k p dated alarm_code refl ∙ put_apart alarm_due k d coded alarm_code refl)
        ∙ entry_put alarm_code k c b h refl (omega arith)

    due_now : entry alarm_due (alarmed k c d p b) k ≡ d
    unfolding alarmed
    due_now = ap (λ (l : List ℕ). get_or l k 0) (put_apart alarm_period k p dated alarm_due refl) ∙ entry_put alarm_due k d coded (put_size alarm_code k c b h) refl (omega arith)

    period_now : entry alarm_period (alarmed k c d p b) k ≡ p
    unfolding alarmed
    period_now = entry_put alarm_period k p dated (put_size alarm_due k d coded (put_size alarm_code k c b h)) refl (omega arith)

    alarmed_shown : alarm_shown (alarmed k c d p b) k ≡ with_setting (kept_of c) (setting_shown d p) (alarm_shown b k)
    unfolding alarm_shown
    alarmed_shown = λ z. record {
      task = cond (leb (get_or (wakes z) k 0) 1) (get_or (task z) k 0) 0;
      wakes = eqb (get_or (wakes z) k 0) 1;
      kept = kept_of (code_now z);
      setting = setting_shown (due_now z) (period_now z);
    }
      where
        task : Layout.words Layout.alarm_task (alarmed k c d p b) ≡ Layout.words Layout.alarm_task b
        task = alarmed_only.kept Layout.alarm_task refl

        wakes : Layout.words Layout.alarm_wakes (alarmed k c d p b) ≡ Layout.words Layout.alarm_wakes b
        wakes = alarmed_only.kept Layout.alarm_wakes refl

module _ (b msgs : List ℕ) (A : Accepted b msgs) (k : ℕ) (h : In k (length (counter_shown b).alarms)) (c : Code) (e : kept_of (kept_number c) ≡ c) (s : Setting) where
  abbrev words_after : List ℕ
  words_after = alarmed k (kept_number c) (due_kept s) (period_kept s) b

  only : Only settable b words_after
  only = alarmed_only k (kept_number c) (due_kept s) (period_kept s) b A.whole.size

  abbrev many : ℕ
  many = alarm_count (entry counter b Layout.counter_size)

  here : In k many
  unfolding counter_shown
  here = subst (In k) (length_ids (alarm_shown b) many) h

  this : alarm_shown words_after k ≡ with_setting c s (of (map (alarm_shown b) (ids many)) k no_alarm)
  this =
      alarmed_shown k (kept_number c) (due_kept s) (period_kept s) b A.whole.size (alarm_number (entry counter b Layout.counter_size) k here)
      ∙ (λ z. with_setting (e z) (back_setting s z) (sym (of_ids (alarm_shown b) many k no_alarm here) z))

  counter_after : counter_shown words_after ≡ change_alarm k c s (counter_shown b)
  unfolding counter_shown
  counter_after = λ z. record {
    size = get_or (same z) Layout.counter_size 0;
    now = count_shown (get_or (same z) Layout.counter_size 0) (get_or (same z) Layout.counter_now 0);
    alarms = alarms z;
  }
    where
      same : Layout.words counter words_after ≡ Layout.words counter b
      same = only.kept counter refl

      alarms : map (alarm_shown words_after) (ids (alarm_count (entry counter words_after Layout.counter_size))) ≡ put (map (alarm_shown b) (ids many)) k (with_setting c s (of (map (alarm_shown b) (ids many)) k no_alarm))
      alarms =
          ap (λ (l : List ℕ). map (alarm_shown words_after) (ids (alarm_count (get_or l Layout.counter_size 0)))) same
          ∙ map_put (alarm_shown b) (alarm_shown words_after) many k here (alarmed_other k (kept_number c) (due_kept s) (period_kept s) b A.whole.size)
          ∙ ap (put (map (alarm_shown b) (ids many)) k) this

  body : body_shown words_after msgs ≡ after (alarm k c s) (body_shown b msgs)
  unfolding body_shown store_shown after
  body = λ z. record {
    tasks = tasks_kept only refl refl z;
    store = store_stays b words_after msgs msgs only refl refl z;
    handlers = handlers_kept only refl z;
    counter = counter_after z;
  }

  pub alarm_done : Done (alarm k c s) b msgs words_after msgs
  unfolding move
  alarm_done = record {
    size = alarmed_size k (kept_number c) (due_kept s) (period_kept s) b A.whole.size;
    many = A.whole.marks;
    body = body;
    steps = λ r. rest;
    fine = λ r. tt;
    next = λ r. only.kept (next_of r) (rings_clear settable refl r).0;
    prev = λ r. only.kept (prev_of r) (rings_clear settable refl r).1;
    word = ap (λ (l : List ℕ). get_or l 0 0) (only.kept Layout.nonempty refl);
    counts = λ i r. ap (λ (l : List ℕ). get_or l i 0) (only.kept Layout.system refl);
    low_half = λ r. rw (only.kept Layout.system refl) r;
    lines = follows_stay (store_shown b msgs) _ _;
  }
