-- What is read of a memory, of its tasks' states and its running task, from the verdict on it. Assumes nothing.
use mathlib.Core.Bool.{Bool, true, false, true≢false}
use mathlib.Core.List.{List}
use mathlib.Core.Logic.{◌↔◌}
use mathlib.Core.Path.{◌≡◌, refl, sym, ap, ◌∙◌}
use Prim.Native.Nat.{ℕ, ◌≤◌}
use native.Mathlib.Omega.{arith}
use lib.IntN.{ℤ, pos}
use lib.Dec.{eqb}
use lib.ListN.{length}
use borrow.Author.Tests.{eq-eqb, ne_eqb}
use Rattle.std.specs.Prelude.{Err}
use Rattle.rules.specs.Ids.{In}
use Rattle.rules.specs.Codes.{OK, E-NOEXS, number}
use Rattle.rules.specs.Events.{nat, outside}
use Rattle.rules.specs.Answers.{read_cell}
use Rattle.rules.specs.Tasks.{tsk_sts}
use Rattle.rules.specs.State.{Task, task, nobody, is_absent}
use Rattle.rules.proofs.Ids.{of_ids, length_ids}
use Rattle.rules.proofs.Waits.{in_by}
use Rattle.memory_columns.specs.Layout as Layout
use Rattle.memory_columns.specs.Layout.{entry}
use Rattle.memory_picture.specs.Picture.{task_shown, tasks_shown, body_shown, view_shown, Accepted, memory}
use Rattle.memory_running.specs.Running.{running_of}
use Rattle.check_damage.specs.declared.Breach.{Breach}
use Rattle.check_damage.specs.Judged.{Judged}
use Rattle.call_words.proofs.Tasks.{tasks_count, few_tasks, absent_read}
use Rattle.call_reading.specs.Reading.{number_at}
use Rattle.call_reading.proofs.Readings.{number_read}
use Rattle.kernel_cells.specs.Promises.{kept, Reads, Runs, Listed, Lists}
use Rattle.memory_running.proofs.Running.{running_law}

-- ---- cells

module _ {b msgs : List ℕ} where
  pub unreadable : (f : Breach) → Judged b msgs (Err f) → (a : ℤ) → Reads (memory b msgs) a f.code 0
  unreadable f J a = record { sound = λ h. absurd (J.0 h); damaged = λ _. (J.1, refl) }

  module _ (A : Accepted b msgs) (a : ℤ) {n : ℕ} (en : n ≡ tasks_shown b) where
    count : length (view_shown b msgs).body.tasks ≡ n
    unfolding view_shown body_shown
    count = length_ids (task_shown b) (tasks_shown b) ∙ sym en

    -- t: the id is no task's
    module _ {t : Bool} (et : t ≡ outside a n) where
      pub foreign : t ≡ true → Reads (memory b msgs) a (number E-NOEXS) 0
      unfolding read_cell
      foreign e = record { sound = λ h. rw (count, sym et ∙ e) (refl, refl); damaged = λ h. absurd (h (A)) }

      module _ (e : t ≡ false) where
        at_id : task (view_shown b msgs).body (nat a) ≡ task_shown b (nat a)
        unfolding view_shown body_shown
        at_id = of_ids (task_shown b) (tasks_shown b) (nat a) nobody (rw en at (in_by a n (sym et ∙ e)))

        -- s: its status
        module _ {s : ℕ} (es : s ≡ entry Layout.status b (nat a)) where
          whether : is_absent (task (view_shown b msgs).body (nat a)).state ≡ eqb (entry Layout.status b (nat a)) 6
          whether = absent_read b msgs (nat a) (rw en at (in_by a n (sym et ∙ e)))

          pub absent : s ≡ 6 → Reads (memory b msgs) a (number E-NOEXS) 0
          unfolding read_cell
          absent z = record { sound = λ h. rw (count, sym et ∙ e, whether, eq-eqb _ 6 (sym es ∙ z)) (refl, refl); damaged = λ h. absurd (h (A)) }

          present : (s ≡ 6 → ⊥) → is_absent (task_shown b (nat a)).state ≡ false
          present z = ap (λ (x : Task). is_absent x.state) (sym at_id) ∙ whether ∙ ne_eqb _ 6 (λ d. z (es ∙ d))

        pub readable : {s : ℕ} → s ≡ entry Layout.status b (nat a) → (s ≡ 6 → ⊥) → {k w : ℕ} {c : ℤ} → k ≡ entry Layout.code b (nat a) → c ≡ kept k → w ≡ entry Layout.word b (nat a) → Reads (memory b msgs) a c w
        unfolding read_cell task_shown
        readable es z ek ec ew = record {
          sound = λ h. rw (count, sym et ∙ e, at_id, present es z) (rw (← ek) ec, ew);
          damaged = λ h. absurd (h (A));
        }

-- ---- the running task

module _ {b msgs : List ℕ} {r : Bool} (law : (r ≡ true) ↔ Accepted b msgs) where
  pub runs : {t : ℕ} → r ≡ true → t ≡ running_of b → Runs (memory b msgs) t
  runs y e = record { sound = λ h. e ∙ running_law b msgs h; damaged = λ h. absurd (h (law.0 y)) }

  pub idle : r ≡ false → Runs (memory b msgs) 0
  idle e = record { sound = λ h. absurd (true≢false (sym (law.1 h) ∙ e)); damaged = λ h. refl }

-- ---- the states of all tasks

module _ {b msgs : List ℕ} where
  pub unlisted : (f : Breach) → Judged b msgs (Err f) → (s : List ℕ) → Lists (memory b msgs) f.code 0 s s
  unlisted f J s = record { sound = λ h. absurd (J.0 h); damaged = λ _. (J.1, refl, refl) }

  module _ (A : Accepted b msgs) {n : ℕ} (en : n ≡ tasks_shown b) where
    pub few : n ≤ 32
    few = omega (arith, en, few_tasks b msgs A)

    -- each is a task's, so it is what the rule shows
    shown : (t : ℕ) → In t n → number_at b t ≡ (tsk_sts (view_shown b msgs) (pos t)).w1
    unfolding tsk_sts
    shown t h = sym (number_read b msgs t (omega (arith, h.0), omega (arith, h.1, en, tasks_count b msgs)) A)

    pub listed : {old new : List ℕ} → Listed (number_at b) n old new → Lists (memory b msgs) (number OK) n old new
    listed L = record {
      sound = λ h. (refl, record { count = en ∙ sym (tasks_count b msgs); states = record { each = λ t k. L.each t k ∙ shown t k; rest = L.rest } });
      damaged = λ h. absurd (h A);
    }
