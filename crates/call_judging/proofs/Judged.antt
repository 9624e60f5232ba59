-- The words of a call, judged by the columns as the view judges them. Assumes nothing.
use mathlib.Core.Bool.{Bool, false}
use mathlib.Core.List.{List, [], ◌∷◌}
use mathlib.Core.Path.{◌≡◌, sym, ◌∙◌, subst}
use Prim.Native.Nat.{ℕ}
use lib.IntN.{ℤ, pos}
use lib.ListN.{length}
use Rattle.std.specs.Prelude.{Option}
use Rattle.rules.specs.Codes.{Code}
use Rattle.rules.specs.Ids.{In}
use Rattle.rules.specs.Events.{outside, above}
use Rattle.rules.specs.State.{Kind, objects, alarm_count}
use Rattle.rules.specs.Rows.{Context, task_id}
use Rattle.rules.proofs.Waits.{in_by}
use Rattle.memory_columns.specs.Layout as Layout
use Rattle.memory_columns.specs.Layout.{entry}
use Rattle.memory_picture.specs.Picture.{kind_number, messages_shown, store_shown, body_shown, view_shown}
use Rattle.call_words.proofs.Tasks.{tasks_count, objects_count, messages_count}
use Rattle.call_words.proofs.Alarms.{alarms_count, size_shown}
use Rattle.call_judging.specs.declared.Target.{Target}
use Rattle.call_judging.specs.Judging.{first_code, target_of, common_code, refusals_of}
use Rattle.call_judging.proofs.Tests.{absent_is, dormant_is}
use Rattle.call_judging.proofs.Refused.{word_passes}

module _ (i : ℕ) (b m : List ℕ) {s : ℕ} {t : Bool} where
  pub task_is : s ≡ entry Layout.system b 1 → t ≡ outside (pos i) s → t ≡ outside (pos i) (length (view_shown b m).body.tasks)
  task_is es et = et ∙ rw (es, ← tasks_count b m)

  pub priority_is : s ≡ entry Layout.system b 0 → t ≡ outside (pos i) s → t ≡ outside (pos i) (view_shown b m).body.store.priorities
  unfolding view_shown body_shown store_shown
  priority_is es et = et ∙ rw es

  pub message_is : s ≡ messages_shown b → t ≡ outside (pos i) s → t ≡ outside (pos i) (length (view_shown b m).body.store.messages)
  message_is es et = et ∙ rw (es, ← messages_count b m)

  pub alarm_is : s ≡ alarm_count (entry Layout.counter b Layout.counter_size) → t ≡ outside (pos i) s → t ≡ outside (pos i) (length (view_shown b m).body.counter.alarms)
  alarm_is es et = et ∙ rw (es, ← alarms_count b m)

pub ticks_is : (a : ℤ) (b m : List ℕ) {s : ℕ} {t : Bool} → s ≡ entry Layout.counter b Layout.counter_size → t ≡ above a s → t ≡ above a (view_shown b m).body.counter.size
ticks_is a b m es et = et ∙ rw (es, ← size_shown b m)

pub queue_is : (a : ℤ) (b m : List ℕ) {s : ℕ} {t : Bool} → s ≡ entry Layout.system b 0 → t ≡ above a s → t ≡ above a (view_shown b m).body.store.priorities
unfolding view_shown body_shown store_shown
queue_is a b m es et = et ∙ rw es

pub object_is : (k : Kind) (i : ℕ) (b m : List ℕ) {n s : ℕ} {t : Bool} → kind_number k ≡ n → s ≡ entry Layout.system b n → t ≡ outside (pos i) s → t ≡ outside (pos i) (objects (view_shown b m).body.store k)
object_is k i b m en es et = et ∙ rw (es, ← en, ← objects_count k b m)

-- a task that is there: what is common is judged of it
module _ (c : Context) (h : Bool) (me : ℕ) (t : Target) (i : ℕ) (b m : List ℕ) {s : ℕ} {x : Bool} {z : Option Code} (es : s ≡ entry Layout.system b 1) (ex : x ≡ outside (pos i) s) (out : x ≡ false)
    (ez : z ≡ common_code c (target_of t i) h me (entry Layout.status b i)) where
  pub named_passed : z ≡ first_code (refusals_of (view_shown b m) h me [] c (target_of t i))
  named_passed = let r = subst (In i) es (in_by (pos i) s (sym ex ∙ out)) in ez ∙ rw (absent_is t i b m r, dormant_is t i b m r)

  pub task_passed : z ≡ first_code (refusals_of (view_shown b m) h me (task_id (view_shown b m) (pos i) ∷ []) c (target_of t i))
  task_passed = word_passes _ _ (task_is i b m es ex) out named_passed
