-- exd_tsk is ext_tsk followed by deletion, on any state: one deletion leaves what the two leave. And a task made again
-- has nothing of what it had. Assumes nothing.
use mathlib.Core.Bool.{Bool, true, false, not, ◌&&◌}
use mathlib.Core.List.{List, [], ◌∷◌}
use mathlib.Core.Path.{◌≡◌, refl, sym, ap, ◌∙◌}
use Prim.Native.Nat.{ℕ, zero, suc}
use lib.ListN.{length, set}
use Rattle.rules.specs.Ids.{put, In}
use Rattle.rules.specs.Codes.{OK}
use Rattle.rules.specs.State.{dormant, Task, Body, task, nobody}
use Rattle.rules.specs.Places.{Place, a_task, item, same}
use Rattle.rules.specs.Acts.{retire, create, delete, retired, created, after, move}
use Rattle.rules.specs.View.{View, line, without, moved, act, acts}
use Rattle.rules.specs.Tasks.{ext_tsk, exd_tsk}
use Rattle.rules.proofs.Ids.{length_put, of_put_same, keep_keep, keep_same}
use Rattle.rules.proofs.Lines.{tabulate_same, line_act}

set_set : (l : List Task) (i : ℕ) (a b : Task) → set (set l i a) i b ≡ set l i b
set_set [] i a b = refl
set_set (x ∷ l) zero a b = refl
set_set (x ∷ l) (suc i) a b = ap (λ (m : List Task). x ∷ m) (set_set l i a b)

put_put : (l : List Task) (i : ℕ) (a b : Task) → put (put l i a) i b ≡ put l i b
put_put l zero a b = refl
put_put l (suc i) a b = set_set l i a b

-- the same body
after_both : (i : ℕ) (b : Body) → after (delete i) (after (retire i) b) ≡ after (delete i) b
unfolding after
after_both i b = λ z. record { tasks = put_put b.tasks i (retired (task b i)) nobody z; store = b.store; handlers = b.handlers; counter = b.counter }

both_same : (t : Bool) → (t && t) ≡ t
both_same true = refl
both_same false = refl

without_twice : (i : ℕ) (q : Place) (l : List ℕ) → without (a_task i) q (without (a_task i) q l) ≡ without (a_task i) q l
without_twice i q l = keep_keep (λ j. not (same (a_task i) (item q j))) (λ j. not (same (a_task i) (item q j))) l ∙ keep_same l (λ j. both_same (not (same (a_task i) (item q j))))

-- the same lines
lines_both : (i : ℕ) (v : View) → (act (delete i) (act (retire i) v)).lines ≡ (act (delete i) v).lines
unfolding act after move moved
lines_both i v = tabulate_same v.body.store _ _ (λ q e. ap (without (a_task i) q) (line_act (retire i) v q e) ∙ without_twice i q (line v q))

pub exd_is_both : (me : ℕ) (v : View) → acts (exd_tsk me).acts v ≡ acts (delete me ∷ []) (acts (ext_tsk me).acts v)
unfolding acts act exd_tsk ext_tsk
exd_is_both me v = λ z. record { body = sym (after_both me v.body) z; lines = sym (lines_both me v) z }

-- made again: dormant at its new priority, no wake-ups, cell 0 and 0
pub made_again : (i p : ℕ) (b : Body) → In i (length b.tasks)
    → task (after (create i p) (after (delete i) b)) i ≡ record { state = dormant; priority = p; start = p; wakeups = 0; cell = record { code = OK; word = 0 } }
unfolding after
made_again i p b r =
    of_put_same (put b.tasks i nobody) i _ nobody (rw (length_put b.tasks i nobody) r)
    ∙ ap (created p) (of_put_same b.tasks i nobody nobody r)
