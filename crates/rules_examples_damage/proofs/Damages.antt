-- Damaged states are told by the first rule broken and the smallest id, and sound ones near them are served, by computation. Assumes nothing.
use mathlib.Core.List.{List, [], ◌∷◌, map}
use mathlib.Core.Path.{◌≡◌, refl}
use lib.IntN.{ℤ, pos}
use Rattle.rules.specs.Events.{Event}
use Rattle.rules.specs.View.{View}
use Rattle.rules_examples.specs.BenchSheet.{task_call, handler_call, get_tid}
use Rattle.rules_examples_damage.specs.Damages.{Damage, damages, several_ids, several_rules, repairs, open_repairs, touched, damage_told, unchanged}

-- any event, and the cell of any task: the first rule broken, and the smallest id
abbrev pub Told : List Damage → Type 0
Told l = (e : Event) (a : ℤ) → touched (map (λ d. d.made) l) e a ≡ damage_told l

pub damage_told_lem : Told damages
unfolding touched damage_told
damage_told_lem e a = refl

pub several_ids_told : Told several_ids
unfolding touched damage_told
several_ids_told e a = refl

pub several_rules_told : Told several_rules
unfolding touched damage_told
several_rules_told e a = refl

-- get_tid is served: w1 the running task, 1
abbrev pub Served : List (View → View) → Type 0
Served l = touched l (task_call get_tid (pos 0) (pos 0) (pos 0)) (pos 1) ≡ unchanged l (pos 0 ∷ pos 1 ∷ pos 0 ∷ pos 1 ∷ pos 0 ∷ []) (pos 0)

pub repair_served : Served repairs
unfolding touched unchanged
repair_served = refl

-- from a handler, with the task at the outermost entry
pub open_repair_served : touched open_repairs (handler_call get_tid (pos 0) (pos 0) (pos 0)) (pos 1) ≡ unchanged open_repairs (pos 0 ∷ pos 1 ∷ pos 0 ∷ pos 1 ∷ pos 0 ∷ []) (pos 0)
unfolding touched unchanged
open_repair_served = refl
