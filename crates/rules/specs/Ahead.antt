-- Who waits on an object, and how many stand ahead of a task there.
use Rattle.std.specs.Prelude.{Bool, cond, List, [], ◌∷◌, ℕ, suc, eqb}
use Rattle.rules.specs.State.{Kind, task}
use Rattle.rules.specs.Places.{waiters, awaits}
use Rattle.rules.specs.View.{View, line}

-- task i waits on object o of kind k, suspended or not
abbrev pub waits_at : View → Kind → ℕ → ℕ → Bool
waits_at v k o i = awaits (task v.body i).state k o

-- how many stand before i in a line
abbrev pub before : ℕ → List ℕ → ℕ
before i [] = 0
before i (x ∷ l) = cond (eqb x i) 0 (suc (before i l))

-- in the object's queue
abbrev pub ahead : View → Kind → ℕ → ℕ → ℕ
ahead v k o i = before i (line v (waiters k o))
