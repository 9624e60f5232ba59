-- A view: what the rules are read over. And the running rule.
use Rattle.std.specs.Prelude.{not, cond, List, [], ◌∷◌, ◌++◌, ℕ}
use Rattle.rules.specs.Ids.{keep, first}
use Rattle.rules.specs.State.{Handlers, no_handler, in_handler, Body}
use Rattle.rules.specs.Places.{Place, same_sort, sort_at, Item, item, same, belongs, Lines, line_at, tabulate}
use Rattle.rules.specs.Acts.{Act, after, Move, stay, leave, last, move}

-- The paper's picture of a state: all but the queues, and the queues.
pub record View : Type 0 where
  pub body : Body
  pub lines : Lines

abbrev pub line : View → Place → List ℕ
line v q = line_at v.lines q

-- the first nonempty one
abbrev pub nonempty : List (List ℕ) → List ℕ
nonempty [] = []
nonempty ([] ∷ l) = nonempty l
nonempty ((x ∷ q) ∷ l) = x ∷ q

-- the nonempty ready queue with the smallest priority number; none if nothing is ready
abbrev pub best : View → List ℕ
best v = nonempty v.lines.ready

-- the head of that queue (0 if there is none)
abbrev pub head : View → ℕ
head v = first (best v)

-- while a handler is open, the task at the outermost entry
abbrev pub reported : Handlers → ℕ → ℕ
reported no_handler h = h
reported (in_handler n i) h = i

-- The running task is the head of the nonempty ready queue with the smallest priority number (0 if there is none). While any handler is
-- open, it is the one at the outermost entry, even if it has been suspended meanwhile.
unfoldable pub running : View → ℕ
running v = reported v.body.handlers (head v)

-- ---- an act on queues

-- the item's id, at the places of its sort
abbrev pub alone : Item → Place → List ℕ
alone x q = cond (same_sort x.sort (sort_at q)) (x.id ∷ []) []

abbrev pub without : Item → Place → List ℕ → List ℕ
without x q l = keep (λ i. not (same x (item q i))) l

-- a line after a move, where `b` is the state after the act
unfoldable pub moved : Body → Move → Place → List ℕ → List ℕ
moved b stay q l = l
moved b (leave x) q l = without x q l
moved b (last x) q l = without x q l ++ keep (belongs b q) (alone x q)

unfoldable pub act : Act → View → View
act a v = record {
  body = after a v.body;
  lines = tabulate (after a v.body).store (λ q. moved (after a v.body) (move v.body a) q (line v q));
}

unfoldable pub acts : List Act → View → View
acts [] v = v
acts (a ∷ l) v = acts l (act a v)
