-- Demand 3: the two kernels, fed the same setup and the same list of events, as one claim about the list.
use Rattle.std.specs.Prelude.{false, List, [], ◌∷◌, ◌≡◌, ℤ}
use Rattle.rules.specs.Codes.{number, tells_damage}
use Rattle.rules.specs.Places.{tabulate}
use Rattle.rules.specs.Events.{Event}
use Rattle.rules.specs.View.{View}
use Rattle.rules.specs.Answers.{read_cell}
use Rattle.rules.specs.Kernel.{event, cell}
use Rattle.rules.specs.Plain.{Plain, queue_of, plain_next, plain_answer}
use Rattle.rules.specs.Blocks.{Happened, AllAccounted}

-- The two states agree if listing the plain one by number gives the other's queues, and all else, arrival numbers aside, is equal.
pub record Agree (v : View) (s : Plain) : Type 0 where
  pub body : v.body ≡ s.body
  pub lines : v.lines ≡ tabulate s.body.store (queue_of s)

-- what holds before the first event and after each: the states agree, each task's cell reads alike, each block is accounted for
pub record Alike (past : List Happened) (v : View) (s : Plain) : Type 0 where
  pub agree : Agree v s
  pub cells : (a : ℤ) → cell v a ≡ read_cell s.body a
  pub blocks : AllAccounted past s.body

-- an event of the plain kernel's run
abbrev pub happened : Plain → Event → Happened
happened s e = record { event = e; code = number (plain_answer s e).code; w1 = (plain_answer s e).w1; before = s.body; after = (plain_next s e).body }

-- At each event both give the same code, words, running task and released count, and no event gets a code of damage.
abbrev pub Demand3 : List Happened → View → Plain → List Event → Type 0
Demand3 past v s [] = Alike past v s
Demand3 past v s (e ∷ l) =
    Alike past v s × ((event v e).answer ≡ plain_answer s e) × (tells_damage (event v e).answer.code ≡ false)
    × Demand3 (happened s e ∷ past) (event v e).next (plain_next s e) l
