-- The plain kernel (the paper's word): no queues, but arrival numbers from one count that only rises. It is fed the setup and the
-- events alone, and judges an event by the same rules, all over its own queues, its own running task and its own states.
use Rattle.std.specs.Prelude.{List, [], ◌∷◌, map, ℕ, suc, length, replicate}
use Rattle.rules.specs.Ids.{of, put, ids, keep, number_order}
use Rattle.rules.specs.State.{Body}
use Rattle.rules.specs.Places.{Place, Sort, tasks, messages, blocks, Item, item, many, belongs, tabulate}
use Rattle.rules.specs.Setup.{Setup}
use Rattle.rules.specs.Events.{Event}
use Rattle.rules.specs.Acts.{Act, after, Move, stay, leave, last, move}
use Rattle.rules.specs.View.{View}
use Rattle.rules.specs.Table.{judge}
use Rattle.rules.specs.Answers.{Answer, answer}
use Rattle.rules.specs.Kernel.{idle, begins}

-- all but queues, an arrival number for each task, each message and each block of each pool, and the count
pub record Plain : Type 0 where
  pub body : Body
  pub tasks : List ℕ
  pub messages : List ℕ
  pub blocks : List (List ℕ)
  pub count : ℕ

-- the numbers of a sort, by id
abbrev pub numbers_of : Plain → Sort → List ℕ
numbers_of s tasks = s.tasks
numbers_of s messages = s.messages
numbers_of s (blocks p) = of s.blocks p []

abbrev pub number_of : Plain → Item → ℕ
number_of s x = of (numbers_of s x.sort) x.id 0

-- A queue is those that belong to it, by rising number.
unfoldable pub queue_of : Plain → Place → List ℕ
queue_of s q = number_order (λ i. number_of s (item q i)) (keep (belongs s.body q) (ids (many s.body q)))

-- its own view: its state, with its queues listed by number
unfoldable pub view_of : Plain → View
view_of s = record { body = s.body; lines = tabulate s.body.store (queue_of s) }

-- another body and count; other numbers of a sort
abbrev pub with_count : Body → ℕ → Plain → Plain
with_count b n s = record { body = b; tasks = s.tasks; messages = s.messages; blocks = s.blocks; count = n }

abbrev pub with_numbers : Sort → List ℕ → Plain → Plain
with_numbers tasks l s = record { body = s.body; tasks = l; messages = s.messages; blocks = s.blocks; count = s.count }
with_numbers messages l s = record { body = s.body; tasks = s.tasks; messages = l; blocks = s.blocks; count = s.count }
with_numbers (blocks p) l s = record { body = s.body; tasks = s.tasks; messages = s.messages; blocks = put s.blocks p l; count = s.count }

-- A task takes a new number when made ready, moved, or put into a wait; a message when laid in a mailbox; a block when freed.
unfoldable pub renumbered : Body → Move → Plain → Plain
renumbered b stay s = with_count b s.count s
renumbered b (leave x) s = with_count b s.count s
renumbered b (last x) s = with_count b (suc s.count) (with_numbers x.sort (put (numbers_of s x.sort) x.id s.count) s)

unfoldable pub plain_act : Act → Plain → Plain
plain_act a s = renumbered (after a s.body) (move s.body a) s

unfoldable pub plain_acts : List Act → Plain → Plain
plain_acts [] s = s
plain_acts (a ∷ l) s = plain_acts l (plain_act a s)

-- before any block is freed and any task started
unfoldable pub unstarted : Setup → Plain
unstarted u = record { body = idle u; tasks = replicate (length u.tasks) 0; messages = replicate u.messages 0; blocks = map (λ n. replicate n 0) u.pools; count = 1 }

-- Fresh numbers follow id order, the blocks' before the tasks'.
unfoldable pub plain_fresh : Setup → Plain
plain_fresh u = plain_acts (begins u) (unstarted u)

unfoldable pub plain_next : Plain → Event → Plain
plain_next s e = plain_acts (judge (view_of s) e).acts s

unfoldable pub plain_answer : Plain → Event → Answer
plain_answer s e = answer (judge (view_of s) e) (view_of s) (view_of (plain_next s e))
