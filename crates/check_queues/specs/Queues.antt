-- Queues: each task, message and free block stands where it belongs, once, and nowhere else, for any words.
use Rattle.std.specs.Prelude.{Bool, cond, ◌||◌, List, [], ◌∷◌, map, ◌≡◌, ℕ, suc, pred, ◌*◌, ◌/◌, ◌%◌, ◌^◌, ◌<◌, eqb, leb, get_or}
use Rattle.rules.specs.Ids.{of, ids}
use Rattle.check_links.specs.declared.Table.{Table}
use Rattle.check_links.specs.declared.Table.TheVariants.{Homes, Masks}
use Rattle.check_links.specs.Survey.{ranged, budget}
use Rattle.memory_columns.specs.declared.Rings.{Rings}
use Rattle.memory_columns.specs.declared.Rings.TheVariants.{Tasks, Messages, Blocks}
use Rattle.memory_columns.specs.Layout as Layout
use Rattle.memory_columns.specs.Layout.{max_tasks, max_messages, max_pools, max_blocks, ready_node, wait_node, mail_node, free_node, links_of, words, entry, at_most}
use Rattle.memory_queues.specs.Moves.{ready_anchor, wait_anchor, mail_anchor, free_anchor}
use Rattle.check_ranges.specs.Ranges.{many}

-- ---- homes: the anchor of the queue to which one belongs, 0 if to none; numbers out of range have been refused

unfoldable pub wait_home : ℕ → ℕ → ℕ
wait_home k o = cond (leb 2 k) (wait_anchor k o) 0

unfoldable pub home : List ℕ → ℕ → ℕ
home b i =
    cond (eqb (entry Layout.status b i) 1) (ready_anchor (entry Layout.priority b i))
    (cond (eqb (entry Layout.status b i) 3 || eqb (entry Layout.status b i) 5) (wait_home (entry Layout.kind b i) (entry Layout.object b i)) 0)

-- of a message's mark; 0 is no mailbox
abbrev pub mark_anchor : ℕ → ℕ
mark_anchor m = cond (eqb m 0) 0 (mail_anchor m)

-- of the block of node x: its mark is bit (x - 1) % 32 of the mask of pool (x - 1) / 32 + 1
abbrev pub block_free : List ℕ → ℕ → Bool
block_free b x = eqb ((entry Layout.free b (suc (pred x / max_blocks)) / 2 ^ (pred x % max_blocks)) % 2) 1

unfoldable pub block_home : List ℕ → ℕ → ℕ
block_home b x = cond (eqb x 0) 0 (cond (block_free b x) (free_anchor (suc (pred x / max_blocks))) 0)

abbrev pub home_in : List ℕ → List ℕ → Rings → ℕ → ℕ
home_in b msgs Tasks i = home b i
home_in b msgs Messages j = mark_anchor (of msgs j 0)
home_in b msgs Blocks x = block_home b x

-- ---- the rings of a sort

-- how many of their nodes are ids
abbrev pub ids_in : List ℕ → Rings → ℕ
ids_in b Tasks = many b Layout.tasks
ids_in b Messages = many b Layout.messages
ids_in b Blocks = max_blocks * at_most (many b Layout.pools) max_pools

-- how many entries their table has; a count out of range gives none
abbrev pub count_in : List ℕ → Rings → ℕ
count_in b Tasks = at_most (ids_in b Tasks) max_tasks
count_in b Messages = at_most (ids_in b Messages) max_messages
count_in b Blocks = at_most (many b Layout.pools) max_pools

-- the entries: the home of a task, the mailbox of a message, the mask of a pool
abbrev pub entry_in : List ℕ → List ℕ → Rings → ℕ → ℕ
entry_in b msgs Tasks i = home b i
entry_in b msgs Messages j = of msgs j 0
entry_in b msgs Blocks p = entry Layout.free b p

abbrev pub table_in : List ℕ → List ℕ → Rings → List ℕ
table_in b msgs r = map (entry_in b msgs r) (ids (count_in b r))

-- l has the entries 1 to n
pub record Laid (f : ℕ → ℕ) (n : ℕ) (l : List ℕ) : Type 0 where
  pub home : (j : ℕ) → j < n → get_or l j 0 ≡ f (suc j)

-- what the table has; a mailbox's anchor is so much larger than its number
abbrev pub table_of : Rings → Table
table_of Tasks = Homes 0
table_of Messages = Homes (mail_node 0)
table_of Blocks = Masks

-- the rings of anchors from a on, as many as the count k says
abbrev pub range_in : List ℕ → Rings → List ℕ → ℕ → ℕ → ℕ → ℕ
range_in b r l a k n = ranged (words (links_of r) b) (table_of r) l a (many b k) n

-- the ranges of anchors (the first, and how many) surveyed one after the other: what they leave of a budget
unfoldable pub ranges : List ℕ → Table → List ℕ → List (ℕ × ℕ) → ℕ → ℕ
ranges ls t l [] k = k
ranges ls t l (r ∷ rs) k = ranges ls t l rs (ranged ls t l r.0 r.1 k)

-- ready queues, and wait queues by kind; mailboxes; pools
abbrev pub ranges_of : List ℕ → Rings → List (ℕ × ℕ)
ranges_of b Tasks =
    (ready_node 1, many b Layout.priorities) ∷ (wait_node Layout.semaphores 1, many b Layout.semaphores) ∷ (wait_node Layout.flags 1, many b Layout.flags)
    ∷ (wait_node Layout.mailboxes 1, many b Layout.mailboxes) ∷ (wait_node Layout.pools 1, many b Layout.pools) ∷ []
ranges_of b Messages = (mail_node 1, many b Layout.mailboxes) ∷ []
ranges_of b Blocks = (free_node 1, many b Layout.pools) ∷ []

abbrev pub ranges_in : List ℕ → Rings → List ℕ → ℕ → ℕ
ranges_in b r l k = ranges (words (links_of r) b) (table_of r) l (ranges_of b r) k

abbrev pub budget_in : List ℕ → Rings → List ℕ → ℕ
budget_in b r l = budget (words (links_of r) b) (table_of r) l

-- the survey meets every id that belongs to a queue, and as many are linked
abbrev pub settled : List ℕ → Rings → List ℕ → Bool
settled b r l = eqb (ranges_in b r l (budget_in b r l)) 1

unfoldable pub queued_in : List ℕ → List ℕ → Rings → Bool
queued_in b msgs r = settled b r (table_in b msgs r)
