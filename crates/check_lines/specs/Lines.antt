-- What stands in the lines, for any words: are all numbers in their ranges, and does each id stand where it belongs?
use Rattle.std.specs.Prelude.{Bool, true, ◌&&◌, List, [], ◌∷◌, ℕ, ◌+◌}
use Rattle.memory_rings.specs.Rings.{line_of}
use Rattle.memory_columns.specs.declared.Rings.{Rings}
use Rattle.memory_columns.specs.declared.Rings.TheVariants.{Tasks, Messages, Blocks}
use Rattle.memory_columns.specs.Layout as Layout
use Rattle.memory_columns.specs.Layout.{max_messages, ready_node, wait_node, mail_node, free_node, before_pool, next_of, words, entry, at_most}
use Rattle.memory_queues.specs.Moves.{free_anchor, node_of_block}
use Rattle.check_ranges.specs.Ranges.{every, many, ranges_ok}
use Rattle.check_queues.specs.Queues.{block_home, ids_in}
use Rattle.check_lines.specs.Lists.{known, stands_right, at_most_once}

-- how many, none where the count is out of range
abbrev pub few : List ℕ → ℕ → ℕ
few b k = at_most (many b k) max_messages

-- ---- the lines of several ranges of anchors: the node before the first, and how many

unfoldable pub every_in : List (ℕ × ℕ) → (ℕ → Bool) → Bool
every_in [] f = true
every_in (r ∷ rs) f = every r.1 1 (λ o. f (r.0 + o)) && every_in rs f

-- ready queues, and wait queues by kind; mailboxes
abbrev pub task_lines : List ℕ → List (ℕ × ℕ)
task_lines b =
    (ready_node 0, few b Layout.priorities) ∷ (wait_node Layout.semaphores 0, few b Layout.semaphores) ∷ (wait_node Layout.flags 0, few b Layout.flags)
    ∷ (wait_node Layout.mailboxes 0, few b Layout.mailboxes) ∷ (wait_node Layout.pools 0, few b Layout.pools) ∷ []

abbrev pub mail_lines : List ℕ → List (ℕ × ℕ)
mail_lines b = (mail_node 0, few b Layout.mailboxes) ∷ []

-- ---- numbers

-- of tasks and of messages a node is the number
abbrev pub line_known : List ℕ → Rings → ℕ → Bool
line_known b r a = known 0 (ids_in b r) (line_of (ids_in b r) (words (next_of r) b) a)

abbrev pub tasks_known : List ℕ → Bool
tasks_known b = every_in (task_lines b) (line_known b Tasks)

abbrev pub mails_known : List ℕ → Bool
mails_known b = every_in (mail_lines b) (line_known b Messages)

-- a pool's queue has its own blocks alone, as many as it has
abbrev pub pool_known : List ℕ → ℕ → Bool
pool_known b p = known (before_pool p) (entry Layout.size b p) (line_of (ids_in b Blocks) (words Layout.block_next b) (free_node p))

abbrev pub pools_known : List ℕ → Bool
pools_known b = every (few b Layout.pools) 1 (pool_known b)

unfoldable pub numbers_ok : List ℕ → List ℕ → Bool
numbers_ok b msgs = ranges_ok b msgs && (tasks_known b && (mails_known b && pools_known b))

-- ---- the rules that name an id

-- the task i, whose home is the anchor a
unfoldable pub placed : List ℕ → ℕ → ℕ → Bool
placed b a i = every_in (task_lines b) (stands_right (ids_in b Tasks) (words Layout.next b) a i)

unfoldable pub message_once : List ℕ → ℕ → Bool
message_once b j = at_most_once (ids_in b Messages) (words Layout.mail_next b) j (mail_node 0) 0 1 (few b Layout.mailboxes)

-- block k of pool p, in the pool's queue
abbrev pub block_listed : List ℕ → ℕ → ℕ → Bool
block_listed b p k = stands_right (ids_in b Blocks) (words Layout.block_next b) (block_home b (node_of_block p k)) (node_of_block p k) (free_anchor p)

unfoldable pub pool_listed : List ℕ → ℕ → Bool
pool_listed b p = every (entry Layout.size b p) 1 (block_listed b p)
