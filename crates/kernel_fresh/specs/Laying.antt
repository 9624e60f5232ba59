-- The words that each function of src/lib.rt writes, for any words: the counts and entries of a plan, and empty queues.
use Rattle.std.specs.Prelude.{cond, List, [], ◌∷◌, ℕ, zero, suc, ◌+◌, ◌-◌, ◌*◌, eqb, replicate}
use Rattle.rules.specs.Setup.{word_at}
use Rattle.setup_plan.specs.declared.Plan.{Plan}
use Rattle.memory_columns.specs.declared.Rings.TheVariants as Rings
use Rattle.memory_columns.specs.Layout as Layout
use Rattle.memory_columns.specs.Layout.{state_words, max_alarms, at_most, ready_node, wait_node, mail_node, free_node, put}
use Rattle.memory_queues.specs.Moves.{emptied as emptied_at}

-- f for n ids from i on
unfoldable pub in_turn : (ℕ → List ℕ → List ℕ) → ℕ → ℕ → List ℕ → List ℕ
in_turn f zero i b = b
in_turn f (suc n) i b = in_turn f n (suc i) (f i b)

unfoldable pub counted : Plan → List ℕ → List ℕ
counted p b =
    put Layout.system Layout.messages p.messages
    (put Layout.system Layout.pools p.pools
    (put Layout.system Layout.mailboxes p.mailboxes
    (put Layout.system Layout.flags p.flags
    (put Layout.system Layout.semaphores p.semaphores (put Layout.system Layout.tasks p.tasks (put Layout.system Layout.priorities p.priorities b))))))

-- the word of id i, where each has so many bytes
abbrev pub word_of_id : List ℕ → ℕ → ℕ → ℕ → ℕ
word_of_id s at size i = word_at s (at + size * (i - 1))

unfoldable pub laid_task : List ℕ → ℕ → ℕ → List ℕ → List ℕ
laid_task s at i b = put Layout.start i (word_of_id s at 8 i) (put Layout.priority i (word_of_id s at 8 i) b)

unfoldable pub laid_semaphore : List ℕ → ℕ → ℕ → List ℕ → List ℕ
laid_semaphore s at i b = put Layout.semaphore i (word_of_id s at 4 i) b

unfoldable pub laid_flag : List ℕ → ℕ → ℕ → List ℕ → List ℕ
laid_flag s at i b = put Layout.flag i (word_of_id s at 4 i) b

-- so many blocks, all out
unfoldable pub laid_pool : List ℕ → ℕ → ℕ → List ℕ → List ℕ
laid_pool s at i b = put Layout.size i (word_of_id s at 4 i) b

-- alarm k of the counter whose entry lies there: idle, with its task, and 1 if it wakes it
unfoldable pub laid_alarm : List ℕ → ℕ → ℕ → List ℕ → List ℕ
laid_alarm s at k b = put Layout.alarm_wakes k (at_most (word_at s (at + (8 * (k - 1) + 8))) 1) (put Layout.alarm_task k (word_at s (at + (8 * (k - 1) + 4))) b)

-- the counter, if there is one
unfoldable pub laid_counter : List ℕ → ℕ → ℕ → List ℕ → List ℕ
laid_counter s at n b = cond (eqb n 0) b (in_turn (laid_alarm s at) max_alarms 1 (put Layout.counter Layout.counter_size (word_at s at) b))

unfoldable pub entered : List ℕ → Plan → List ℕ → List ℕ
entered s p b =
    laid_counter s p.at.counter p.counters
    (in_turn (laid_pool s p.at.pools) p.pools 1
    (in_turn (laid_flag s p.at.flags) p.flags 1
    (in_turn (laid_semaphore s p.at.semaphores) p.semaphores 1 (in_turn (laid_task s p.at.tasks) p.tasks 1 b))))

-- the anchors of tasks' queues that are in use, each time the first and how many: ready queues, then the waiters on each kind of object
abbrev pub anchors_of : Plan → List (ℕ × ℕ)
anchors_of p =
    (ready_node 1, p.priorities) ∷ (wait_node Layout.semaphores 1, p.semaphores) ∷ (wait_node Layout.flags 1, p.flags)
    ∷ (wait_node Layout.mailboxes 1, p.mailboxes) ∷ (wait_node Layout.pools 1, p.pools) ∷ []

unfoldable pub emptied_queues : List (ℕ × ℕ) → List ℕ → List ℕ
emptied_queues [] b = b
emptied_queues ((a, n) ∷ l) b = emptied_queues l (in_turn (emptied_at Rings.Tasks) n a b)

-- then the mailboxes, and the queues of free blocks
unfoldable pub emptied : Plan → List ℕ → List ℕ
emptied p b = in_turn (emptied_at Rings.Blocks) p.pools (free_node 1) (in_turn (emptied_at Rings.Messages) p.mailboxes (mail_node 1) (emptied_queues (anchors_of p) b))

-- all of it, in a memory of zeros; no block is free and no task started yet
unfoldable pub laid : List ℕ → Plan → List ℕ
laid s p = emptied p (entered s p (counted p (replicate state_words 0)))
