-- A form of every sound view: a memory that shows it. The columns stand one after the other, each computed entry by entry; in the link columns
-- a node's link is found in the line of the queue in which the node stands.
use Rattle.std.specs.Prelude.{Bool, true, false, cond, List, [], ◌∷◌, ◌++◌, map, reverse, ℕ, zero, suc, ◌-◌, ◌*◌, ◌/◌, ◌%◌, ◌^◌, ◌<◌, eqb, leb, length, get_or}
use Rattle.std.proofs.Math.Option.{Option, none, some}
use Rattle.rules.specs.Ids.{of, from, ids, once}
use Rattle.rules.specs.State.{semaphore, flag, mailbox, pool, Wait, asleep, timed, on, State, dormant, ready, suspended, absent, waiting, waiting_suspended, depth, alarm_of, Body, task}
use Rattle.rules.specs.Places.{Place, ready_at, waiters, mail, free_in, Sort, tasks, messages, blocks, sort_at, line_at}
use Rattle.rules.specs.View.{View}
use Rattle.memory_rings.specs.Rings.{All, head_of}
use Rattle.memory_columns.specs.declared.Rings.{Rings}
use Rattle.memory_columns.specs.declared.Rings.TheVariants.{Tasks, Messages, Blocks}
use Rattle.memory_columns.specs.Layout as Layout
use Rattle.memory_columns.specs.Layout.{Column, max_priorities, max_objects, max_messages, max_blocks, ready_node, wait_node, mail_node, free_node, block_node, next_of, prev_of, same}
use Rattle.memory_picture.specs.Picture.{mask_of, occupied, kind_number, anchor}
use Rattle.memory_picture.specs.Perform.{code_kept, interrupted_kept, kept_number, due_kept, period_kept}

-- every entry is a 32-bit word
abbrev pub Fits32 : List ℕ → Type 0
Fits32 l = All (λ x. x < 2 ^ 32) l

-- ---- tasks

abbrev pub status_number : State → ℕ
status_number dormant = 0
status_number ready = 1
status_number suspended = 4
status_number absent = 6
status_number (waiting w) = 3
status_number (waiting_suspended w) = 5

-- the words of a wait
pub record WaitWords : Type 0 where
  pub kind : ℕ
  pub object : ℕ
  pub wish : ℕ
  pub mode : ℕ
  pub ticks : ℕ

abbrev pub no_words : WaitWords
no_words = record { kind = 0; object = 0; wish = 0; mode = 0; ticks = 0 }

abbrev pub wait_words : Wait → WaitWords
wait_words asleep = no_words
wait_words (timed t) = record { kind = 1; object = 0; wish = 0; mode = 0; ticks = t }
wait_words (on k o p m) = record { kind = kind_number k; object = o; wish = p; mode = m; ticks = 0 }

abbrev pub words_of : State → WaitWords
words_of dormant = no_words
words_of ready = no_words
words_of suspended = no_words
words_of absent = no_words
words_of (waiting w) = wait_words w
words_of (waiting_suspended w) = wait_words w

-- ---- objects

abbrev pub box_number : Option ℕ → ℕ
box_number none = 0
box_number (some m) = m

-- ---- links

-- the queue in which a task stands, from its state and priority; and a message, from the mailbox in which it lies
abbrev pub wait_home : Wait → Option Place
wait_home asleep = none
wait_home (timed t) = none
wait_home (on k o p m) = some (waiters k o)

abbrev pub task_home : State → ℕ → Option Place
task_home dormant p = none
task_home ready p = some (ready_at p)
task_home suspended p = none
task_home absent p = none
task_home (waiting w) p = wait_home w
task_home (waiting_suspended w) p = wait_home w

abbrev pub mail_home : Option ℕ → Option Place
mail_home none = none
mail_home (some m) = some (mail m)

-- of a block of pool p, from its mark
abbrev pub block_home : ℕ → Bool → Option Place
block_home p true = some (free_in p)
block_home p false = none

-- of a node: that of task i, of message j, of the block of a pool that has the node
abbrev pub home_of : Body → Rings → ℕ → Option Place
home_of b Tasks i = task_home (task b i).state (task b i).priority
home_of b Messages j = mail_home (of b.store.messages j none)
home_of b Blocks zero = none
home_of b Blocks (suc x) = block_home (suc (x / max_blocks)) (of (of b.store.pools (suc (x / max_blocks)) []) (suc (x % max_blocks)) false)

-- how many nodes are ids
abbrev pub ids_kept : Body → Rings → ℕ
ids_kept b Tasks = length b.tasks
ids_kept b Messages = length b.store.messages
ids_kept b Blocks = max_blocks * length b.store.pools

-- the queue of an anchor
unfoldable pub task_place : ℕ → Place
task_place a =
    cond (leb a (ready_node max_priorities)) (ready_at (a - ready_node 0))
    (cond (leb a (wait_node Layout.semaphores max_objects)) (waiters semaphore (a - wait_node Layout.semaphores 0))
    (cond (leb a (wait_node Layout.flags max_objects)) (waiters flag (a - wait_node Layout.flags 0))
    (cond (leb a (wait_node Layout.mailboxes max_objects)) (waiters mailbox (a - wait_node Layout.mailboxes 0)) (waiters pool (a - wait_node Layout.pools 0)))))

unfoldable pub mail_place : ℕ → Place
mail_place a = mail (a - mail_node 0)

unfoldable pub free_place : ℕ → Place
free_place a = free_in (a - free_node 0)

abbrev pub place_of : Rings → ℕ → Place
place_of Tasks = task_place
place_of Messages = mail_place
place_of Blocks = free_place

-- the nodes of a line, by the sort
abbrev pub nodes_of : Sort → List ℕ → List ℕ
nodes_of tasks l = l
nodes_of messages l = l
nodes_of (blocks p) l = map (block_node p) l

abbrev pub node_lines : (Place → List ℕ) → Place → List ℕ
node_lines L q = nodes_of (sort_at q) (L q)

-- what comes behind x in a line, d behind the last
unfoldable pub following : ℕ → List ℕ → ℕ → ℕ
following x [] d = d
following x (y ∷ l) d = cond (eqb y x) (head_of l d) (following x l d)

-- the link of an id that stands in a queue, or in none
abbrev pub id_link : (Place → List ℕ) → ℕ → Option Place → ℕ
id_link L x none = 0
id_link L x (some q) = following x (L q) (anchor q)

-- the link of node x: up to n an id, above n an anchor
unfoldable pub link : ℕ → (ℕ → Option Place) → (ℕ → Place) → (Place → List ℕ) → ℕ → ℕ
link n home place L x = cond (leb x n) (id_link L x (home x)) (head_of (L (place x)) x)

-- ---- the columns

-- w words, the entries 0 to w - 1 of f
unfoldable pub run : ℕ → (ℕ → ℕ) → List ℕ
run w f = map f (from 0 w)

-- a column and its entries
pub record Part : Type 0 where
  pub column : Column
  pub entry : ℕ → ℕ

abbrev pub part : Column → (ℕ → ℕ) → Part
part c f = record { column = c; entry = f }

-- the entries of a column: its part's, or 0 where it has none
abbrev pub entries : List Part → Column → ℕ → ℕ
entries [] c i = 0
entries (x ∷ l) c i = cond (same x.column c) (x.entry i) (entries l c i)

-- the columns, one after the other
unfoldable pub pile : List Column → (Column → ℕ → ℕ) → List ℕ
pile [] f = []
pile (c ∷ l) f = run c.width (f c) ++ pile l f

-- in the order of their entries
abbrev pub system_words : Body → List ℕ
system_words b =
    b.store.priorities ∷ length b.tasks ∷ length b.store.semaphores ∷ length b.store.flags ∷ b.store.mailboxes ∷ length b.store.pools
    ∷ length b.store.messages ∷ b.store.clock % 2 ^ 32 ∷ b.store.clock / 2 ^ 32 ∷ []

abbrev pub handling_words : Body → List ℕ
handling_words b = depth b.handlers ∷ interrupted_kept b.handlers ∷ []

abbrev pub counter_words : Body → List ℕ
counter_words b = b.counter.size ∷ b.counter.now ∷ []

-- the link of a node among the rings, from the lines of nodes; back is the same of the lines turned round
unfoldable pub ring_link : Body → Rings → (Place → List ℕ) → ℕ → ℕ
ring_link b r M = link (ids_kept b r) (home_of b r) (place_of r) M

abbrev pub next_part : Body → Rings → (Place → List ℕ) → Part
next_part b r L = part (next_of r) (ring_link b r (node_lines L))

abbrev pub prev_part : Body → Rings → (Place → List ℕ) → Part
prev_part b r L = part (prev_of r) (ring_link b r (λ q. reverse (node_lines L q)))

abbrev pub parts : Body → (Place → List ℕ) → List Part
parts b L =
    part Layout.status (λ i. status_number (task b i).state)
    ∷ part Layout.priority (λ i. (task b i).priority)
    ∷ part Layout.start (λ i. (task b i).start)
    ∷ part Layout.wakeups (λ i. (task b i).wakeups)
    ∷ part Layout.code (λ i. code_kept (task b i).cell.code)
    ∷ part Layout.word (λ i. (task b i).cell.word)
    ∷ part Layout.kind (λ i. (words_of (task b i).state).kind)
    ∷ part Layout.object (λ i. (words_of (task b i).state).object)
    ∷ part Layout.wish (λ i. (words_of (task b i).state).wish)
    ∷ part Layout.mode (λ i. (words_of (task b i).state).mode)
    ∷ part Layout.ticks (λ i. (words_of (task b i).state).ticks)
    ∷ next_part b Tasks L
    ∷ prev_part b Tasks L
    ∷ part Layout.semaphore (λ s. of b.store.semaphores s 0)
    ∷ part Layout.flag (λ f. of b.store.flags f 0)
    ∷ part Layout.free (λ p. mask_of (of b.store.pools p []))
    ∷ part Layout.size (λ p. length (of b.store.pools p []))
    ∷ next_part b Messages L
    ∷ prev_part b Messages L
    ∷ part Layout.system (λ k. get_or (system_words b) k 0)
    ∷ part Layout.handling (λ k. get_or (handling_words b) k 0)
    ∷ part Layout.nonempty (λ k. mask_of (map (λ p. occupied (L (ready_at p))) (ids b.store.priorities)))
    ∷ next_part b Blocks L
    ∷ prev_part b Blocks L
    ∷ part Layout.counter (λ k. get_or (counter_words b) k 0)
    ∷ part Layout.alarm_task (λ k. (alarm_of b.counter k).task)
    ∷ part Layout.alarm_wakes (λ k. once (alarm_of b.counter k).wakes)
    ∷ part Layout.alarm_code (λ k. kept_number (alarm_of b.counter k).kept)
    ∷ part Layout.alarm_due (λ k. due_kept (alarm_of b.counter k).setting)
    ∷ part Layout.alarm_period (λ k. period_kept (alarm_of b.counter k).setting)
    ∷ []

-- the memory of a view, and the marks of its messages
unfoldable pub form_of : View → List ℕ
form_of v = pile Layout.columns (entries (parts v.body (line_at v.lines)))

unfoldable pub marks_of : View → List ℕ
marks_of v = run max_messages (λ j. box_number (of v.body.store.messages (suc j) none))
