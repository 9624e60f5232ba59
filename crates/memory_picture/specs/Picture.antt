-- What any memory shows (the paper's picture), as a total function: the body from the columns, the lines by bounded walks along the links.
-- A word that is no code, status, kind or mask shows what no sound state has.
use Rattle.std.specs.Prelude.{Bool, true, false, cond, List, [], ◌∷◌, map, ◌≡◌, ℕ, zero, suc, ◌+◌, ◌-◌, ◌*◌, ◌/◌, ◌%◌, ◌^◌, ◌<◌, eqb, leb, length}
use Rattle.std.proofs.Math.Option.{Option, none, some}
use Rattle.rules.specs.Ids.{of, ids, once}
use Rattle.rules.specs.Codes.{Code, OK, H-NUMBER, E-NOEXS, E-DMT, H-NODMT, E-QOVR, E-TMOUT, E-RLWAI}
use Rattle.rules.specs.State.{Kind, semaphore, flag, mailbox, pool, Wait, asleep, timed, on, State, dormant, ready, suspended, absent, waiting, waiting_suspended, Task, Store, Handlers, no_handler, in_handler, Setting, unset, due, Alarm, Counter, alarm_count, Body}
use Rattle.rules.specs.Places.{Place, ready_at, waiters, mail, free_in, Sort, tasks, messages, blocks, sort_at, Exists, tabulate}
use Rattle.rules.specs.View.{View}
use Rattle.rules.specs.Sound.{Sound}
use Rattle.memory_rings.specs.Rings.{line_of, Linked}
use Rattle.memory_columns.specs.declared.Rings.{Rings}
use Rattle.memory_columns.specs.declared.Rings.TheVariants.{Tasks, Messages, Blocks}
use Rattle.memory_columns.specs.Layout as Layout
use Rattle.memory_columns.specs.Layout.{state_words, max_messages, max_blocks, ready_node, wait_node, mail_node, free_node, before_pool, next_of, prev_of, words, entry}

-- ---- tasks

unfoldable pub code_of : ℕ → Code
code_of c = cond (eqb c 0) OK (cond (eqb c 1) E-TMOUT (cond (eqb c 2) E-RLWAI H-NUMBER))

-- no sound wait has 0 ticks left
abbrev pub no_wait : Wait
no_wait = timed 0

-- pattern and mode are a flag wait's alone, ticks a timed wait's
unfoldable pub wait_shown : ℕ → ℕ → ℕ → ℕ → ℕ → Wait
wait_shown k o p m t =
    cond (eqb k 0) asleep (cond (eqb k 1) (timed t) (cond (eqb k 2) (on semaphore o 0 0) (cond (eqb k 3) (on flag o p m)
    (cond (eqb k 4) (on mailbox o 0 0) (cond (eqb k 5) (on pool o 0 0) no_wait)))))

unfoldable pub state_shown : ℕ → Wait → State
state_shown s w = cond (eqb s 0) dormant (cond (eqb s 1) ready (cond (eqb s 3) (waiting w) (cond (eqb s 4) suspended (cond (eqb s 5) (waiting_suspended w) (cond (eqb s 6) absent (waiting no_wait))))))

unfoldable pub task_shown : List ℕ → ℕ → Task
task_shown b i = record {
  state = state_shown (entry Layout.status b i) (wait_shown (entry Layout.kind b i) (entry Layout.object b i) (entry Layout.wish b i) (entry Layout.mode b i) (entry Layout.ticks b i));
  priority = entry Layout.priority b i;
  start = entry Layout.start b i;
  wakeups = entry Layout.wakeups b i;
  cell = record { code = code_of (entry Layout.code b i); word = entry Layout.word b i };
}

-- ---- objects

-- 0 is no mailbox
abbrev pub message_shown : ℕ → Option ℕ
message_shown m = cond (eqb m 0) none (some m)

-- the k lowest bits of a mask
unfoldable pub bits_of : ℕ → ℕ → List Bool
bits_of zero m = []
bits_of (suc k) m = eqb (m % 2) 1 ∷ bits_of k (m / 2)

-- a pool of k blocks; a mask with more bits shows a pool with none, which no sound state has
unfoldable pub pool_shown : ℕ → ℕ → List Bool
pool_shown k m = cond (eqb (m / 2 ^ k) 0) (bits_of k m) []

-- how many tasks, messages and pools there are. What stands at a number above them is no part of the picture.
abbrev pub tasks_shown : List ℕ → ℕ
tasks_shown b = entry Layout.system b Layout.tasks

abbrev pub messages_shown : List ℕ → ℕ
messages_shown b = entry Layout.system b Layout.messages

abbrev pub pools_shown : List ℕ → ℕ
pools_shown b = entry Layout.system b Layout.pools

-- ticks since the start, in two halves
abbrev pub clock_shown : List ℕ → ℕ
clock_shown b = entry Layout.system b Layout.clock_low + 2 ^ 32 * entry Layout.system b Layout.clock_high

unfoldable pub store_shown : List ℕ → List ℕ → Store
store_shown b msgs = record {
  priorities = entry Layout.system b Layout.priorities;
  semaphores = map (entry Layout.semaphore b) (ids (entry Layout.system b Layout.semaphores));
  flags = map (entry Layout.flag b) (ids (entry Layout.system b Layout.flags));
  mailboxes = entry Layout.system b Layout.mailboxes;
  messages = map (λ j. message_shown (of msgs j 0)) (ids (messages_shown b));
  pools = map (λ p. pool_shown (entry Layout.size b p) (entry Layout.free b p)) (ids (pools_shown b));
  clock = clock_shown b;
}

-- how many handlers are open, and the interrupted task, which is no part of the picture while none is
abbrev pub open_shown : ℕ → ℕ → Handlers
open_shown zero i = no_handler
open_shown (suc n) i = in_handler n i

unfoldable pub handlers_shown : List ℕ → Handlers
handlers_shown b = open_shown (entry Layout.handling b Layout.depth) (entry Layout.handling b Layout.interrupted)

-- ---- the counter and its alarms

-- a kept code by its number without the sign
unfoldable pub kept_of : ℕ → Code
kept_of c = cond (eqb c 0) OK (cond (eqb c 3) H-NODMT (cond (eqb c 2100) E-NOEXS (cond (eqb c 2101) E-DMT (cond (eqb c 2889) E-QOVR H-NUMBER))))

-- one more than the expiry, 0 of an idle alarm; and the period, which is no part of the picture while it is idle
abbrev pub setting_shown : ℕ → ℕ → Setting
setting_shown zero p = unset
setting_shown (suc e) p = due e p

-- where it is neither told to start nor to wake, task 0 is shown, which no sound state has
unfoldable pub alarm_shown : List ℕ → ℕ → Alarm
alarm_shown b k = record {
  task = cond (leb (entry Layout.alarm_wakes b k) 1) (entry Layout.alarm_task b k) 0;
  wakes = eqb (entry Layout.alarm_wakes b k) 1;
  kept = kept_of (entry Layout.alarm_code b k);
  setting = setting_shown (entry Layout.alarm_due b k) (entry Layout.alarm_period b k);
}

-- the size and the count, which is no part of the picture if there is no counter
abbrev pub count_shown : ℕ → ℕ → ℕ
count_shown zero n = 0
count_shown (suc m) n = n

unfoldable pub counter_shown : List ℕ → Counter
counter_shown b = record {
  size = entry Layout.counter b Layout.counter_size;
  now = count_shown (entry Layout.counter b Layout.counter_size) (entry Layout.counter b Layout.counter_now);
  alarms = map (alarm_shown b) (ids (alarm_count (entry Layout.counter b Layout.counter_size)));
}

unfoldable pub body_shown : List ℕ → List ℕ → Body
body_shown b msgs = record { tasks = map (task_shown b) (ids (tasks_shown b)); store = store_shown b msgs; handlers = handlers_shown b; counter = counter_shown b }

-- ---- queues

-- the number of a kind of object, as the memory keeps it: of their count, too
abbrev pub kind_number : Kind → ℕ
kind_number semaphore = Layout.semaphores
kind_number flag = Layout.flags
kind_number mailbox = Layout.mailboxes
kind_number pool = Layout.pools

-- the anchor of a queue
unfoldable pub anchor : Place → ℕ
anchor (ready_at p) = ready_node p
anchor (waiters k o) = wait_node (kind_number k) o
anchor (mail m) = mail_node m
anchor (free_in p) = free_node p

-- the rings in which what is of a sort stands
abbrev pub rings_of : Sort → Rings
rings_of tasks = Tasks
rings_of messages = Messages
rings_of (blocks p) = Blocks

abbrev pub rings_at : Place → Rings
rings_at q = rings_of (sort_at q)

-- how many of their nodes are ids; each pool has as many as a pool can have blocks
abbrev pub ids_shown : List ℕ → Rings → ℕ
ids_shown b Tasks = tasks_shown b
ids_shown b Messages = messages_shown b
ids_shown b Blocks = max_blocks * pools_shown b

-- what a line of nodes shows, by the sort: a node of another pool shows a number that is no block's
abbrev pub numbers_of : Sort → List ℕ → List ℕ
numbers_of tasks l = l
numbers_of messages l = l
numbers_of (blocks p) l = map (λ x. x - before_pool p) l

abbrev pub nodes_shown : List ℕ → Place → List ℕ
nodes_shown b q = line_of (ids_shown b (rings_at q)) (words (next_of (rings_at q)) b) (anchor q)

unfoldable pub line_shown : List ℕ → Place → List ℕ
line_shown b q = numbers_of (sort_at q) (nodes_shown b q)

unfoldable pub view_shown : List ℕ → List ℕ → View
view_shown b msgs = record { body = body_shown b msgs; lines = tabulate (store_shown b msgs) (line_shown b) }

-- ---- the word of nonempty ready queues

-- marks as the bits of a word, the first lowest
unfoldable pub mask_of : List Bool → ℕ
mask_of [] = 0
mask_of (t ∷ l) = once t + 2 * mask_of l

abbrev pub occupied : List ℕ → Bool
occupied [] = false
occupied (x ∷ l) = true

-- a bit for each priority, set where a task stands in its ready queue
unfoldable pub nonempty_shown : List ℕ → ℕ
nonempty_shown b = mask_of (map (λ p. occupied (line_shown b (ready_at p))) (ids (entry Layout.system b Layout.priorities)))

-- ---- whole links

-- an anchor of these rings that is in use
pub record Used (u : Store) (r : Rings) (a : ℕ) : Type 0 where
  pub place : Place
  pub there : Exists u place
  pub among : rings_at place ≡ r
  pub here : anchor place ≡ a

-- these links are rings, forwards and backwards
abbrev pub WholeRings : List ℕ → List ℕ → Rings → Type 0
WholeRings b msgs r = Linked (ids_shown b r) (Used (store_shown b msgs) r) (words (next_of r) b) (words (prev_of r) b) (line_of (ids_shown b r) (words (next_of r) b))

-- the memory has its size, the clock's low half is a word, the links are rings, forwards and backwards, and the word of nonempty ready queues
-- is that of the rings
pub record Whole (b msgs : List ℕ) : Type 0 where
  pub size : length b ≡ state_words
  pub marks : length msgs ≡ max_messages
  pub low : entry Layout.system b Layout.clock_low < 2 ^ 32
  pub rings : (r : Rings) → WholeRings b msgs r
  pub word : entry Layout.nonempty b 0 ≡ nonempty_shown b

-- the memory shows the view
pub record Shows (b msgs : List ℕ) (v : View) : Type 0 where
  pub whole : Whole b msgs
  pub view : view_shown b msgs ≡ v

-- the links are whole and the view shown is sound
pub record Accepted (b msgs : List ℕ) : Type 0 where
  pub whole : Whole b msgs
  pub sound : Sound (view_shown b msgs)

-- a lent memory: the words, and the marks of messages
pub record Memory : Type 0 where
  pub words : List ℕ
  pub marks : List ℕ

abbrev pub memory : List ℕ → List ℕ → Memory
memory b m = record { words = b; marks = m }

-- what it shows, and that it is accepted
abbrev pub view_in : Memory → View
view_in m = view_shown m.words m.marks

abbrev pub SoundIn : Memory → Type 0
SoundIn m = Accepted m.words m.marks
