-- The layout of the kernel's memory: one table of columns. A column is a run of words: one field of all tasks, of all objects or of all
-- nodes of the rings, indexed by id; entry 0 is unused. Nothing else knows an offset.
use Rattle.std.specs.Prelude.{Bool, true, false, cond, ◌&&◌, ◌||◌, List, [], ◌∷◌, ◌++◌, ◌≡◌, ℕ, pred, ◌+◌, ◌*◌, eqb, leb, get_or}
use Rattle.memory_rings.specs.Columns.{col, store}
use Rattle.memory_columns.specs.declared.Column as Named
use Rattle.memory_columns.specs.declared.Column.TheVariants as Names
use Rattle.memory_columns.specs.declared.Rings.{Rings}
use Rattle.memory_columns.specs.declared.Rings.TheVariants.{Tasks, Messages, Blocks}

-- ---- limits: the greatest number of each

abbrev pub max_priorities : ℕ
max_priorities = 16

abbrev pub max_tasks : ℕ
max_tasks = 32

-- of semaphores, flags and mailboxes each
abbrev pub max_objects : ℕ
max_objects = 16

abbrev pub max_messages : ℕ
max_messages = 256

abbrev pub max_pools : ℕ
max_pools = 8

abbrev pub max_blocks : ℕ
max_blocks = 32

-- of alarms
abbrev pub max_alarms : ℕ
max_alarms = 8

-- of open handlers
abbrev pub max_depth : ℕ
max_depth = 15

-- ---- columns

-- where it begins, and how many words it has
pub record Column : Type 0 where
  pub at : ℕ
  pub width : ℕ

abbrev pub column : ℕ → ℕ → Column
column p q = record { at = p; width = q }

-- of tasks, by id
abbrev pub status : Column
status = column 0 33

abbrev pub priority : Column
priority = column 33 33

abbrev pub start : Column
start = column 66 33

abbrev pub wakeups : Column
wakeups = column 99 33

-- the cell's code and word
abbrev pub code : Column
code = column 132 33

abbrev pub word : Column
word = column 165 33

-- the wait: its kind, the object, what is asked of a flag, the ticks that are left
abbrev pub kind : Column
kind = column 198 33

abbrev pub object : Column
object = column 231 33

abbrev pub wish : Column
wish = column 264 33

abbrev pub mode : Column
mode = column 297 33

abbrev pub ticks : Column
ticks = column 330 33

-- the rings of tasks: nodes 1 to 32 are tasks, those from 33 on anchors of ready queues and wait queues
abbrev pub next : Column
next = column 363 105

abbrev pub prev : Column
prev = column 468 105

-- of objects, by id: counts, patterns, marks of free blocks and numbers of blocks
abbrev pub semaphore : Column
semaphore = column 573 17

abbrev pub flag : Column
flag = column 590 17

abbrev pub free : Column
free = column 607 9

abbrev pub size : Column
size = column 616 9

-- the rings of messages: nodes 1 to 256 are messages, those from 257 on anchors of mailboxes
abbrev pub mail_next : Column
mail_next = column 625 273

abbrev pub mail_prev : Column
mail_prev = column 898 273

-- how many there are, and the clock; by the entries below
abbrev pub system : Column
system = column 1171 9

-- the handlers that are open; by the entries below
abbrev pub handling : Column
handling = column 1180 2

-- the word of nonempty ready queues: bit p - 1 is that of priority p
abbrev pub nonempty : Column
nonempty = column 1182 1

-- the rings of free blocks: nodes 1 to 256 are the blocks of all pools, 32 for each, those from 257 on anchors of pools
abbrev pub block_next : Column
block_next = column 1183 265

abbrev pub block_prev : Column
block_prev = column 1448 265

-- the counter; by the entries below
abbrev pub counter : Column
counter = column 1713 2

-- of alarms, by number: the task, 1 if it wakes it and 0 if it starts it, the kept code without its sign
abbrev pub alarm_task : Column
alarm_task = column 1715 9

abbrev pub alarm_wakes : Column
alarm_wakes = column 1724 9

abbrev pub alarm_code : Column
alarm_code = column 1733 9

-- one more than the expiry, 0 of an idle alarm; the period, of no meaning of an idle one
abbrev pub alarm_due : Column
alarm_due = column 1742 9

abbrev pub alarm_period : Column
alarm_period = column 1751 9

-- the column that the code names
abbrev pub column_of : Named.Column → Column
column_of Names.Status = status
column_of Names.Priority = priority
column_of Names.Start = start
column_of Names.Wakeups = wakeups
column_of Names.Code = code
column_of Names.Word = word
column_of Names.Kind = kind
column_of Names.Object = object
column_of Names.Wish = wish
column_of Names.Mode = mode
column_of Names.Ticks = ticks
column_of Names.Semaphore = semaphore
column_of Names.Flag = flag
column_of Names.Free = free
column_of Names.Size = size
column_of Names.System = system
column_of Names.Handling = handling
column_of Names.Nonempty = nonempty
column_of Names.Counter = counter
column_of Names.AlarmTask = alarm_task
column_of Names.AlarmWakes = alarm_wakes
column_of Names.AlarmCode = alarm_code
column_of Names.AlarmDue = alarm_due
column_of Names.AlarmPeriod = alarm_period

-- ---- the entries of the system's column

abbrev pub priorities : ℕ
priorities = 0

abbrev pub tasks : ℕ
tasks = 1

-- of objects: the number of their kind, by which a wait names it
abbrev pub semaphores : ℕ
semaphores = 2

abbrev pub flags : ℕ
flags = 3

abbrev pub mailboxes : ℕ
mailboxes = 4

abbrev pub pools : ℕ
pools = 5

abbrev pub messages : ℕ
messages = 6

-- the clock's halves; all before them are counts
abbrev pub clock_low : ℕ
clock_low = 7

abbrev pub clock_high : ℕ
clock_high = 8

-- ---- the entries of the handlers' column

-- how many are open
abbrev pub depth : ℕ
depth = 0

-- the task that the outermost one interrupted, 0 if nobody ran; of no meaning while none is open
abbrev pub interrupted : ℕ
interrupted = 1

-- ---- the entries of the counter's column

-- m, 0 if there is no counter
abbrev pub counter_size : ℕ
counter_size = 0

-- the present count, of no meaning if there is no counter
abbrev pub counter_now : ℕ
counter_now = 1

-- ---- anchors: the nodes of the queues, behind those of tasks, of messages or of blocks

abbrev pub ready_anchors : ℕ
ready_anchors = max_tasks

-- the kinds of objects begin with 2, so that their anchors come behind those of the ready queues
abbrev pub wait_anchors : ℕ
wait_anchors = 16

abbrev pub mail_anchors : ℕ
mail_anchors = max_messages

-- the blocks of all pools
abbrev pub block_nodes : ℕ
block_nodes = max_blocks * max_pools

-- of the ready queue of priority p
abbrev pub ready_node : ℕ → ℕ
ready_node p = ready_anchors + p

-- it is the anchor of a ready queue
abbrev pub is_ready_node : ℕ → Bool
is_ready_node a = leb (ready_node 1) a && leb a (ready_node max_priorities)

-- of the waiters on object o of kind k
abbrev pub wait_node : ℕ → ℕ → ℕ
wait_node k o = wait_anchors + (max_objects * k + o)

-- of the messages of mailbox m
abbrev pub mail_node : ℕ → ℕ
mail_node m = mail_anchors + m

-- of the free blocks of pool p
abbrev pub free_node : ℕ → ℕ
free_node p = block_nodes + p

-- the nodes before the first block of pool p, and the node of its block k
abbrev pub before_pool : ℕ → ℕ
before_pool p = max_blocks * pred p

abbrev pub block_node : ℕ → ℕ → ℕ
block_node p k = before_pool p + k

-- ---- the table

-- the columns of tasks, of objects and of alarms
abbrev pub task_columns : List Column
task_columns = status ∷ priority ∷ start ∷ wakeups ∷ code ∷ word ∷ kind ∷ object ∷ wish ∷ mode ∷ ticks ∷ []

abbrev pub object_columns : List Column
object_columns = semaphore ∷ flag ∷ free ∷ size ∷ []

abbrev pub alarm_columns : List Column
alarm_columns = alarm_task ∷ alarm_wakes ∷ alarm_code ∷ alarm_due ∷ alarm_period ∷ []

-- all of them, in order
abbrev pub columns : List Column
columns = task_columns ++ (next ∷ prev ∷ (object_columns ++ (mail_next ∷ mail_prev ∷ system ∷ handling ∷ nonempty ∷ block_next ∷ block_prev ∷ counter ∷ alarm_columns)))

abbrev pub state_words : ℕ
state_words = 1760

-- the two directions of a ring stand side by side, as the crate `rings` wants them: the links back behind the links forth
abbrev pub back : Column → Column
back c = column (c.at + c.width) c.width

abbrev pub both : Column → Column
both c = column c.at (c.width + c.width)

-- the links forth of the rings of a sort, their links back, and both
abbrev pub next_of : Rings → Column
next_of Tasks = next
next_of Messages = mail_next
next_of Blocks = block_next

abbrev pub prev_of : Rings → Column
prev_of r = back (next_of r)

abbrev pub links_of : Rings → Column
links_of r = both (next_of r)

-- ---- columns among others

-- one ends before the other begins
abbrev pub apart : Column → Column → Bool
apart c d = leb (c.at + c.width) d.at || leb (d.at + d.width) c.at

-- it ends within the memory
abbrev pub fits : Column → Bool
fits c = leb (c.at + c.width) state_words

abbrev pub same : Column → Column → Bool
same c d = eqb c.at d.at && eqb c.width d.width

-- it is one of these
abbrev pub among : List Column → Column → Bool
among [] d = false
among (c ∷ l) d = same c d || among l d

-- it is apart from each of these
abbrev pub clear : List Column → Column → Bool
clear [] d = true
clear (c ∷ l) d = apart c d && clear l d

-- ---- reading and writing

-- the words of a column
abbrev pub words : Column → List ℕ → List ℕ
words c b = col c.at c.width b

-- the entry of an id
abbrev pub entry : Column → List ℕ → ℕ → ℕ
entry c b i = get_or (words c b) i 0

-- the memory with another entry in a column; an index outside it changes nothing
abbrev pub put : Column → ℕ → ℕ → List ℕ → List ℕ
put c i v b = store c.at c.width i v b

-- a count that is too large to be one reads 0
abbrev pub at_most : ℕ → ℕ → ℕ
at_most n most = cond (leb n most) n 0

-- b' is b but for words in the columns l: all that is clear of them is as it was
pub record Only (l : List Column) (b b' : List ℕ) : Type 0 where
  pub kept : (d : Column) → clear l d ≡ true → words d b' ≡ words d b
