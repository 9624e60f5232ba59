-- The acts of which every event is made: what each changes in the state, and who leaves a queue or goes last in one.
use Rattle.std.specs.Prelude.{Bool, true, false, cond, List, [], ◌∷◌, map, ℕ, suc, pred, ◌%◌, ◌^◌, leb}
use Rattle.std.proofs.Math.Option.{Option, none, some}
use Rattle.rules.specs.Ids.{of, put}
use Rattle.rules.specs.Codes.{Code, OK}
use Rattle.rules.specs.State.{Wait, asleep, timed, on, State, dormant, ready, suspended, absent, waiting, waiting_suspended, Cell, Task, Store, Handlers, Setting, Alarm, Counter, alarm_of, Body, task, nobody, is_waiting}
use Rattle.rules.specs.Places.{Item, a_task, a_message, a_block}

pub data Act : Type 0 where
  -- task i: started, sent dormant, given priority p, moved behind the others of its ready queue
  start retire rotate : ℕ → Act
  regrade : ℕ → ℕ → Act
  -- made, dormant at priority p; deleted
  create : ℕ → ℕ → Act
  delete : ℕ → Act
  -- put into a wait, and released from one with a code and a word
  wait : ℕ → Wait → Act
  release : ℕ → Code → ℕ → Act
  suspend resume : ℕ → Act
  -- its wake-up count
  wakeups : ℕ → ℕ → Act
  -- the count of a semaphore, the pattern of a flag
  count pattern : ℕ → ℕ → Act
  -- message j laid in mailbox m, message j taken out
  post : ℕ → ℕ → Act
  receive : ℕ → Act
  -- the mark of block k of pool p: true is free
  mark : ℕ → ℕ → Bool → Act
  -- a tick goes by
  elapse : Act
  -- a handler begins or ends: those that are open then
  nest : Handlers → Act
  -- the kept code and the setting of alarm k
  alarm : ℕ → Code → Setting → Act

-- ---- a record with one field changed

abbrev pub with_state : State → Task → Task
with_state s t = record { state = s; priority = t.priority; start = t.start; wakeups = t.wakeups; cell = t.cell }

abbrev pub with_priority : ℕ → Task → Task
with_priority p t = record { state = t.state; priority = p; start = t.start; wakeups = t.wakeups; cell = t.cell }

abbrev pub with_wakeups : ℕ → Task → Task
with_wakeups n t = record { state = t.state; priority = t.priority; start = t.start; wakeups = n; cell = t.cell }

abbrev pub with_cell : Cell → Task → Task
with_cell c t = record { state = t.state; priority = t.priority; start = t.start; wakeups = t.wakeups; cell = c }

abbrev pub with_semaphores : List ℕ → Store → Store
with_semaphores x u = record { priorities = u.priorities; semaphores = x; flags = u.flags; mailboxes = u.mailboxes; messages = u.messages; pools = u.pools; clock = u.clock }

abbrev pub with_flags : List ℕ → Store → Store
with_flags x u = record { priorities = u.priorities; semaphores = u.semaphores; flags = x; mailboxes = u.mailboxes; messages = u.messages; pools = u.pools; clock = u.clock }

abbrev pub with_messages : List (Option ℕ) → Store → Store
with_messages x u = record { priorities = u.priorities; semaphores = u.semaphores; flags = u.flags; mailboxes = u.mailboxes; messages = x; pools = u.pools; clock = u.clock }

abbrev pub with_pools : List (List Bool) → Store → Store
with_pools x u = record { priorities = u.priorities; semaphores = u.semaphores; flags = u.flags; mailboxes = u.mailboxes; messages = u.messages; pools = x; clock = u.clock }

abbrev pub with_clock : ℕ → Store → Store
with_clock x u = record { priorities = u.priorities; semaphores = u.semaphores; flags = u.flags; mailboxes = u.mailboxes; messages = u.messages; pools = u.pools; clock = x }

abbrev pub with_tasks : List Task → Body → Body
with_tasks l b = record { tasks = l; store = b.store; handlers = b.handlers; counter = b.counter }

abbrev pub with_store : Store → Body → Body
with_store u b = record { tasks = b.tasks; store = u; handlers = b.handlers; counter = b.counter }

abbrev pub with_handlers : Handlers → Body → Body
with_handlers h b = record { tasks = b.tasks; store = b.store; handlers = h; counter = b.counter }

abbrev pub with_counter : Counter → Body → Body
with_counter c b = record { tasks = b.tasks; store = b.store; handlers = b.handlers; counter = c }

abbrev pub with_alarms : List Alarm → Counter → Counter
with_alarms l c = record { size = c.size; now = c.now; alarms = l }

abbrev pub with_setting : Code → Setting → Alarm → Alarm
with_setting c s x = record { task = x.task; wakes = x.wakes; kept = c; setting = s }

-- task i changed by f
abbrev pub change : (Task → Task) → ℕ → Body → Body
change f i b = with_tasks (put b.tasks i (f (task b i))) b

-- ---- what an act makes of a task

-- Ready at its starting priority, cell 0 and 0.
abbrev pub started : Task → Task
started t = record { state = ready; priority = t.start; start = t.start; wakeups = t.wakeups; cell = record { code = OK; word = 0 } }

-- Dormant; the wake-up count is cleared and the starting priority restored.
abbrev pub retired : Task → Task
retired t = record { state = dormant; priority = t.start; start = t.start; wakeups = 0; cell = t.cell }

-- Dormant, with a starting priority. The cell stays: that of a task that is not there is 0 and 0.
abbrev pub created : ℕ → Task → Task
created p t = record { state = dormant; priority = p; start = p; wakeups = 0; cell = t.cell }

-- A released task in WAIT is made ready, one in WAIT-SUSPEND becomes SUSPEND.
abbrev pub freed : State → State
freed dormant = dormant
freed absent = absent
freed ready = ready
freed suspended = suspended
freed (waiting w) = ready
freed (waiting_suspended w) = suspended

-- When a wait ends the answer cell is written: code and word.
abbrev pub released_task : Code → ℕ → Task → Task
released_task c w t = cond (is_waiting t.state) (with_cell (record { code = c; word = w }) (with_state (freed t.state) t)) t

-- A READY or RUN task becomes SUSPEND, a waiting one WAIT-SUSPEND.
abbrev pub halted : State → State
halted dormant = dormant
halted absent = absent
halted ready = suspended
halted suspended = suspended
halted (waiting w) = waiting_suspended w
halted (waiting_suspended w) = waiting_suspended w

-- SUSPEND is made ready, WAIT-SUSPEND becomes WAIT.
abbrev pub resumed : State → State
resumed dormant = dormant
resumed absent = absent
resumed ready = ready
resumed suspended = ready
resumed (waiting w) = waiting w
resumed (waiting_suspended w) = waiting w

-- Each timed wait loses one, suspended or not.
abbrev pub older : State → State
older dormant = dormant
older absent = absent
older ready = ready
older suspended = suspended
older (waiting asleep) = waiting asleep
older (waiting (timed t)) = waiting (timed (pred t))
older (waiting (on k o p m)) = waiting (on k o p m)
older (waiting_suspended asleep) = waiting_suspended asleep
older (waiting_suspended (timed t)) = waiting_suspended (timed (pred t))
older (waiting_suspended (on k o p m)) = waiting_suspended (on k o p m)

-- The clock rises by one, after 2^48 - 1 comes 0.
abbrev pub clock_after : ℕ → ℕ
clock_after n = suc n % 2 ^ 48

-- ---- what an act makes of the counter

-- The counter goes to m - 1 and round, one step a tick.
abbrev pub count_after : ℕ → ℕ → ℕ
count_after m n = cond (leb m (suc n)) 0 (suc n)

abbrev pub stepped : Counter → Counter
stepped c = record { size = c.size; now = count_after c.size c.now; alarms = c.alarms }

-- alarm k with another kept code and setting
abbrev pub change_alarm : ℕ → Code → Setting → Counter → Counter
change_alarm k c s r = with_alarms (put r.alarms k (with_setting c s (alarm_of r k))) r

-- ---- the state after an act

unfoldable pub after : Act → Body → Body
after (start i) b = change started i b
after (retire i) b = change retired i b
after (create i p) b = change (created p) i b
after (delete i) b = change (λ t. nobody) i b
after (rotate i) b = b
after (regrade i p) b = change (with_priority p) i b
after (wait i w) b = change (with_state (waiting w)) i b
after (release i c w) b = change (released_task c w) i b
after (suspend i) b = change (λ t. with_state (halted t.state) t) i b
after (resume i) b = change (λ t. with_state (resumed t.state) t) i b
after (wakeups i n) b = change (with_wakeups n) i b
after (count s n) b = with_store (with_semaphores (put b.store.semaphores s n) b.store) b
after (pattern f n) b = with_store (with_flags (put b.store.flags f n) b.store) b
after (post j m) b = with_store (with_messages (put b.store.messages j (some m)) b.store) b
after (receive j) b = with_store (with_messages (put b.store.messages j none) b.store) b
after (mark p k t) b = with_store (with_pools (put b.store.pools p (put (of b.store.pools p []) k t)) b.store) b
after elapse b = record { tasks = map (λ t. with_state (older t.state) t) b.tasks; store = with_clock (clock_after b.store.clock) b.store; handlers = b.handlers; counter = stepped b.counter }
after (nest h) b = with_handlers h b
after (alarm k c s) b = with_counter (change_alarm k c s b.counter) b

unfoldable pub afters : List Act → Body → Body
afters [] b = b
afters (a ∷ l) b = afters l (after a b)

-- ---- who moves: nobody; one that leaves its queue; one that goes last in the queue that it then belongs to

pub data Move : Type 0 where
  stay : Move
  leave last : Item → Move

abbrev pub released_move : State → Item → Move
released_move dormant x = stay
released_move absent x = stay
released_move ready x = stay
released_move suspended x = stay
released_move (waiting w) x = last x
released_move (waiting_suspended w) x = leave x

-- A READY or RUN task leaves its ready queue; a waiting task keeps its place.
abbrev pub halted_move : State → Item → Move
halted_move dormant x = stay
halted_move absent x = stay
halted_move ready x = leave x
halted_move suspended x = stay
halted_move (waiting w) x = stay
halted_move (waiting_suspended w) x = stay

abbrev pub resumed_move : State → Item → Move
resumed_move dormant x = stay
resumed_move absent x = stay
resumed_move ready x = stay
resumed_move suspended x = last x
resumed_move (waiting w) x = stay
resumed_move (waiting_suspended w) x = stay

-- A READY or RUN task goes last in its queue, even at the same priority.
abbrev pub regraded_move : State → Item → Move
regraded_move dormant x = stay
regraded_move absent x = stay
regraded_move ready x = last x
regraded_move suspended x = stay
regraded_move (waiting w) x = stay
regraded_move (waiting_suspended w) x = stay

-- A returned block goes last among the free ones; a block that is granted leaves them.
abbrev pub marked_move : Bool → Item → Move
marked_move true x = last x
marked_move false x = leave x

-- from the state before the act
unfoldable pub move : Body → Act → Move
move b (start i) = last (a_task i)
move b (retire i) = leave (a_task i)
move b (create i p) = leave (a_task i)
move b (delete i) = leave (a_task i)
move b (rotate i) = last (a_task i)
move b (regrade i p) = regraded_move (task b i).state (a_task i)
move b (wait i w) = last (a_task i)
move b (release i c w) = released_move (task b i).state (a_task i)
move b (suspend i) = halted_move (task b i).state (a_task i)
move b (resume i) = resumed_move (task b i).state (a_task i)
move b (wakeups i n) = stay
move b (count s n) = stay
move b (pattern f n) = stay
move b (post j m) = last (a_message j)
move b (receive j) = leave (a_message j)
move b (mark p k t) = marked_move t (a_block p k)
move b elapse = stay
move b (nest h) = stay
move b (alarm k c s) = stay
