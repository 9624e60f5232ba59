-- What both kernels keep: everything but the queues.
use Rattle.std.specs.Prelude.{Bool, true, false, List, ℕ, zero, suc, length}
use Rattle.std.proofs.Math.Option.{Option, none, some}
use Rattle.rules.specs.Ids.{of}
use Rattle.rules.specs.Codes.{Code, OK}

-- the four kinds of object that a task can wait on
pub data Kind : Type 0 where
  semaphore flag mailbox pool : Kind

-- What a task waits for: a wake-up, for ever or for so many ticks; or an object of a kind, by its id. A waiter on a flag also has
-- the pattern that it asks for and its mode; for any other kind these two are 0.
pub data Wait : Type 0 where
  asleep : Wait
  timed : ℕ → Wait
  on : Kind → ℕ → ℕ → ℕ → Wait

-- RUN is not kept: it is the running rule's task, if it is one of the ready ones. A task that is not there is absent.
pub data State : Type 0 where
  dormant ready suspended absent : State
  waiting waiting_suspended : Wait → State

-- the answer cell (the paper's word) of a task: how its last wait ended
pub record Cell : Type 0 where
  pub code : Code
  pub word : ℕ

pub record Task : Type 0 where
  pub state : State
  pub priority : ℕ
  -- its starting priority
  pub start : ℕ
  -- its wake-up count
  pub wakeups : ℕ
  pub cell : Cell

-- of semaphores the count, of flags the pattern, of messages the mailbox in which each lies, of pools a mark for each block: true is free
pub record Store : Type 0 where
  pub priorities : ℕ
  pub semaphores : List ℕ
  pub flags : List ℕ
  pub mailboxes : ℕ
  pub messages : List (Option ℕ)
  pub pools : List (List Bool)
  pub clock : ℕ

-- The handlers: none is open; or so many beside the outermost one, and the task that it interrupted (0 if nobody ran).
pub data Handlers : Type 0 where
  no_handler : Handlers
  in_handler : ℕ → ℕ → Handlers

-- how many are open
abbrev pub depth : Handlers → ℕ
depth no_handler = 0
depth (in_handler n i) = suc n

abbrev pub is_open : Handlers → Bool
is_open no_handler = false
is_open (in_handler n i) = true

-- An alarm is idle, or due: at a count of the counter, and with its period (0: once).
pub data Setting : Type 0 where
  unset : Setting
  due : ℕ → ℕ → Setting

abbrev pub in_use : Setting → Bool
in_use unset = false
in_use (due e p) = true

pub record Alarm : Type 0 where
  -- the task that it starts or wakes
  pub task : ℕ
  pub wakes : Bool
  -- its kept code: how its last firing ended
  pub kept : Code
  pub setting : Setting

pub record Counter : Type 0 where
  -- m; 0 where there is no counter
  pub size : ℕ
  -- the present count
  pub now : ℕ
  pub alarms : List Alarm

pub record Body : Type 0 where
  pub tasks : List Task
  pub store : Store
  pub handlers : Handlers
  pub counter : Counter

-- what is read at an id that no task has, and what a task that is not there has: no priority, no wake-ups, cell 0 and 0
abbrev pub nobody : Task
nobody = record { state = absent; priority = 0; start = 0; wakeups = 0; cell = record { code = OK; word = 0 } }

abbrev pub task : Body → ℕ → Task
task b i = of b.tasks i nobody

-- what is read at a number that no alarm has
abbrev pub no_alarm : Alarm
no_alarm = record { task = 0; wakes = false; kept = OK; setting = unset }

abbrev pub alarm_of : Counter → ℕ → Alarm
alarm_of c k = of c.alarms k no_alarm

-- eight alarms; none where there is no counter
abbrev pub alarm_count : ℕ → ℕ
alarm_count zero = 0
alarm_count (suc m) = 8

-- how many objects of a kind there are
abbrev pub objects : Store → Kind → ℕ
objects u semaphore = length u.semaphores
objects u flag = length u.flags
objects u mailbox = u.mailboxes
objects u pool = length u.pools

-- ---- what is asked of a state

abbrev pub wait_of : State → Option Wait
wait_of dormant = none
wait_of absent = none
wait_of ready = none
wait_of suspended = none
wait_of (waiting w) = some w
wait_of (waiting_suspended w) = some w

abbrev pub is_dormant : State → Bool
is_dormant dormant = true
is_dormant absent = false
is_dormant ready = false
is_dormant suspended = false
is_dormant (waiting w) = false
is_dormant (waiting_suspended w) = false

-- not there
abbrev pub is_absent : State → Bool
is_absent dormant = false
is_absent absent = true
is_absent ready = false
is_absent suspended = false
is_absent (waiting w) = false
is_absent (waiting_suspended w) = false

-- READY or RUN
abbrev pub is_ready : State → Bool
is_ready dormant = false
is_ready absent = false
is_ready ready = true
is_ready suspended = false
is_ready (waiting w) = false
is_ready (waiting_suspended w) = false

-- SUSPEND or WAIT-SUSPEND
abbrev pub is_suspended : State → Bool
is_suspended dormant = false
is_suspended absent = false
is_suspended ready = false
is_suspended suspended = true
is_suspended (waiting w) = false
is_suspended (waiting_suspended w) = true

-- WAIT or WAIT-SUSPEND
abbrev pub is_waiting : State → Bool
is_waiting dormant = false
is_waiting absent = false
is_waiting ready = false
is_waiting suspended = false
is_waiting (waiting w) = true
is_waiting (waiting_suspended w) = true

-- READY, RUN or SUSPEND: where a release leads
abbrev pub is_freed : State → Bool
is_freed dormant = false
is_freed absent = false
is_freed ready = true
is_freed suspended = true
is_freed (waiting w) = false
is_freed (waiting_suspended w) = false

-- a sleeper waits by slp_tsk or wai_tsk
abbrev pub sleeps : Option Wait → Bool
sleeps none = false
sleeps (some asleep) = true
sleeps (some (timed t)) = true
sleeps (some (on k o p m)) = false

-- what a waiter on a flag asks for: pattern and mode
abbrev pub wish : Option Wait → ℕ × ℕ
wish none = (0, 0)
wish (some asleep) = (0, 0)
wish (some (timed t)) = (0, 0)
wish (some (on k o p m)) = (p, m)
