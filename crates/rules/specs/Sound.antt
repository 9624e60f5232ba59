-- A sound state (the paper's word): every rule that a state must keep.
use Rattle.std.specs.Prelude.{Bool, true, false, not, ◌||◌, List, [], ◌∷◌, ◌⊎◌, ◌≢◌, ◌≡◌, ℕ, ◌≤◌, ◌<◌, ◌^◌, eqb, length}
use Rattle.std.proofs.Math.Option.{Option, none, some}
use Rattle.rules.specs.Ids.{of, In, once, times}
use Rattle.rules.specs.Codes.{Code, OK, E-NOEXS, E-DMT, H-NODMT, E-QOVR, E-TMOUT, E-RLWAI}
use Rattle.rules.specs.State.{Kind, semaphore, flag, mailbox, pool, Wait, asleep, timed, on, Cell, Task, Store, Handlers, no_handler, in_handler, depth, Setting, unset, due, Alarm, Counter, alarm_of, alarm_count, Body, task, nobody, objects, wait_of, is_dormant, is_absent, is_freed, sleeps}
use Rattle.rules.specs.Places.{Place, many, lies, belongs, at, Lines, Exists}
use Rattle.rules.specs.Objects.{met, free}
use Rattle.rules.specs.View.{View, line}

-- ---- Numbers lie in their ranges.

-- how many there are of each: the ranges of the setup
pub record Sizes (b : Body) : Type 0 where
  pub priorities : In b.store.priorities 16
  pub tasks : In (length b.tasks) 32
  pub semaphores : length b.store.semaphores ≤ 16
  pub flags : length b.store.flags ≤ 16
  pub mailboxes : b.store.mailboxes ≤ 16
  pub messages : length b.store.messages ≤ 256
  pub pools : length b.store.pools ≤ 8

-- a message lies nowhere or in a mailbox that exists (in one at most, once: its place in that mailbox's line is the queues' rule)
abbrev pub LiesWell : ℕ → Option ℕ → Type 0
LiesWell boxes none = Unit {0}
LiesWell boxes (some m) = In m boxes

pub record StoreNumbers (u : Store) : Type 0 where
  pub semaphores : (s : ℕ) → In s (length u.semaphores) → of u.semaphores s 0 ≤ 65535
  pub flags : (f : ℕ) → In f (length u.flags) → of u.flags f 0 < 2 ^ 32
  pub messages : (j : ℕ) → In j (length u.messages) → LiesWell u.mailboxes (of u.messages j none)
  pub pools : (p : ℕ) → In p (length u.pools) → In (length (of u.pools p [])) 32
  pub clock : u.clock < 2 ^ 48

-- A cell's code is 0, E_TMOUT or E_RLWAI, its word 0 unless the code is 0.
abbrev pub CellNumbers : Cell → Type 0
CellNumbers c = ((c.code ≡ OK) × (c.word < 2 ^ 32)) ⊎ (((c.code ≡ E-TMOUT) ⊎ (c.code ≡ E-RLWAI)) × (c.word ≡ 0))

-- a flag wait has a nonzero pattern and a mode 0..3; other waits have neither
abbrev pub WishNumbers : Kind → ℕ → ℕ → Type 0
WishNumbers semaphore p m = (p ≡ 0) × (m ≡ 0)
WishNumbers flag p m = (p ≢ 0) × (p < 2 ^ 32) × (m ≤ 3)
WishNumbers mailbox p m = (p ≡ 0) × (m ≡ 0)
WishNumbers pool p m = (p ≡ 0) × (m ≡ 0)

-- A wait names an object that exists, a timed wait has 1 to 2147483647 ticks left.
abbrev pub WaitNumbers : Store → Option Wait → Type 0
WaitNumbers u none = Unit {0}
WaitNumbers u (some asleep) = Unit {0}
WaitNumbers u (some (timed t)) = In t 2147483647
WaitNumbers u (some (on k o p m)) = In o (objects u k) × WishNumbers k p m

-- ---- a task

-- no priority, no wake-ups, cell 0 and 0
abbrev pub Vacant : Task → Type 0
Vacant t = (t.priority ≡ 0) × (t.start ≡ 0) × (t.wakeups ≡ 0) × (t.cell.code ≡ OK) × (t.cell.word ≡ 0)

pub record SoundTask (u : Store) (t : Task) : Type 0 where
  pub priority : is_absent t.state ≡ false → In t.priority u.priorities
  pub start : is_absent t.state ≡ false → In t.start u.priorities
  pub wakeups : t.wakeups ≤ 15
  pub cell : CellNumbers t.cell
  pub wait : WaitNumbers u (wait_of t.state)
  -- A sleeper and a dormant task have wake-up count 0;
  pub sleeper : sleeps (wait_of t.state) ≡ true → t.wakeups ≡ 0
  pub dormant : is_dormant t.state ≡ true → t.wakeups ≡ 0
  -- a dormant task has its starting priority.
  pub rest : is_dormant t.state ≡ true → t.priority ≡ t.start
  -- A task not there has cell 0 and 0, no wake-ups and no priority.
  pub absent : is_absent t.state ≡ true → Vacant t

-- ---- The depth is 0..15; above 0 the interrupted task is 0 or one that is ready, running or suspended.

abbrev pub HandlersFit : List Task → Handlers → Type 0
HandlersFit l no_handler = Unit {0}
HandlersFit l (in_handler n i) = (depth (in_handler n i) ≤ 15) × ((i ≡ 0) ⊎ (is_freed (of l i nobody).state ≡ true))

-- ---- The counter: m at most 65535, 0 for none; eight alarms if there is one, each of a task of the setup; expiry 0..m - 1, period 0..m.

-- kept code 0, E_NOEXS, or H_NODMT for a start, E_DMT or E_QOVR for a wake
abbrev pub KeptFits : Bool → Code → Type 0
KeptFits false c = (c ≡ OK) ⊎ ((c ≡ E-NOEXS) ⊎ (c ≡ H-NODMT))
KeptFits true c = (c ≡ OK) ⊎ ((c ≡ E-NOEXS) ⊎ ((c ≡ E-DMT) ⊎ (c ≡ E-QOVR)))

abbrev pub SettingFits : ℕ → Setting → Type 0
SettingFits m unset = Unit {0}
SettingFits m (due e p) = (e < m) × (p ≤ m)

pub record AlarmFits (n m : ℕ) (x : Alarm) : Type 0 where
  pub task : In x.task n
  pub kept : KeptFits x.wakes x.kept
  pub setting : SettingFits m x.setting

-- of n tasks
pub record CounterFits (n : ℕ) (c : Counter) : Type 0 where
  pub size : c.size ≤ 65535
  pub now : (c.now ≡ 0) ⊎ (c.now < c.size)
  pub count : length c.alarms ≡ alarm_count c.size
  pub alarms : (k : ℕ) → In k (length c.alarms) → AlarmFits n c.size (alarm_of c k)

pub record SoundBody (b : Body) : Type 0 where
  pub sizes : Sizes b
  pub store : StoreNumbers b.store
  pub tasks : (i : ℕ) → In i (length b.tasks) → SoundTask b.store (task b i)
  pub handlers : HandlersFit b.tasks b.handlers
  pub counter : CounterFits (length b.tasks) b.counter

-- ---- the queues

-- there is a line for each place and for no other
pub record Shape (u : Store) (l : Lines) : Type 0 where
  pub ready : length l.ready ≡ u.priorities
  pub waiting : (k : Kind) → length (at l.waiting k) ≡ objects u k
  pub mail : length l.mail ≡ u.mailboxes
  pub free : length l.free ≡ length u.pools

-- nobody stands in the line but tasks (or messages, or blocks) that exist
abbrev pub Known : ℕ → List ℕ → Type 0
Known n [] = Unit {0}
Known n (x ∷ l) = In x n × Known n l

-- A READY or RUN task stands once in its priority's queue and nowhere else; a waiter on an object once in that object's queue and
-- nowhere else; others in none. A message lies in one mailbox at most, once. Each free block is listed once, and no other.
pub record Queue (b : Body) (q : Place) (l : List ℕ) : Type 0 where
  pub known : Known (many b q) l
  pub stands : (i : ℕ) → In i (many b q) → times i l ≡ once (belongs b q i)

-- ---- No waiter beside a nonzero semaphore, a waiting message, a free block or a pattern that meets its condition.

abbrev pub any_lies : List (Option ℕ) → ℕ → Bool
any_lies [] m = false
any_lies (x ∷ l) m = lies x m || any_lies l m

-- what stands at the object would serve the waiter
abbrev pub would_serve : Store → Kind → ℕ → ℕ → ℕ → Bool
would_serve u semaphore o p m = not (eqb (of u.semaphores o 0) 0)
would_serve u flag o p m = met (of u.flags o 0) p m
would_serve u mailbox o p m = any_lies u.messages o
would_serve u pool o p m = not (eqb (free (of u.pools o [])) 0)

abbrev pub Unserved : Store → Option Wait → Type 0
Unserved u none = Unit {0}
Unserved u (some asleep) = Unit {0}
Unserved u (some (timed t)) = Unit {0}
Unserved u (some (on k o p m)) = would_serve u k o p m ≡ false

abbrev pub AllUnserved : Body → Type 0
AllUnserved b = (i : ℕ) → In i (length b.tasks) → Unserved b.store (wait_of (task b i).state)

-- ---- a state

pub record Sound (v : View) : Type 0 where
  pub body : SoundBody v.body
  pub shape : Shape v.body.store v.lines
  pub queues : (q : Place) → Exists v.body.store q → Queue v.body q (line v q)
  pub unserved : AllUnserved v.body
