-- The kernel with queues: its fresh state, and an event on a state that may be damaged.
use Rattle.std.specs.Prelude.{true, false, cond, List, [], ◌∷◌, ◌++◌, map, ℕ, suc, ℤ, replicate}
use Rattle.std.proofs.Math.Option.{none}
use Rattle.rules.specs.Ids.{ids}
use Rattle.rules.specs.Codes.{Code, OK}
use Rattle.rules.specs.State.{dormant, Cell, Task, no_handler, unset, Alarm, Counter, Body}
use Rattle.rules.specs.Places.{tabulate}
use Rattle.rules.specs.Setup.{Entry, AlarmEntry, CounterEntry, Setup}
use Rattle.rules.specs.Events.{Event}
use Rattle.rules.specs.Acts.{Act, start, mark}
use Rattle.rules.specs.View.{View, running, acts}
use Rattle.rules.specs.Table.{judge}
use Rattle.rules.specs.Answers.{Answer, answer, read_cell}
use Rattle.rules.specs.Sound.{Sound}
use Rattle.rules.specs.Check.{sound?}
use Rattle.rules.specs.Breach.{breach}

-- ---- fresh

abbrev pub idle_task : Entry → Task
idle_task e = record { state = dormant; priority = e.priority; start = e.priority; wakeups = 0; cell = record { code = OK; word = 0 } }

abbrev pub idle_alarm : AlarmEntry → Alarm
idle_alarm e = record { task = e.task; wakes = e.wakes; kept = OK; setting = unset }

-- at 0, with all alarms idle
abbrev pub idle_counter : List CounterEntry → Counter
idle_counter [] = record { size = 0; now = 0; alarms = [] }
idle_counter (c ∷ l) = record { size = c.size; now = 0; alarms = map idle_alarm c.alarms }

-- before the start: every task dormant, every block out, every mailbox empty, clock 0, wake-up counts 0, answer cells 0 and 0, no handler open,
-- the counter at 0 with all alarms idle
unfoldable pub idle : Setup → Body
idle u = record {
  tasks = map idle_task u.tasks;
  store = record {
    priorities = u.priorities;
    semaphores = u.semaphores;
    flags = u.flags;
    mailboxes = u.mailboxes;
    messages = replicate u.messages none;
    pools = map (λ n. replicate n false) u.pools;
    clock = 0;
  };
  handlers = no_handler;
  counter = idle_counter u.counters;
}

-- Every block is free: those of each pool, from pool p on, in the order of their numbers.
unfoldable pub frees : ℕ → List ℕ → List Act
frees p [] = []
frees p (n ∷ l) = map (λ k. mark p k true) (ids n) ++ frees (suc p) l

-- Started tasks enter the ready queues in id order, the others are dormant.
unfoldable pub starts : ℕ → List Entry → List Act
starts i [] = []
starts i (e ∷ l) = cond e.started (start i ∷ starts (suc i) l) (starts (suc i) l)

-- how a fresh state comes about: the blocks are freed, then the tasks started
unfoldable pub begins : Setup → List Act
begins u = frees 1 u.pools ++ starts 1 u.tasks

unfoldable pub fresh : Setup → View
fresh u = acts (begins u) (record { body = idle u; lines = tabulate (idle u).store (λ q. []) })

-- ---- an event

pub record Outcome : Type 0 where
  pub answer : Answer
  pub next : View

-- the state after the acts of the verdict
unfoldable pub next : View → Event → View
next v e = acts (judge v e).acts v

unfoldable pub served : View → Event → Outcome
served v e = record { answer = answer (judge v e) v (next v e); next = next v e }

-- The first rule broken, and in w1 the smallest id at which it is; w2 0, 0 released, the running task given as 0, the state unchanged.
unfoldable pub damaged : View → Outcome
damaged v = record { answer = record { code = (breach v).code; w1 = (breach v).id; w2 = 0; runs = 0; released = 0 }; next = v }

-- A negative code has w1 = w2 = 0, 0 released, the state unchanged and the running task as before.
unfoldable pub refusal : View → Code → Outcome
refusal v c = record { answer = record { code = c; w1 = 0; w2 = 0; runs = running v; released = 0 }; next = v }

-- Damage comes before every other refusal, of calls, ticks, entries and returns.
unfoldable pub guarded : (v : View) → Event → Dec (Sound v) → Outcome
guarded v e (yes s) = served v e
guarded v e (no h) = damaged v

unfoldable pub event : View → Event → Outcome
event v e = guarded v e (sound? v)

-- the cell of a task; of a damaged state the code of the first rule broken, with word 0
unfoldable pub guarded_cell : (v : View) → ℤ → Dec (Sound v) → Cell
guarded_cell v a (yes s) = read_cell v.body a
guarded_cell v a (no h) = record { code = (breach v).code; word = 0 }

unfoldable pub cell : View → ℤ → Cell
cell v a = guarded_cell v a (sound? v)
