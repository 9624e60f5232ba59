-- The acts of the rules, done on the memory.
use Rattle.std.specs.Prelude.{true, false, List, [], ◌≡◌, ℕ, suc, nat_abs, length}
use Rattle.std.proofs.Math.Option.{none, some}
use Rattle.rules.specs.Ids.{of, put, In}
use Rattle.rules.specs.Codes.{Code, OK, WAITS, H-NUMBER, H-QUEUE, H-SERVED, H-TWICE, H-FREE, H-CALL, H-PAR, E-NOEXS, E-TPRI, E-ILTIME, E-CTX, E-SELF, E-DMT, H-NODMT, H-SUS, E-NOSUS, E-NOWAI, E-QOVR, H-POLL, H-MSG, H-NEST, H-EXIST, H-ILBLK, H-USED, H-IDLE, E-TMOUT, E-RLWAI, number}
use Rattle.rules.specs.State.{Wait, asleep, timed, on, Handlers, no_handler, in_handler, depth, Setting, unset, due, Body, task, is_absent, is_ready}
use Rattle.rules.specs.Acts.{Act, start, retire, create, delete, rotate, regrade, wait, release, suspend, resume, wakeups, count, pattern, post, receive, mark, elapse, nest, alarm}
use Rattle.rules.specs.Objects.{laid}
use Rattle.rules.specs.Sound.{WaitNumbers}
use Rattle.memory_columns.specs.Layout as Layout
use Rattle.memory_columns.specs.declared.Rings.TheVariants.{Messages}
use Rattle.memory_queues.specs.Moves.{mail_anchor, linked, unlinked}
use Rattle.memory_tasks.specs.Moves.{rotated, started, retired, created, deleted, regraded}
use Rattle.memory_waits.specs.Waits.{halted, resumed, released, slept, waited}
use Rattle.memory_objects.specs.Moves.{marked, nested, alarmed}
use Rattle.memory_time.specs.Elapsing.{elapsed}
use Rattle.memory_picture.specs.Picture.{code_of, kept_of, kind_number}

-- the number by which a cell keeps a code; no cell keeps any other
abbrev pub code_kept : Code → ℕ
code_kept OK = 0
code_kept E-TMOUT = 1
code_kept E-RLWAI = 2
code_kept WAITS = 3
code_kept H-NUMBER = 3
code_kept H-QUEUE = 3
code_kept H-SERVED = 3
code_kept H-TWICE = 3
code_kept H-FREE = 3
code_kept H-CALL = 3
code_kept H-PAR = 3
code_kept E-NOEXS = 3
code_kept E-TPRI = 3
code_kept E-ILTIME = 3
code_kept E-CTX = 3
code_kept E-SELF = 3
code_kept E-DMT = 3
code_kept H-NODMT = 3
code_kept H-SUS = 3
code_kept E-NOSUS = 3
code_kept E-NOWAI = 3
code_kept E-QOVR = 3
code_kept H-POLL = 3
code_kept H-MSG = 3
code_kept H-NEST = 3
code_kept H-EXIST = 3
code_kept H-ILBLK = 3
code_kept H-USED = 3
code_kept H-IDLE = 3

-- task i put into a wait
unfoldable pub put_to_wait : ℕ → Wait → List ℕ → List ℕ
put_to_wait i asleep b = slept i 0 0 b
put_to_wait i (timed t) b = slept i 1 t b
put_to_wait i (on k o p m) b = waited i (kind_number k) o p m b

-- the interrupted task as the memory keeps it: 0 while no handler is open
abbrev pub interrupted_kept : Handlers → ℕ
interrupted_kept no_handler = 0
interrupted_kept (in_handler n i) = i

-- the number by which an alarm keeps a code: without its sign
unfoldable pub kept_number : Code → ℕ
unfolding number
kept_number c = nat_abs (number c)

-- the setting of an alarm as the memory keeps it: one more than the expiry, and the period; 0 and 0 of an idle one
abbrev pub due_kept : Setting → ℕ
due_kept unset = 0
due_kept (due e p) = suc e

abbrev pub period_kept : Setting → ℕ
period_kept unset = 0
period_kept (due e p) = p

-- the words after an act
unfoldable pub performed : Act → List ℕ → List ℕ
performed (start i) b = started i b
performed (retire i) b = retired i b
performed (create i p) b = created i p b
performed (delete i) b = deleted i b
performed (rotate i) b = rotated i b
performed (regrade i p) b = regraded i p b
performed (wait i w) b = put_to_wait i w b
performed (release i c w) b = released i (code_kept c) w b
performed (suspend i) b = halted i b
performed (resume i) b = resumed i b
performed (wakeups i n) b = Layout.put Layout.wakeups i n b
performed (count s n) b = Layout.put Layout.semaphore s n b
performed (pattern f n) b = Layout.put Layout.flag f n b
performed (post j m) b = linked Messages (mail_anchor m) j b
performed (receive j) b = unlinked Messages j b
performed (mark p k t) b = marked p k t b
performed elapse b = elapsed b
performed (nest h) b = nested (depth h) (interrupted_kept h) b
performed (alarm k c s) b = alarmed k (kept_number c) (due_kept s) (period_kept s) b

-- the marks of the messages after an act
unfoldable pub performed_marks : Act → List ℕ → List ℕ
performed_marks (start i) m = m
performed_marks (retire i) m = m
performed_marks (create i p) m = m
performed_marks (delete i) m = m
performed_marks (rotate i) m = m
performed_marks (regrade i p) m = m
performed_marks (wait i w) m = m
performed_marks (release i c w) m = m
performed_marks (suspend i) m = m
performed_marks (resume i) m = m
performed_marks (wakeups i n) m = m
performed_marks (count s n) m = m
performed_marks (pattern f n) m = m
performed_marks (post j b) m = put m j b
performed_marks (receive j) m = put m j 0
performed_marks (mark p k t) m = m
performed_marks elapse m = m
performed_marks (nest h) m = m
performed_marks (alarm k c s) m = m

-- what an act names is there
abbrev pub Fit : Body → Act → Type 0
-- a task that is started is there
Fit b (start i) = In i (length b.tasks) × (is_absent (task b i).state ≡ false)
Fit b (retire i) = In i (length b.tasks)
Fit b (create i p) = In i (length b.tasks)
Fit b (delete i) = In i (length b.tasks)
-- only a ready task is moved in a ready queue
Fit b (rotate i) = In i (length b.tasks) × (is_ready (task b i).state ≡ true)
Fit b (regrade i p) = In i (length b.tasks) × In p b.store.priorities
Fit b (wait i w) = In i (length b.tasks) × WaitNumbers b.store (some w)
Fit b (release i c w) = In i (length b.tasks) × (code_of (code_kept c) ≡ c)
Fit b (suspend i) = In i (length b.tasks)
Fit b (resume i) = In i (length b.tasks)
Fit b (wakeups i n) = In i (length b.tasks)
Fit b (count s n) = In s (length b.store.semaphores)
Fit b (pattern f n) = In f (length b.store.flags)
-- a message that is laid lies nowhere yet
Fit b (post j m) = In j (length b.store.messages) × In m b.store.mailboxes × (laid (of b.store.messages j none) ≡ false)
Fit b (receive j) = In j (length b.store.messages)
Fit b (mark p k t) = In p (length b.store.pools) × In k (length (of b.store.pools p []))
Fit b elapse = Unit {0}
Fit b (nest h) = Unit {0}
-- only a code that an alarm can keep
Fit b (alarm k c s) = In k (length b.counter.alarms) × (kept_of (kept_number c) ≡ c)
