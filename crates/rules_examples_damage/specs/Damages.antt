-- Worked examples of damaged states, and of sound ones near them.
use Rattle.std.specs.Prelude.{Bool, true, false, cond, List, [], ◌∷◌, map, ℕ, ◌-◌, ◌^◌, ℤ, pos, replicate}
use Rattle.std.proofs.Math.Option.{Option, none, some}
use Rattle.rules.specs.Ids.{put}
use Rattle.rules.specs.Codes.{OK, H-POLL, E-RLWAI, minus, number}
use Rattle.rules.specs.Setup.{Read, got, and_then, setup}
use Rattle.rules.specs.Events.{Event}
use Rattle.rules.specs.State.{Kind, semaphore, flag, mailbox, pool, asleep, timed, on, State, suspended, waiting, waiting_suspended, in_handler, Body, dormant, absent, nobody}
use Rattle.rules.specs.Places.{same_kind, at, each}
use Rattle.rules.specs.Acts.{with_state, with_priority, with_wakeups, with_cell, with_semaphores, with_flags, with_messages, with_pools, with_store, with_handlers, change}
use Rattle.rules.specs.View.{View}
use Rattle.rules.specs.Answers.{numbers}
use Rattle.rules.specs.Kernel.{fresh, event, cell}
use Rattle.rules.specs.Runs.{answers}
use Rattle.rules_examples.specs.Bytes.{example_bytes}
use Rattle.rules_examples.specs.BenchSheet.{at_clock}

abbrev pub with_body : (Body → Body) → View → View
with_body f v = record { body = f v.body; lines = v.lines }

-- the lines of a priority, of an object, of a mailbox and of a pool changed
abbrev pub with_ready : ℕ → List ℕ → View → View
with_ready p l v = record { body = v.body; lines = record { ready = put v.lines.ready p l; waiting = v.lines.waiting; mail = v.lines.mail; free = v.lines.free } }

abbrev with_waiters : Kind → ℕ → List ℕ → View → View
with_waiters k o l v = record {
  body = v.body;
  lines = record {
    ready = v.lines.ready;
    waiting = each (λ j. cond (same_kind k j) (put (at v.lines.waiting j) o l) (at v.lines.waiting j));
    mail = v.lines.mail;
    free = v.lines.free;
  };
}

abbrev with_mail : ℕ → List ℕ → View → View
with_mail m l v = record { body = v.body; lines = record { ready = v.lines.ready; waiting = v.lines.waiting; mail = put v.lines.mail m l; free = v.lines.free } }

abbrev with_free : ℕ → List ℕ → View → View
with_free p l v = record { body = v.body; lines = record { ready = v.lines.ready; waiting = v.lines.waiting; mail = v.lines.mail; free = put v.lines.free p l } }

-- the mailbox in which each message lies, whatever stands there
abbrev with_marks : List (Option ℕ) → View → View
with_marks l = with_body (λ b. with_store (with_messages l b.store) b)

-- message 1 laid by hand in a mailbox
abbrev pub with_message : ℕ → View → View
with_message m v = with_mail m (1 ∷ []) (with_marks (some m ∷ none ∷ none ∷ []) v)

-- task 2 put by hand into a wait on an object, with a pattern and a mode; everything else as it must then be
abbrev pub with_waiter : Kind → ℕ → ℕ → ℕ → View → View
with_waiter k o p m v = with_waiters k o (2 ∷ []) (with_ready 2 (1 ∷ 5 ∷ []) (with_body (change (with_state (waiting (on k o p m))) 2) v))

-- task 2 put by hand into a sleep
abbrev pub with_sleeper : State → View → View
with_sleeper s v = with_ready 2 (1 ∷ 5 ∷ []) (with_body (change (with_state s) 2) v)

-- other blocks in pool 1, whatever stands in its queue
abbrev with_blocks : List Bool → View → View
with_blocks l = with_body (λ b. with_store (with_pools (l ∷ (true ∷ []) ∷ []) b.store) b)

-- a damaged state, made of the fresh one, and what it is told as: the first rule broken, and the smallest id at which it is
pub record Damage : Type 0 where
  pub code : ℤ
  pub id : ℕ
  pub made : View → View

abbrev pub told : ℤ → ℕ → (View → View) → Damage
told c i f = record { code = c; id = i; made = f }

-- each breaks one rule in the fresh state of the examples' setup
abbrev pub damages : List Damage
damages =
    -- A READY or RUN task stands once in its priority's queue and nowhere else: task 1 stands in it twice;
    told (minus 21) 1 (with_ready 2 (1 ∷ 2 ∷ 5 ∷ 1 ∷ []))
    -- task 5 stands in none;
    ∷ told (minus 21) 5 (with_ready 2 (1 ∷ 2 ∷ []))
    -- task 4 stands in another priority's as well;
    ∷ told (minus 21) 4 (with_ready 2 (1 ∷ 2 ∷ 5 ∷ 4 ∷ []))
    -- a task 9, that there is not, stands in one.
    ∷ told (minus 20) 0 (with_ready 4 (9 ∷ []))
    -- Others stand in none: task 2, SUSPEND, has kept its place.
    ∷ told (minus 21) 2 (with_body (change (with_state suspended) 2))
    -- A waiter on an object stands once in that object's queue: task 2 stands in none; in another's as well.
    ∷ told (minus 21) 2 (λ v. with_waiters semaphore 1 [] (with_waiter semaphore 1 0 0 v))
    ∷ told (minus 21) 2 (λ v. with_waiters semaphore 2 (2 ∷ []) (with_waiter semaphore 1 0 0 v))
    -- No waiter beside a nonzero semaphore (semaphore 2 has the count 1), a waiting message, a free block or a pattern that meets its
    -- condition (flag 2 has the pattern 5).
    ∷ told (minus 22) 2 (with_waiter semaphore 2 0 0)
    ∷ told (minus 22) 2 (λ v. with_message 1 (with_waiter mailbox 1 0 0 v))
    ∷ told (minus 22) 2 (with_waiter pool 1 0 0)
    ∷ told (minus 22) 2 (with_waiter flag 2 4 0)
    -- Any bit of 6 is met by 5.
    ∷ told (minus 22) 2 (with_waiter flag 2 6 1)
    -- Task 2 may be suspended as well.
    ∷ told (minus 22) 2 (λ v. with_body (change (with_state (waiting_suspended (on semaphore 2 0 0))) 2) (with_waiter semaphore 2 0 0 v))
    -- A wait names an object that exists: there is no semaphore 4, and none is 0. A flag wait has a nonzero pattern and a mode 0..3.
    ∷ told (minus 20) 0 (with_waiter semaphore 4 0 0)
    ∷ told (minus 20) 0 (with_waiter semaphore 0 0 0)
    ∷ told (minus 20) 0 (with_waiter flag 1 0 1)
    ∷ told (minus 20) 0 (with_waiter flag 1 2 4)
    -- Numbers lie in their ranges: the clock is 2^48; a wake-up count is 16; a priority is 5; a semaphore has the
    -- count 65536.
    ∷ told (minus 20) 0 (with_body (at_clock (2 ^ 48)))
    ∷ told (minus 20) 0 (with_body (change (with_wakeups 16) 1))
    ∷ told (minus 20) 0 (λ v. with_ready 3 [] (with_body (change (with_priority 5) 4) v))
    ∷ told (minus 20) 0 (with_body (λ b. with_store (with_semaphores (0 ∷ 1 ∷ 65536 ∷ []) b.store) b))
    -- A priority is 0; a starting priority is 5; a flag has the pattern 2^32, and a waiter asks for it; a pool has 33 blocks, or none.
    ∷ told (minus 20) 0 (λ v. with_ready 3 [] (with_body (change (with_priority 0) 4) v))
    ∷ told (minus 20) 0 (with_body (change (λ t. record { state = t.state; priority = t.priority; start = 5; wakeups = t.wakeups; cell = t.cell }) 1))
    ∷ told (minus 20) 0 (with_body (λ b. with_store (with_flags (2 ^ 32 ∷ 5 ∷ []) b.store) b))
    ∷ told (minus 20) 0 (with_waiter flag 1 (2 ^ 32) 0)
    ∷ told (minus 20) 0 (with_blocks (replicate 33 true))
    ∷ told (minus 20) 0 (with_blocks [])
    -- A cell's code is 0, E_TMOUT or E_RLWAI, its word 0 unless the code is 0.
    ∷ told (minus 20) 0 (with_body (change (with_cell (record { code = H-POLL; word = 0 })) 1))
    ∷ told (minus 20) 0 (with_body (change (with_cell (record { code = E-RLWAI; word = 5 })) 1))
    ∷ told (minus 20) 0 (with_body (change (with_cell (record { code = OK; word = 2 ^ 32 })) 1))
    -- A message lies in one mailbox at most, once: message 1 stands in both; twice in one; it lies in one in which it does not stand;
    -- it lies in one that there is not.
    ∷ told (minus 23) 1 (λ v. with_mail 2 (1 ∷ []) (with_message 1 v))
    ∷ told (minus 23) 1 (λ v. with_mail 1 (1 ∷ 1 ∷ []) (with_message 1 v))
    ∷ told (minus 20) 0 (λ v. with_mail 1 [] (with_message 1 v))
    ∷ told (minus 20) 0 (with_message 3)
    -- It stands in one in which it does not lie: message 1 lies in none, or in the other.
    ∷ told (minus 20) 0 (with_mail 1 (1 ∷ []))
    ∷ told (minus 20) 0 (λ v. with_mail 2 (1 ∷ []) (with_mail 1 [] (with_message 1 v)))
    -- Each free block is listed once and no other. Of pool 1, whose two blocks are free: block 2 is missing; both are; block 1 is doubled; it
    -- stands there though it is out. Of pool 2 its one block is missing; it is doubled.
    ∷ told (minus 24) 1 (with_free 1 (1 ∷ []))
    ∷ told (minus 24) 1 (with_free 1 [])
    ∷ told (minus 24) 1 (with_free 1 (1 ∷ 2 ∷ 1 ∷ []))
    ∷ told (minus 24) 1 (with_blocks (false ∷ true ∷ []))
    ∷ told (minus 24) 2 (with_free 2 [])
    ∷ told (minus 24) 2 (with_free 2 (1 ∷ 1 ∷ []))
    -- Block 1 of the other pool stands in the queue of pool 1, of which block 1 is out. Pool 2 has no block 2, pool 1 no block 3, and none is 0.
    ∷ told (minus 24) 1 (λ v. with_free 2 [] (with_free 1 (2 ∷ 1 ∷ []) (with_blocks (false ∷ true ∷ []) v)))
    ∷ told (minus 20) 0 (with_free 2 (1 ∷ 2 ∷ []))
    ∷ told (minus 20) 0 (with_free 1 (1 ∷ 2 ∷ 3 ∷ []))
    ∷ told (minus 20) 0 (with_free 1 (0 ∷ 1 ∷ 2 ∷ []))
    -- A sleeper and a dormant task have wake-up count 0; a dormant task has its starting priority.
    ∷ told (minus 20) 0 (λ v. with_body (change (with_wakeups 1) 2) (with_sleeper (waiting asleep) v))
    ∷ told (minus 20) 0 (λ v. with_body (change (with_wakeups 1) 2) (with_sleeper (waiting_suspended (timed 5)) v))
    ∷ told (minus 20) 0 (with_body (change (with_wakeups 1) 3))
    ∷ told (minus 20) 0 (with_body (change (with_priority 2) 3))
    -- A timed wait has 1 to 2147483647 ticks left.
    ∷ told (minus 20) 0 (with_sleeper (waiting (timed 0)))
    ∷ told (minus 20) 0 (with_sleeper (waiting (timed 2147483648)))
    -- A task not there stands in no queue: task 5 has kept its place. It has cell 0 and 0, no wake-ups and no priority.
    ∷ told (minus 21) 5 (with_body (change (λ t. nobody) 5))
    ∷ told (minus 20) 0 (with_body (change (with_state absent) 3))
    ∷ told (minus 20) 0 (with_body (change (λ t. with_wakeups 1 nobody) 3))
    ∷ told (minus 20) 0 (with_body (change (λ t. with_cell (record { code = OK; word = 5 }) nobody) 3))
    ∷ told (minus 20) 0 (with_body (change (λ t. with_cell (record { code = E-RLWAI; word = 0 }) nobody) 3))
    ∷ told (minus 20) 0 (with_body (change (λ t. with_priority 1 nobody) 3))
    -- A task that is there has a priority.
    ∷ told (minus 20) 0 (with_body (change (λ t. with_state dormant nobody) 3))
    -- The interrupted task is there.
    ∷ told (minus 20) 0 (with_body (λ b. with_handlers (in_handler 0 3) (change (λ t. nobody) 3 b)))
    -- The depth is 0..15: here it is 16. Above 0 the interrupted task is 0 or one that is ready, running or suspended: task 3 is dormant, task
    -- 2 waits, suspended or not, and there is no task 9.
    ∷ told (minus 20) 0 (with_body (with_handlers (in_handler 15 1)))
    ∷ told (minus 20) 0 (with_body (with_handlers (in_handler 0 3)))
    ∷ told (minus 20) 0 (λ v. with_body (with_handlers (in_handler 14 2)) (with_waiter semaphore 1 0 0 v))
    ∷ told (minus 20) 0 (λ v. with_body (with_handlers (in_handler 0 2)) (with_sleeper (waiting_suspended asleep) v))
    ∷ told (minus 20) 0 (with_body (with_handlers (in_handler 3 9)))
    ∷ []

-- a task put by hand into a wait on an object, with a pattern; the queues are as they were
abbrev wait_on : ℕ → Kind → ℕ → ℕ → View → View
wait_on i k o p = with_body (change (with_state (waiting (on k o p 0))) i)

-- tasks 5 and 2, in this order, put by hand into a wait on an object, each with its pattern
abbrev with_two : Kind → ℕ → ℕ → ℕ → View → View
with_two k o p q v = with_waiters k o (5 ∷ 2 ∷ []) (with_ready 2 (1 ∷ []) (wait_on 5 k o p (wait_on 2 k o q v)))

-- A rule broken at several ids: the smallest is told.
abbrev pub several_ids : List Damage
several_ids =
    -- Tasks 1, 2 and 5 are missing.
    told (minus 21) 1 (with_ready 2 [])
    -- Missing, doubled and foreign are one rule: task 4 is missing, task 5 doubled, task 2 foreign.
    ∷ told (minus 21) 2 (λ v. with_ready 3 (2 ∷ []) (with_ready 2 (1 ∷ 2 ∷ 5 ∷ 5 ∷ []) v))
    -- A waiter, first in line or not: tasks 5 and 2 wait, in this order, beside a nonzero semaphore; on a flag that meets the condition of
    -- the first only, and of the second only.
    ∷ told (minus 22) 2 (with_two semaphore 2 0 0)
    ∷ told (minus 22) 5 (with_two flag 2 4 2)
    ∷ told (minus 22) 2 (with_two flag 2 2 4)
    -- Task 4 waits beside a free block, task 5 beside a nonzero semaphore.
    ∷ told (minus 22) 4
    (λ v. with_waiters pool 2 (4 ∷ []) (with_waiters semaphore 2 (5 ∷ []) (with_ready 3 [] (with_ready 2 (1 ∷ 2 ∷ []) (wait_on 4 pool 2 0 (wait_on 5 semaphore 2 0 v))))))
    -- Messages 2 and 3 are held twice, the one in both mailboxes, the other in one.
    ∷ told (minus 23) 2 (λ v. with_mail 2 (2 ∷ []) (with_mail 1 (3 ∷ 2 ∷ 3 ∷ []) (with_marks (none ∷ some 1 ∷ some 1 ∷ []) v)))
    -- Of pool 1 block 1 is missing and block 2 doubled, of pool 2 the one block is missing; of pool 2 alone it is doubled.
    ∷ told (minus 24) 1 (λ v. with_free 2 [] (with_free 1 (2 ∷ 2 ∷ []) v))
    ∷ told (minus 24) 2 (λ v. with_free 2 (1 ∷ 1 ∷ []) (with_free 1 (2 ∷ 1 ∷ []) v))
    ∷ []

-- message 1 lies in mailbox 1 and does not stand there; message 3 lies and stands in mailbox 2
abbrev mark_off : View → View
mark_off v = with_mail 2 (3 ∷ []) (with_marks (some 1 ∷ none ∷ some 2 ∷ []) v)

-- and block 1 of pool 2 is missing; and message 3 stands in mailbox 2 twice; and task 2 waits beside a nonzero semaphore; and task 5 is
-- missing
abbrev and_unlisted : View → View
and_unlisted v = with_free 2 [] (mark_off v)

abbrev and_twice : View → View
and_twice v = with_mail 2 (3 ∷ 3 ∷ []) (and_unlisted v)

abbrev and_served : View → View
and_served v = with_waiter semaphore 2 0 0 (and_twice v)

abbrev and_missing : View → View
and_missing v = with_ready 2 (1 ∷ []) (and_served v)

-- Several rules broken: the first is told, whatever the ids.
abbrev pub several_rules : List Damage
several_rules =
    told (minus 20) 0 mark_off
    ∷ told (minus 24) 2 and_unlisted
    ∷ told (minus 23) 3 and_twice
    ∷ told (minus 22) 2 and_served
    ∷ told (minus 21) 5 and_missing
    -- A number out of range anywhere: the clock is 2^48; a task 9, that there is not, stands in a queue, a message 4 in a
    -- mailbox, and a block 2 of pool 2 among the free ones.
    ∷ told (minus 20) 0 (λ v. with_body (at_clock (2 ^ 48)) (and_missing v))
    ∷ told (minus 20) 0 (λ v. with_ready 2 (1 ∷ 9 ∷ []) (and_missing v))
    ∷ told (minus 20) 0 (λ v. with_mail 1 (4 ∷ []) (and_missing v))
    ∷ told (minus 20) 0 (λ v. with_free 2 (2 ∷ []) (and_missing v))
    -- Without what comes between: a task missing and a message held twice; a message's mark off, and a task missing, or a waiter served; a
    -- free block missing, and a task missing, a waiter served, or a message held twice.
    ∷ told (minus 21) 5 (λ v. with_ready 2 (1 ∷ 2 ∷ []) (and_twice v))
    ∷ told (minus 21) 5 (λ v. with_ready 2 (1 ∷ 2 ∷ []) (mark_off v))
    ∷ told (minus 22) 2 (λ v. with_waiter semaphore 2 0 0 (mark_off v))
    ∷ told (minus 21) 5 (λ v. with_ready 2 (1 ∷ 2 ∷ []) (with_free 1 (1 ∷ []) v))
    ∷ told (minus 22) 2 (λ v. with_waiter semaphore 2 0 0 (with_free 1 (1 ∷ []) v))
    ∷ told (minus 23) 1 (λ v. with_mail 1 (1 ∷ 1 ∷ []) (with_message 1 (with_free 1 (1 ∷ []) v)))
    -- Task 2 waits on mailbox 1. Message 1 stands there and lies in none: it would be received; it lies there and does not stand there: it
    -- would not.
    ∷ told (minus 22) 2 (λ v. with_mail 1 (1 ∷ []) (with_waiter mailbox 1 0 0 v))
    ∷ told (minus 20) 0 (λ v. mark_off (with_waiter mailbox 1 0 0 v))
    -- Task 2 waits on pool 1. The marks decide what is free: its blocks are free and do not stand in the queue; they stand there and are out.
    ∷ told (minus 22) 2 (λ v. with_free 1 [] (with_waiter pool 1 0 0 v))
    ∷ told (minus 24) 1 (λ v. with_blocks (false ∷ false ∷ []) (with_waiter pool 1 0 0 v))
    ∷ []

-- close to these, but no rule is broken: a waiter on semaphore 1, whose count is 0; one on flag 2 that asks for a bit that is not set; one
-- beside another mailbox's message; a sleeper with one tick left; the last clock; a message that lies in a mailbox; the most ticks, wake-ups,
-- pattern and mode; the largest word in a cell, and pattern of a flag; a task not there; free blocks in another order; a waiter on a pool whose blocks are out
abbrev pub repairs : List (View → View)
repairs =
    with_waiter semaphore 1 0 0
    ∷ with_waiter flag 2 2 3
    ∷ (λ v. with_message 1 (with_waiter mailbox 2 0 0 v))
    ∷ with_sleeper (waiting (timed 1))
    ∷ with_body (at_clock (2 ^ 48 - 1))
    ∷ with_message 1
    ∷ with_sleeper (waiting (timed 2147483647))
    ∷ with_body (change (with_wakeups 15) 1)
    ∷ with_waiter flag 1 (2 ^ 32 - 1) 3
    ∷ with_body (change (with_cell (record { code = OK; word = 2 ^ 32 - 1 })) 2)
    ∷ with_body (λ b. with_store (with_flags ((2 ^ 32 - 1) ∷ 5 ∷ []) b.store) b)
    ∷ with_body (change (λ t. nobody) 3)
    ∷ with_free 1 (2 ∷ 1 ∷ [])
    ∷ (λ v. with_free 1 [] (with_blocks (false ∷ false ∷ []) (with_waiter pool 1 0 0 v)))
    ∷ []

-- and with handlers open: 15 of them; one, which interrupted task 1, suspended since, or no longer at the head of its queue
abbrev pub open_repairs : List (View → View)
open_repairs =
    with_body (with_handlers (in_handler 14 1))
    ∷ (λ v. with_ready 2 (2 ∷ 5 ∷ []) (with_body (λ b. with_handlers (in_handler 0 1) (change (with_state suspended) 1 b)) v))
    ∷ (λ v. with_ready 2 (2 ∷ 5 ∷ 1 ∷ []) (with_body (with_handlers (in_handler 0 1)) v))
    ∷ []

-- what comes back of an event there, the state after it, and the cell of a task before it
pub record Touched : Type 0 where
  pub says : List ℤ
  pub next : View
  pub code : ℤ
  pub word : ℕ

abbrev pub touch : Event → ℤ → View → Touched
touch e a v = record { says = numbers (event v e).answer; next = (event v e).next; code = number (cell v a).code; word = (cell v a).word }

-- over the fresh state of the examples' setup
unfoldable pub touched : List (View → View) → Event → ℤ → Read (List Touched)
unfolding answers
touched l e a = and_then (setup example_bytes) (λ u i. got (map (λ f. touch e a (f (fresh u))) l) i)

-- what is told, and the state unchanged: w1 is the id, the other words, the running task and the number released are 0; the cell read has
-- the code with word 0
unfoldable pub damage_told : List Damage → Read (List Touched)
unfolding answers
damage_told l =
    and_then (setup example_bytes)
    (λ u i. got (map (λ d. record { says = d.code ∷ pos d.id ∷ pos 0 ∷ pos 0 ∷ pos 0 ∷ []; next = d.made (fresh u); code = d.code; word = 0 }) l) i)

-- the same answer everywhere, the state unchanged, the same code in the cell with word 0
unfoldable pub unchanged : List (View → View) → List ℤ → ℤ → Read (List Touched)
unfolding answers
unchanged l n c = and_then (setup example_bytes) (λ u i. got (map (λ f. record { says = n; next = f (fresh u); code = c; word = 0 }) l) i)
