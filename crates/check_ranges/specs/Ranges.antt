-- Numbers lie in their ranges: the tests of the counts, of each task, object and message, of the open handlers and of the counter, for any words.
use Rattle.std.specs.Prelude.{Bool, true, false, cond, not, ◌&&◌, ◌||◌, List, ℕ, zero, suc, ◌/◌, ◌^◌, eqb, leb, ltb}
use Rattle.rules.specs.Ids.{of}
use Rattle.memory_columns.specs.Layout as Layout
use Rattle.memory_columns.specs.Layout.{max_priorities, max_tasks, max_objects, max_messages, max_pools, max_blocks, max_depth, max_alarms, entry}

-- the ids i, i + 1, … , n of them, all pass
unfoldable pub every : ℕ → ℕ → (ℕ → Bool) → Bool
every zero i f = true
every (suc n) i f = f i && every n (suc i) f

-- one of 1 to n
abbrev pub within : ℕ → ℕ → Bool
within i n = leb 1 i && leb i n

-- how many, by the entry of the system's column
abbrev pub many : List ℕ → ℕ → ℕ
many b k = entry Layout.system b k

unfoldable pub sizes_ok : List ℕ → Bool
sizes_ok b =
    within (many b Layout.priorities) max_priorities && (within (many b Layout.tasks) max_tasks && (leb (many b Layout.semaphores) max_objects && (leb (many b Layout.flags) max_objects && (leb (many b Layout.mailboxes) max_objects && (leb (many b Layout.messages) max_messages
    && (leb (many b Layout.pools) max_pools && (ltb (many b Layout.clock_low) (2 ^ 32) && ltb (many b Layout.clock_high) (2 ^ 16))))))))

-- a cell: code 0 with any word of 32 bits, E_TMOUT or E_RLWAI with 0
unfoldable pub cell_ok : ℕ → ℕ → Bool
cell_ok c w = cond (eqb c 0) (leb w 4294967295) (cond (eqb c 1) (eqb w 0) (cond (eqb c 2) (eqb w 0) false))

unfoldable pub wish_ok : ℕ → ℕ → Bool
wish_ok p m = not (eqb p 0) && (leb p 4294967295 && leb m 3)

unfoldable pub ticks_ok : ℕ → ℕ → Bool
ticks_ok n t = eqb n 0 && within t 2147483647

unfoldable pub flag_wait_ok : ℕ → ℕ → ℕ → ℕ → Bool
flag_wait_ok o n p m = within o n && wish_ok p m

-- a wait of kind k: n wake-ups, object o, pattern p, mode m, ticks t
unfoldable pub wait_ok : List ℕ → ℕ → ℕ → ℕ → ℕ → ℕ → ℕ → Bool
wait_ok b n k o p m t =
    cond (eqb k 0) (eqb n 0) (cond (eqb k 1) (ticks_ok n t)
    (cond (eqb k 2) (within o (many b Layout.semaphores)) (cond (eqb k 3) (flag_wait_ok o (many b Layout.flags) p m)
    (cond (eqb k 4) (within o (many b Layout.mailboxes)) (cond (eqb k 5) (within o (many b Layout.pools)) false)))))

abbrev pub wait_at : List ℕ → ℕ → Bool
wait_at b i = wait_ok b (entry Layout.wakeups b i) (entry Layout.kind b i) (entry Layout.object b i) (entry Layout.wish b i) (entry Layout.mode b i) (entry Layout.ticks b i)

abbrev pub rest_ok : List ℕ → ℕ → Bool
rest_ok b i = eqb (entry Layout.wakeups b i) 0 && eqb (entry Layout.priority b i) (entry Layout.start b i)

unfoldable pub state_ok : List ℕ → ℕ → Bool
state_ok b i =
    cond (eqb (entry Layout.status b i) 0) (rest_ok b i) (cond (eqb (entry Layout.status b i) 1) true (cond (eqb (entry Layout.status b i) 3) (wait_at b i)
    (cond (eqb (entry Layout.status b i) 4) true (cond (eqb (entry Layout.status b i) 5) (wait_at b i) false))))

-- a task that is there
unfoldable pub present_ok : List ℕ → ℕ → Bool
present_ok b i =
    within (entry Layout.priority b i) (many b Layout.priorities) && (within (entry Layout.start b i) (many b Layout.priorities) && (leb (entry Layout.wakeups b i) 15
    && (cell_ok (entry Layout.code b i) (entry Layout.word b i) && state_ok b i)))

-- one that is not
unfoldable pub vacant_ok : List ℕ → ℕ → Bool
vacant_ok b i = eqb (entry Layout.priority b i) 0 && (eqb (entry Layout.start b i) 0 && (eqb (entry Layout.wakeups b i) 0 && (eqb (entry Layout.code b i) 0 && eqb (entry Layout.word b i) 0)))

unfoldable pub task_ok : List ℕ → ℕ → Bool
task_ok b i = cond (eqb (entry Layout.status b i) 6) (vacant_ok b i) (present_ok b i)

abbrev pub semaphore_ok : List ℕ → ℕ → Bool
semaphore_ok b i = leb (entry Layout.semaphore b i) 65535

abbrev pub flag_ok : List ℕ → ℕ → Bool
flag_ok b i = leb (entry Layout.flag b i) 4294967295

unfoldable pub pool_ok : List ℕ → ℕ → Bool
pool_ok b i = within (entry Layout.size b i) max_blocks && eqb (entry Layout.free b i / 2 ^ entry Layout.size b i) 0

-- object i of a kind, which the place of its count names
unfoldable pub object_ok : List ℕ → ℕ → ℕ → Bool
object_ok b kind i = cond (eqb kind Layout.semaphores) (semaphore_ok b i) (cond (eqb kind Layout.flags) (flag_ok b i) (pool_ok b i))

abbrev pub message_ok : List ℕ → List ℕ → ℕ → Bool
message_ok b msgs j = leb (of msgs j 0) (many b Layout.mailboxes)

-- READY or SUSPEND
abbrev pub freed_at : List ℕ → ℕ → Bool
freed_at b i = eqb (entry Layout.status b i) 1 || eqb (entry Layout.status b i) 4

-- the interrupted task: 0 where nobody ran
unfoldable pub interrupted_ok : List ℕ → ℕ → Bool
interrupted_ok b i = eqb i 0 || (within i (many b Layout.tasks) && freed_at b i)

-- n handlers are open, and the outermost one interrupted task i; while none is open, i says nothing
unfoldable pub open_ok : List ℕ → ℕ → ℕ → Bool
open_ok b n i = eqb n 0 || (leb n max_depth && interrupted_ok b i)

abbrev pub handling_ok : List ℕ → Bool
handling_ok b = open_ok b (entry Layout.handling b Layout.depth) (entry Layout.handling b Layout.interrupted)

-- the kept code of an alarm that wakes its task, or starts it
unfoldable pub kept_ok : Bool → ℕ → Bool
kept_ok w c = cond (eqb c 0) true (cond (eqb c 3) (not w) (cond (eqb c 2100) true (cond (eqb c 2101) w (cond (eqb c 2889) w false))))

-- one more than the expiry, and the period; of an idle alarm it says nothing
unfoldable pub setting_ok : ℕ → ℕ → ℕ → Bool
setting_ok m d p = eqb d 0 || (leb d m && leb p m)

-- alarm k of a counter of size m
unfoldable pub alarm_ok : List ℕ → ℕ → ℕ → Bool
alarm_ok b m k =
    (leb (entry Layout.alarm_wakes b k) 1 && within (entry Layout.alarm_task b k) (many b Layout.tasks))
    && (kept_ok (eqb (entry Layout.alarm_wakes b k) 1) (entry Layout.alarm_code b k) && setting_ok m (entry Layout.alarm_due b k) (entry Layout.alarm_period b k))

-- a counter of size m with count n; where there is none, nothing of it is looked at
unfoldable pub count_ok : List ℕ → ℕ → ℕ → Bool
count_ok b m n = eqb m 0 || (leb m 65535 && (ltb n m && every max_alarms 1 (alarm_ok b m)))

abbrev pub counter_ok : List ℕ → Bool
counter_ok b = count_ok b (entry Layout.counter b Layout.counter_size) (entry Layout.counter b Layout.counter_now)

unfoldable pub ranges_ok : List ℕ → List ℕ → Bool
ranges_ok b msgs =
    sizes_ok b && (every (many b Layout.tasks) 1 (task_ok b) && (every (many b Layout.semaphores) 1 (semaphore_ok b) && (every (many b Layout.flags) 1 (flag_ok b) && (every (many b Layout.pools) 1 (pool_ok b) && (every (many b Layout.messages) 1 (message_ok b msgs)
    && (handling_ok b && counter_ok b))))))
