-- Where the parts of a setup lie: read from its counts alone, total for any bytes. An offset never passes the end, and a count never
-- passes the largest that its section allows.
use Rattle.std.specs.Prelude.{List, [], ◌∷◌, ◌≡◌, ℕ, zero, suc, ◌+◌, ◌-◌, ◌*◌, ◌≤◌, min, eqb, length}
use Rattle.rules.specs.Ids.{of, In}
use Rattle.rules.specs.Setup.{word_at, Entry, AlarmEntry, CounterEntry, Setup}
use Rattle.setup_sections.specs.Judging.{onward}
use Rattle.setup_plan.specs.declared.Part.{Part}
use Rattle.setup_plan.specs.declared.Plan.{Plan}

-- the count at i, at most `most`
abbrev pub count_at : List ℕ → ℕ → ℕ → ℕ
count_at s most i = min (word_at s i) most

-- a section whose count stands at i, with entries of a size in bytes
unfoldable pub part_at : List ℕ → ℕ → ℕ → ℕ → Part
part_at s most size i = record {
  count = count_at s most i;
  first = onward s i 4;
  next = onward s (onward s i 4) (size * count_at s most i);
}

-- the setup that begins at i: one part after the other, with the largest count and the size of an entry of each
unfoldable pub plan_of : List ℕ → ℕ → Plan
plan_of s i =
    let priorities = part_at s 16 0 i in
    let tasks = part_at s 32 8 priorities.next in
    let semaphores = part_at s 16 4 tasks.next in
    let flags = part_at s 16 4 semaphores.next in
    let mailboxes = part_at s 16 0 flags.next in
    let messages = part_at s 256 0 mailboxes.next in
    let pools = part_at s 8 4 messages.next in
    let counters = part_at s 1 68 pools.next in
    record {
      priorities = priorities.count;
      tasks = tasks.count;
      semaphores = semaphores.count;
      flags = flags.count;
      mailboxes = mailboxes.count;
      messages = messages.count;
      pools = pools.count;
      counters = counters.count;
      at = record { tasks = tasks.first; semaphores = semaphores.first; flags = flags.first; pools = pools.first; counter = counters.first };
    }

-- a task's entry at an offset: its starting priority, then 1 if it is started
abbrev pub entry_at : List ℕ → ℕ → Entry
entry_at s i = record { priority = word_at s i; started = eqb (word_at s (i + 4)) 1 }

-- the entries of k alarms from an offset on: each its task, then 1 if it wakes it
abbrev pub alarms_at : List ℕ → ℕ → ℕ → List AlarmEntry
alarms_at s i zero = []
alarms_at s i (suc k) = record { task = word_at s i; wakes = eqb (word_at s (i + 4)) 1 } ∷ alarms_at s (i + 8) k

-- a counter's: m, then its alarms
abbrev pub counter_at : List ℕ → ℕ → CounterEntry
counter_at s i = record { size = word_at s i; alarms = alarms_at s (i + 4) 8 }

-- the plan of the setup u, whose bytes are s: its counts, and the entry of each id
pub record PlanShows (p : Plan) (s : List ℕ) (u : Setup) : Type 0 where
  pub priorities : p.priorities ≡ u.priorities
  pub tasks : p.tasks ≡ length u.tasks
  pub semaphores : p.semaphores ≡ length u.semaphores
  pub flags : p.flags ≡ length u.flags
  pub mailboxes : p.mailboxes ≡ u.mailboxes
  pub messages : p.messages ≡ u.messages
  pub pools : p.pools ≡ length u.pools
  pub counters : p.counters ≡ length u.counters
  pub starts : (i : ℕ) (d : Entry) → In i p.tasks → of u.tasks i d ≡ entry_at s (p.at.tasks + 8 * (i - 1))
  pub counts : (i d : ℕ) → In i p.semaphores → of u.semaphores i d ≡ word_at s (p.at.semaphores + 4 * (i - 1))
  pub patterns : (i d : ℕ) → In i p.flags → of u.flags i d ≡ word_at s (p.at.flags + 4 * (i - 1))
  pub blocks : (i d : ℕ) → In i p.pools → of u.pools i d ≡ word_at s (p.at.pools + 4 * (i - 1))
  pub counter : (i : ℕ) (d : CounterEntry) → In i p.counters → of u.counters i d ≡ counter_at s (p.at.counter + 68 * (i - 1))

-- the bounds of a plan of n bytes, whatever the bytes are
pub record PlanFits (p : Plan) (n : ℕ) : Type 0 where
  pub priorities : p.priorities ≤ 16
  pub tasks : p.tasks ≤ 32
  pub semaphores : p.semaphores ≤ 16
  pub flags : p.flags ≤ 16
  pub mailboxes : p.mailboxes ≤ 16
  pub messages : p.messages ≤ 256
  pub pools : p.pools ≤ 8
  pub counters : p.counters ≤ 1
  pub starts : p.at.tasks ≤ n
  pub counts : p.at.semaphores ≤ n
  pub patterns : p.at.flags ≤ n
  pub blocks : p.at.pools ≤ n
  pub counter : p.at.counter ≤ n
