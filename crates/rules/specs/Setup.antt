-- The setup as bytes: read left to right, the first fault decides. Numbers are four bytes, least significant first, unsigned.
use Rattle.std.specs.Prelude.{Bool, cond, ◌&&◌, List, [], ◌∷◌, map, ◌≡◌, ℕ, zero, suc, ◌+◌, ◌-◌, ◌*◌, ◌≤◌, ◌<◌, ◌^◌, eqb, leb, length, get_or}
use Rattle.rules.specs.Ids.{In, Each}

-- S1 the bytes end before a needed word is whole; S2 a count outside its range; S3 an entry outside its range; S4 bytes left over.
pub data Fault : Type 0 where
  S1 S2 S3 S4 : Fault

abbrev pub digit : Fault → ℕ
digit S1 = 1
digit S2 = 2
digit S3 = 3
digit S4 = 4

-- what was read and the next offset, or the first fault and its place
pub data Read (A : Type 0) : Type 0 where
  got : A → ℕ → Read A
  refused : Fault → ℕ → Read A

module _ {A B : Type 0} where
  unfoldable pub and_then : Read A → (A → ℕ → Read B) → Read B
  and_then (got a next) f = f a next
  and_then (refused d place) f = refused d place

-- ---- words

abbrev pub word_at : List ℕ → ℕ → ℕ
word_at s i = get_or s i 0 + 256 * get_or s (i + 1) 0 + 65536 * get_or s (i + 2) 0 + 16777216 * get_or s (i + 3) 0

pub record Range : Type 0 where
  pub least : ℕ
  pub most : ℕ

abbrev pub to : ℕ → ℕ → Range
to a b = record { least = a; most = b }

abbrev pub within : Range → ℕ → Bool
within r w = leb r.least w && leb w r.most

-- the word at an offset; if it is not whole S1, if it is outside the range f. The place is the offset of that word.
unfoldable pub read_word : List ℕ → Range → Fault → ℕ → Read ℕ
read_word s r f i = cond (leb (i + 4) (length s)) (cond (within r (word_at s i)) (got (word_at s i) (i + 4)) (refused f i)) (refused S1 i)

-- ---- sections

-- the range of its count, and the range of each word of an entry
pub record Section : Type 0 where
  pub count : Range
  pub entry : List Range

abbrev pub section : Range → List Range → Section
section c e = record { count = c; entry = e }

-- the first seven sections in order; priorities, whose count is called P, come first
abbrev pub priorities : Section
priorities = section (to 1 16) []

abbrev pub sections : ℕ → List Section
sections P =
    section (to 1 32) (to 1 P ∷ to 0 1 ∷ [])
    ∷ section (to 0 16) (to 0 65535 ∷ [])
    ∷ section (to 0 16) (to 0 (2 ^ 32 - 1) ∷ [])
    ∷ section (to 0 16) []
    ∷ section (to 0 256) []
    ∷ section (to 0 8) (to 1 32 ∷ [])
    ∷ []

-- for each of k alarms a task id, of n tasks, and 0 to start or 1 to wake it
abbrev pub alarm_ranges : ℕ → ℕ → List Range
alarm_ranges n zero = []
alarm_ranges n (suc k) = to 1 n ∷ to 0 1 ∷ alarm_ranges n k

-- the eighth: counters, one at most; m, and its eight alarms
abbrev pub counters : ℕ → Section
counters n = section (to 0 1) (to 1 65535 ∷ alarm_ranges n 8)

-- the words of one entry
unfoldable pub read_entry : List ℕ → List Range → ℕ → Read (List ℕ)
read_entry s [] i = got [] i
read_entry s (r ∷ l) i = and_then (read_word s r S3 i) (λ w j. and_then (read_entry s l j) (λ ws k. got (w ∷ ws) k))

-- n entries
unfoldable pub read_entries : List ℕ → List Range → ℕ → ℕ → Read (List (List ℕ))
read_entries s e zero i = got [] i
read_entries s e (suc n) i = and_then (read_entry s e i) (λ x j. and_then (read_entries s e n j) (λ xs k. got (x ∷ xs) k))

-- a section after its count, as the list of its entries
unfoldable pub read_section : List ℕ → Section → ℕ → Read (List (List ℕ))
read_section s t i = and_then (read_word s t.count S2 i) (λ n j. read_entries s t.entry n j)

unfoldable pub read_sections : List ℕ → List Section → ℕ → Read (List (List (List ℕ)))
read_sections s [] i = got [] i
read_sections s (t ∷ l) i = and_then (read_section s t i) (λ x j. and_then (read_sections s l j) (λ xs k. got (x ∷ xs) k))

-- ---- the setup

pub record Entry : Type 0 where
  -- its starting priority
  pub priority : ℕ
  pub started : Bool

pub record AlarmEntry : Type 0 where
  -- the task that it starts or wakes
  pub task : ℕ
  pub wakes : Bool

pub record CounterEntry : Type 0 where
  -- m
  pub size : ℕ
  pub alarms : List AlarmEntry

pub record Setup : Type 0 where
  pub priorities : ℕ
  pub tasks : List Entry
  pub semaphores : List ℕ
  pub flags : List ℕ
  pub mailboxes : ℕ
  pub messages : ℕ
  -- the number of blocks of each
  pub pools : List ℕ
  pub counters : List CounterEntry

-- a counter in range, of n tasks
pub record GoodCounter (n : ℕ) (c : CounterEntry) : Type 0 where
  pub size : In c.size 65535
  pub eight : length c.alarms ≡ 8
  pub alarms : Each (λ a. In a.task n) c.alarms

-- a setup in range: its counts and its entries lie in their ranges
pub record GoodSetup (u : Setup) : Type 0 where
  pub priorities : In u.priorities 16
  pub tasks : In (length u.tasks) 32
  -- starting priorities
  pub starts : Each (λ e. In e.priority u.priorities) u.tasks
  pub semaphores : length u.semaphores ≤ 16
  pub counts : Each (λ n. n ≤ 65535) u.semaphores
  pub flags : length u.flags ≤ 16
  pub patterns : Each (λ p. p < 2 ^ 32) u.flags
  pub mailboxes : u.mailboxes ≤ 16
  pub messages : u.messages ≤ 256
  pub pools : length u.pools ≤ 8
  pub blocks : Each (λ n. In n 32) u.pools
  pub counters : length u.counters ≤ 1
  pub counter : Each (GoodCounter (length u.tasks)) u.counters

-- the i-th section's entries; the i-th word of an entry
abbrev pub entries_of : List (List (List ℕ)) → ℕ → List (List ℕ)
entries_of l i = get_or l i []

abbrev pub word_of : ℕ → List ℕ → ℕ
word_of i w = get_or w i 0

-- 1 if started, else 0
abbrev pub task_entry : List ℕ → Entry
task_entry w = record { priority = word_of 0 w; started = eqb (word_of 1 w) 1 }

-- 1 if it wakes its task, 0 if it starts it; two words for each alarm
abbrev pub alarm_entries : List ℕ → List AlarmEntry
alarm_entries [] = []
alarm_entries (t ∷ []) = []
alarm_entries (t ∷ w ∷ l) = record { task = t; wakes = eqb w 1 } ∷ alarm_entries l

abbrev pub counter_entry : List ℕ → CounterEntry
counter_entry [] = record { size = 0; alarms = [] }
counter_entry (m ∷ l) = record { size = m; alarms = alarm_entries l }

-- from P, the entries of the next six sections, and those of the eighth
abbrev pub setup_of : ℕ → List (List (List ℕ)) → List (List ℕ) → Setup
setup_of P l c = record {
  priorities = P;
  tasks = map task_entry (entries_of l 0);
  semaphores = map (word_of 0) (entries_of l 1);
  flags = map (word_of 0) (entries_of l 2);
  mailboxes = length (entries_of l 3);
  messages = length (entries_of l 4);
  pools = map (word_of 0) (entries_of l 5);
  counters = map counter_entry c;
}

-- the setup whose bytes begin at an offset, and the offset behind it; its eighth section is read as told
unfoldable pub read_with : (List ℕ → Section → ℕ → Read (List (List ℕ))) → List ℕ → ℕ → Read Setup
read_with eighth s i =
    and_then (read_section s priorities i) (λ p j. and_then (read_sections s (sections (length p)) j)
    (λ l k. and_then (eighth s (counters (length (entries_of l 0))) k) (λ c n. got (setup_of (length p) l c) n)))

-- In a recorded run the eighth always stands.
unfoldable pub read_setup : List ℕ → ℕ → Read Setup
read_setup s i = read_with read_section s i

-- a section that may be left out where the bytes end
unfoldable pub perhaps : List ℕ → Section → ℕ → Read (List (List ℕ))
perhaps s t i = cond (leb (length s) i) (got [] i) (read_section s t i)

-- Nothing may follow. The place of a fault is the offset of the first byte left over.
unfoldable pub at_end : {A : Type 0} → List ℕ → Read A → Read A
at_end s (got a i) = cond (leb (length s) i) (got a i) (refused S4 i)
at_end s (refused d place) = refused d place

-- A setup alone that ends after seven counts as none.
unfoldable pub setup : List ℕ → Read Setup
setup s = at_end s (read_with perhaps s 0)
