-- The bytes of a setup: the eight sections in their order, each after its count; every number is four bytes, least significant first.
use Rattle.std.specs.Prelude.{List, [], ◌∷◌, ◌++◌, map, ◌⊎◌, ◌≡◌, ℕ, ◌<◌, ◌/◌, ◌%◌, length}
use Rattle.rules.specs.Ids.{Each, once}
use Rattle.rules.specs.Setup.{Entry, AlarmEntry, CounterEntry, Setup}

module _ {A : Type 0} where
  abbrev pub joined : List (List A) → List A
  joined [] = []
  joined (x ∷ l) = x ++ joined l

-- ---- words

-- starting priority; 1 if started, else 0
abbrev pub task_words : Entry → List ℕ
task_words e = e.priority ∷ once e.started ∷ []

-- a task id; 1 to wake it, 0 to start it
abbrev pub alarm_words : AlarmEntry → List ℕ
alarm_words e = e.task ∷ once e.wakes ∷ []

-- m, then the alarms
abbrev pub counter_words : CounterEntry → List ℕ
counter_words c = c.size ∷ joined (map alarm_words c.alarms)

-- the first seven sections, each after its count
abbrev pub seven_sections : Setup → List (List ℕ)
seven_sections u =
    (u.priorities ∷ [])
    ∷ (length u.tasks ∷ joined (map task_words u.tasks))
    ∷ (length u.semaphores ∷ u.semaphores)
    ∷ (length u.flags ∷ u.flags)
    ∷ (u.mailboxes ∷ [])
    ∷ (u.messages ∷ [])
    ∷ (length u.pools ∷ u.pools)
    ∷ []

-- all eight
abbrev pub setup_sections : Setup → List (List ℕ)
setup_sections u = seven_sections u ++ (length u.counters ∷ joined (map counter_words u.counters)) ∷ []

abbrev pub setup_words : Setup → List ℕ
setup_words u = joined (setup_sections u)

-- ---- bytes

-- four bytes, least significant first
abbrev pub word_bytes : ℕ → List ℕ
word_bytes w = w % 256 ∷ w / 256 % 256 ∷ w / 65536 % 256 ∷ w / 16777216 % 256 ∷ []

abbrev pub setup_bytes : Setup → List ℕ
setup_bytes u = joined (map word_bytes (setup_words u))

-- of the first seven sections alone
abbrev pub seven_bytes : Setup → List ℕ
seven_bytes u = joined (map word_bytes (joined (seven_sections u)))

-- a setup alone: its bytes, or those of the seven where it has no counter
abbrev pub Alone : Setup → List ℕ → Type 0
Alone u s = (s ≡ setup_bytes u) ⊎ ((u.counters ≡ []) × (s ≡ seven_bytes u))

-- a list of bytes
abbrev pub Bytes : List ℕ → Type 0
Bytes s = Each (λ b. b < 256) s
