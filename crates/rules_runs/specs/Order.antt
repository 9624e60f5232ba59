-- Who stands before whom: the lines of the plain kernel, and the running task in the plain kernel's terms.
use Rattle.std.specs.Prelude.{true, false, List, [], ◌∷◌, ◌⊎◌, ◌≢◌, ◌↔◌, ◌≡◌, ℕ, ◌≤◌, ◌<◌}
use Rattle.rules.specs.Ids.{times}
use Rattle.rules.specs.State.{no_handler, task, is_ready}
use Rattle.rules.specs.Places.{Place, a_task, item, Exists}
use Rattle.rules.specs.View.{View, line, running}
use Rattle.rules.specs.Plain.{Plain, number_of, queue_of, view_of}

-- the numbers of a list rise from one to the next, and so are distinct
abbrev pub Rising : (ℕ → ℕ) → List ℕ → Type 0
Rising number [] = Unit {0}
Rising number (x ∷ l) = ((y : ℕ) → times y l ≢ 0 → number x < number y) × Rising number l

-- in each line numbers rise
abbrev pub Ordered : Plain → Type 0
Ordered s = (q : Place) → Rising (λ i. number_of s (item q i)) (queue_of s q)

-- each task, each message and each block stands in at most one line, once
pub record OneLine (v : View) : Type 0 where
  pub once : (q : Place) → Exists v.body.store q → (i : ℕ) → times i (line v q) ≤ 1
  pub one : (q r : Place) → Exists v.body.store q → Exists v.body.store r → (i j : ℕ) → item q i ≡ item r j
      → times i (line v q) ≢ 0 → times j (line v r) ≢ 0 → q ≡ r

-- READY or RUN
abbrev pub Ready : Plain → ℕ → Type 0
Ready s i = is_ready (task s.body i).state ≡ true

-- the pair of priority and arrival number of i is smaller than that of j
abbrev pub Before : Plain → ℕ → ℕ → Type 0
Before s i j =
    ((task s.body i).priority < (task s.body j).priority)
    ⊎ (((task s.body i).priority ≡ (task s.body j).priority) × (number_of s (a_task i) < number_of s (a_task j)))

-- Task r runs exactly if it is READY or RUN and no other such task has a smaller pair of priority and arrival number; nobody runs
-- exactly if there is no such task.
pub record HeadRuns (s : Plain) : Type 0 where
  pub somebody : (r : ℕ) → ((r ≢ 0) × (running (view_of s) ≡ r)) ↔ (Ready s r × ((j : ℕ) → Ready s j → Before s j r → ⊥))
  pub nobody : (running (view_of s) ≡ 0) ↔ ((j : ℕ) → is_ready (task s.body j).state ≡ false)

-- so while no handler is open
abbrev pub WhoRuns : Plain → Type 0
WhoRuns s = s.body.handlers ≡ no_handler → HeadRuns s
