-- Which events a comparison lists: exactly those at which the two answers differ, in order.
use Rattle.std.specs.Prelude.{List, [], ◌∷◌, map, ◌⊎◌, ◌≢◌, ◌≡◌, ℕ, suc, ◌+◌, ◌≤◌, ◌<◌, ℤ, length, get_or}
use Rattle.rules.specs.Answers.{Answer, numbers}
use Rattle.rules.specs.Events.{events_of}
use Rattle.run_compare_reading.specs.Compared.{Compared}
use Rattle.run_compare_text.specs.Changes.{Change, change, changes}
use Rattle.run_compare.specs.Difference.{runs}

-- a change stands in a list
abbrev pub Has : Change → List Change → Type 0
Has c [] = ⊥
Has c (x ∷ l) = (x ≡ c) ⊎ Has c l

-- the numbers of a list's changes rise, from n on
abbrev pub Rising : ℕ → List Change → Type 0
Rising n [] = Unit {0}
Rising n (c ∷ l) = (n ≤ c.number) × Rising (suc c.number) l

-- the five numbers of answer i of a run
abbrev pub answer_at : List Answer → ℕ → List ℤ
answer_at a i = get_or (map numbers a) i []

-- what is listed of two runs of the same events
pub record Exactly (a b : List Answer) (l : List Change) : Type 0 where
  -- each event whose answers differ, with both of them
  pub all : (i : ℕ) → i < length a → answer_at a i ≢ answer_at b i → Has (change (1 + i) (answer_at a i) (answer_at b i)) l
  -- no other
  pub only : (c : Change) → Has c l → (i : ℕ) × (i < length a) × (answer_at a i ≢ answer_at b i) × (change (1 + i) (answer_at a i) (answer_at b i) ≡ c)
  pub order : Rising 1 l

-- what is listed of two runs, the events numbered from n on
abbrev pub listed : ℕ → List Answer → List Answer → List Change
listed n a b = changes n (map numbers a) (map numbers b)

-- the run of an accepted input from its first setup, and from its second
abbrev pub first_run : Compared → List Answer
first_run c = runs c.first (events_of c.words)

abbrev pub second_run : Compared → List Answer
second_run c = runs c.second (events_of c.words)

-- what the second setup changes
abbrev pub changes_of : Compared → List Change
changes_of c = listed 1 (first_run c) (second_run c)
