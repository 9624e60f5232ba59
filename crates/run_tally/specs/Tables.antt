-- Counts by task and state, and by code.
use Rattle.std.specs.Prelude.{cond, List, [], ◌∷◌, ◌≡◌, ℕ, zero, suc, ◌+◌, ◌-◌, ◌*◌, ◌^◌, ◌<◌, min, ltb, ℤ, pos, get_or, set}
use Rattle.rules.specs.Codes.{minus, same}

-- ---- a row of counts

-- a full count stays
abbrev pub more : ℕ → ℕ
more n = min (n + 1) (2 ^ 32 - 1)

-- of so many counts the one at a place is raised, if there is one
unfoldable pub raised : ℕ → List ℕ → ℕ → List ℕ
raised size l i = cond (ltb i size) (set l i (more (get_or l i 0))) l

-- ---- tasks by states

abbrev pub states : ℕ
states = 7

-- one cell for each of the first n tasks, in its row: that of its state, which f gives
unfoldable pub table_counted : ℕ → (ℕ → ℕ) → List (List ℕ) → List (List ℕ)
table_counted zero f t = t
table_counted (suc n) f [] = []
table_counted (suc n) f (row ∷ t) = raised states row (f 0) ∷ table_counted n (λ i. f (suc i)) t

-- ---- codes

abbrev pub codes : List ℤ
codes =
    pos 0 ∷ pos 1 ∷ minus 1 ∷ minus 2 ∷ minus 3 ∷ minus 4 ∷ minus 5 ∷ minus 6 ∷ minus 7 ∷ minus 8 ∷ minus 10 ∷ minus 11 ∷ minus 12
    ∷ minus 20 ∷ minus 21 ∷ minus 22 ∷ minus 23 ∷ minus 24 ∷ minus 1830 ∷ minus 1831
    ∷ minus 2097 ∷ minus 2100 ∷ minus 2101 ∷ minus 2104 ∷ minus 2110 ∷ minus 2629 ∷ minus 2889 ∷ minus 3413 ∷ minus 3414 ∷ []

-- the place of a number in a list, behind the last one if it stands nowhere
unfoldable pub place_in : List ℤ → ℤ → ℕ
place_in [] c = 0
place_in (x ∷ l) c = cond (same x c) 0 (suc (place_in l c))

abbrev pub place_of : ℤ → ℕ
place_of c = place_in codes c

abbrev pub codes_counted : List ℕ → ℤ → List ℕ
codes_counted l c = raised 29 l (place_of c)

-- ---- all of them in a row

-- number 7 (i - 1) + s is that of task i and state s
abbrev pub FlatStates : List (List ℕ) → List ℕ → Type 0
FlatStates table counts = (i s : ℕ) → i < 32 → s < 7 → get_or counts (7 * i + s) 0 ≡ get_or (get_or table i []) s 0

-- the codes' numbers stand behind those of the tasks
abbrev pub FlatCodes : List ℕ → List ℕ → Type 0
FlatCodes l counts = (k : ℕ) → k < 29 → get_or counts (224 + k) 0 ≡ get_or l k 0

pub record Flat (table : List (List ℕ)) (l counts : List ℕ) : Type 0 where
  pub states : FlatStates table counts
  pub codes : FlatCodes l counts
