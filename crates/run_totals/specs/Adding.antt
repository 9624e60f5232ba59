-- What the figures of runs add up to.
use Rattle.std.specs.Prelude.{cond, List, [], ◌∷◌, ℕ, zero, suc, ◌+◌, ltb, length, get_or}
use Rattle.rules.specs.Setup.{Read, got, refused}
use Rattle.run_month.specs.declared.Record.{Record}
use Rattle.run_month.specs.Monthly.{sum_at}
use Rattle.run_tally.specs.Tables.{Flat}
use Rattle.run_reading.specs.Recorded.{Head, Item, begins, occurs, refuses, read_head, items_of}
use Rattle.run_figures.specs.Figures.{Figures, figures_of}

unfoldable pub sum : List ℕ → ℕ
sum [] = 0
sum (x ∷ l) = x + sum l

-- the counts of task i + 1, by state
abbrev pub row : Figures → ℕ → List ℕ
row f i = get_or f.table i []

-- n numbers from k on
unfoldable pub part : (ℕ → ℕ) → ℕ → ℕ → ℕ
part f k zero = 0
part f k (suc n) = f k + part f (suc k) n

-- n totals of a month, from number k on
abbrev pub totalled : ℕ → ℕ → List Record → ℕ
totalled k n l = part (λ j. sum_at j l) k n

-- how many tasks a setup has; none if it is refused
abbrev pub tasks_of : Read Head → ℕ
tasks_of (got h i) = length h.setup.tasks
tasks_of (refused f place) = 0

-- how many events are among items
unfoldable pub occurring : List Item → ℕ
occurring [] = 0
occurring (begins h ∷ l) = occurring l
occurring (occurs n e ∷ l) = suc (occurring l)
occurring (refuses f p ∷ l) = occurring l

-- how many events of a run ran: the whole ones
abbrev pub ran : List ℕ → ℕ
ran s = occurring (items_of s)

-- so many if the run's setup has task i + 1, else none
abbrev pub ran_with : ℕ → List ℕ → ℕ
ran_with i s = cond (ltb i (tasks_of (read_head s))) (ran s) 0

-- each record is that of a run
abbrev pub RecordsOf : List Record → List (List ℕ) → Type 0
RecordsOf [] [] = Unit {0}
RecordsOf [] (s ∷ k) = ⊥
RecordsOf (r ∷ l) [] = ⊥
RecordsOf (r ∷ l) (s ∷ k) = Flat (figures_of s).table (figures_of s).codes r.counts × RecordsOf l k

-- over runs
unfoldable pub over : (List ℕ → ℕ) → List (List ℕ) → ℕ
over f [] = 0
over f (s ∷ k) = f s + over f k
