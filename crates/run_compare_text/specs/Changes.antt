-- What differs between two runs of the same events, as text. An answer is its five numbers, as a recorded run lists them: code, w1, w2, running task, released.
use Rattle.std.specs.Prelude.{Bool, false, cond, not, ◌||◌, List, [], ◌∷◌, ◌++◌, ℕ, suc, ℤ, length}
use Rattle.rules.specs.Codes.{same}
use Rattle.run_text.specs.Lines.{digits, decimal, signed, fields, event_line, count_line}

-- ---- events at which the answers differ

-- in any of the numbers
unfoldable pub differ : List ℤ → List ℤ → Bool
differ [] b = false
differ (x ∷ a) [] = false
differ (x ∷ a) (y ∷ b) = not (same x y) || differ a b

-- the event's number, and its answers in the first run and in the second
pub record Change : Type 0 where
  pub number : ℕ
  pub first : List ℤ
  pub second : List ℤ

abbrev pub change : ℕ → List ℤ → List ℤ → Change
change n a b = record { number = n; first = a; second = b }

-- of two lists of answers, to events that are numbered from n on
unfoldable pub changes : ℕ → List (List ℤ) → List (List ℤ) → List Change
changes n [] l = []
changes n (a ∷ k) [] = []
changes n (a ∷ k) (b ∷ l) = cond (differ a b) (change n a b ∷ changes (suc n) k l) (changes (suc n) k l)

-- ---- as text

-- the two lines of each, the first run's first
unfoldable pub change_lines : List Change → List ℕ
change_lines [] = []
change_lines (c ∷ l) = (event_line c.number c.first ++ event_line c.number c.second) ++ change_lines l

-- and how many there are
unfoldable pub changes_text : List Change → List ℕ
unfolding digits decimal signed fields event_line count_line change_lines
changes_text l = change_lines l ++ count_line (length l)

-- the text of two runs
unfoldable pub compared_text : List (List ℤ) → List (List ℤ) → List ℕ
unfolding differ changes changes_text
compared_text k l = changes_text (changes 1 k l)
