-- The answers as they lie in the lent places.
use Rattle.std.specs.Prelude.{cond, ◌&&◌, List, [], ◌∷◌, ℕ, zero, suc, ◌+◌, ◌*◌, ◌≤◌, leb, ℤ, pos, length, get_or}
use Rattle.run_compare_reading.specs.Compared.{most_compared}
use Rattle.run_compare_text.specs.Changes.{Change, changes, compared_text}
use Rattle.run_compare_text.specs.declared.Row.{Row}

abbrev pub numbers_of : Row → List ℤ
numbers_of r = r.code ∷ pos r.w1 ∷ pos r.w2 ∷ pos r.runs ∷ pos r.released ∷ []

-- the numbers of answer i: a code, and four words
abbrev pub row_at : List ℤ → List ℕ → ℕ → List ℤ
row_at codes words i =
    get_or codes i (pos 0) ∷ pos (get_or words (4 * i) 0) ∷ pos (get_or words (4 * i + 1) 0) ∷ pos (get_or words (4 * i + 2) 0) ∷ pos (get_or words (4 * i + 3) 0) ∷ []

-- of n answers from i on
unfoldable pub rows : List ℤ → List ℕ → ℕ → ℕ → List (List ℤ)
rows codes words zero i = []
rows codes words (suc n) i = row_at codes words i ∷ rows codes words n (suc i)

-- ---- two runs: the codes and the words of the first, then of the second

-- of n events
abbrev pub changes_in : ℕ → List ℤ → List ℕ → List ℤ → List ℕ → List Change
changes_in n c w d v = changes 1 (rows c w n 0) (rows d v n 0)

abbrev pub text_in : ℕ → List ℤ → List ℕ → List ℤ → List ℕ → List ℕ
text_in n c w d v = compared_text (rows c w n 0) (rows d v n 0)

-- a run may have n events, and their answers are lent
abbrev pub Lent : ℕ → List ℤ → List ℕ → List ℤ → List ℕ → Type 0
Lent n c w d v = (n ≤ most_compared) × (n ≤ length c) × (4 * n ≤ length w) × (n ≤ length d) × (4 * n ≤ length v)

-- n, if that is so of one run; else 0
unfoldable pub lent_count : ℕ → ℕ → ℕ → ℕ
lent_count n codes words = cond (leb n most_compared && (leb n codes && leb (4 * n) words)) n 0

-- of both
abbrev pub lent_in : ℕ → List ℤ → List ℕ → List ℤ → List ℕ → ℕ
lent_in n c w d v = lent_count (lent_count n (length c) (length w)) (length d) (length v)
