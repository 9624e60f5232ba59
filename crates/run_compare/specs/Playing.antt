-- What the code hands on from the runs to the text: the answers as they lie in the lent places.
use Rattle.std.specs.Prelude.{List, map, ◌≡◌, ℕ, ◌+◌, ◌*◌, ℤ}
use Rattle.rules.specs.Setup.{got, Setup, read_setup}
use Rattle.rules.specs.Events.{events_of}
use Rattle.rules.specs.Answers.{numbers}
use Rattle.run_reading.specs.Recorded.{signed_word}
use Rattle.run_compare_reading.specs.Compared.{words_from}
use Rattle.run_compare_text.specs.Rows.{rows}
use Rattle.run_compare.specs.Difference.{runs}

-- the words of the n events behind the count at an offset
abbrev pub given : List ℕ → ℕ → ℕ → List ℤ
given s at n = map signed_word (words_from s (5 * n) (at + 4))

-- of n events the rules' answers stand in their places, from the setup that begins at i and ends at j
abbrev pub RanFrom : List ℕ → ℕ → ℕ → List ℤ → ℕ → List ℤ → List ℕ → Type 0
RanFrom s i j events n codes words = (u : Setup) → read_setup s i ≡ got u j → rows codes words n 0 ≡ map numbers (runs u (events_of events))

-- so from both setups: the second begins at i, and the count of events stands at j
pub record BothRan (s : List ℕ) (i j n : ℕ) (codes : List ℤ) (words : List ℕ) (codes' : List ℤ) (words' : List ℕ) : Type 0 where
  pub first : RanFrom s 0 i (given s j n) n codes words
  pub second : RanFrom s i j (given s j n) n codes' words'
