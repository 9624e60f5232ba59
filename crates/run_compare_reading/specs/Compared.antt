-- Two setups and one run as bytes: the first setup, the second, then one more section, the events, then nothing. All of it is read as a setup is: the first
-- fault decides, and its place is counted from the input's start.
use Rattle.std.specs.Prelude.{List, [], ◌∷◌, map, ◌≡◌, ℕ, zero, suc, ◌+◌, ◌-◌, ◌*◌, ◌^◌, ◌≤◌, ℤ, length, Result, Ok, Err}
use Rattle.rules.specs.Setup.{Fault, Read, got, refused, and_then, word_at, Range, to, Section, section, read_section, Setup, read_setup, at_end}
use Rattle.rules.specs.Writing.{joined}
use Rattle.run_reading.specs.Recorded.{head_bytes, event_bytes, signed_word}
use Rattle.setup_sections.specs.Judging.{Refusal, coded}
use Rattle.run_compare_reading.specs.declared.Places.{Places}

-- ---- the input

pub record Compared : Type 0 where
  pub first : Setup
  pub second : Setup
  -- of the events, five for each: kind, call, a, b, c
  pub words : List ℤ

abbrev pub most_compared : ℕ
most_compared = 3000

-- more bytes than any input has that is not refused, the constant INPUT
abbrev pub input_bytes : ℕ
input_bytes = 2 * head_bytes + event_bytes * most_compared

abbrev pub any_word : Range
any_word = to 0 (2 ^ 32 - 1)

abbrev pub events : Section
events = section (to 0 most_compared) (any_word ∷ any_word ∷ any_word ∷ any_word ∷ any_word ∷ [])

-- the section of events, as signed words
unfoldable pub read_events : List ℕ → ℕ → Read (List ℤ)
read_events s i = and_then (read_section s events i) (λ l j. got (map signed_word (joined l)) j)

unfoldable pub compared : List ℕ → Read Compared
compared s =
    at_end s
    (and_then (read_setup s 0) (λ u i. and_then (read_setup s i) (λ v j. and_then (read_events s j) (λ w k. got (record { first = u; second = v; words = w }) k))))

-- ---- what is judged of it

-- n words from an offset on
unfoldable pub words_from : List ℕ → ℕ → ℕ → List ℕ
words_from s zero i = []
words_from s (suc n) i = word_at s i ∷ words_from s n (i + 4)

-- it is refused, with this fault and place
pub record Refuses (s : List ℕ) (e : Refusal) : Type 0 where
  pub fault : Fault
  pub read : compared s ≡ refused fault e.place
  pub told : e.fault ≡ coded fault

-- it is accepted: the second setup begins at i, the count of events stands at j, their words behind it
pub record Lies (s : List ℕ) (i j : ℕ) : Type 0 where
  pub all : Compared
  pub end : ℕ
  pub read : compared s ≡ got all end
  pub first : read_setup s 0 ≡ got all.first i
  pub second : read_setup s i ≡ got all.second j
  pub room : j + 4 ≤ length s
  pub few : word_at s j ≤ most_compared
  pub words : all.words ≡ map signed_word (words_from s (5 * word_at s j) (j + 4))

abbrev pub Judges : List ℕ → Result Places Refusal → Type 0
Judges s (Err e) = Refuses s e
Judges s (Ok p) = Lies s p.second p.events
