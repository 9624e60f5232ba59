-- The faults of a setup, said without its reader: by the setups in range and their bytes. Read left to right, the first fault decides:
-- the bytes before its place are those of a setup in range.
use Rattle.std.specs.Prelude.{List, [], ◌∷◌, map, ◌≡◌, ℕ, ◌+◌, ◌*◌, ◌≤◌, ◌<◌, length, get_or, take}
use Rattle.rules.specs.Setup.{Fault, S1, S2, S3, S4, Setup, GoodSetup}
use Rattle.rules.specs.Writing.{joined, setup_sections, setup_words, setup_bytes, seven_bytes}

-- the fault of a word that is outside its range: S2 of the count at the head of a section, S3 of a word of an entry behind it
abbrev pub section_faults : List ℕ → List Fault
section_faults [] = []
section_faults (n ∷ l) = S2 ∷ map (λ w. S3) l

abbrev pub word_faults : Setup → List Fault
word_faults u = joined (map section_faults (setup_sections u))

-- the first n bytes are those of the setup
abbrev pub Begins : List ℕ → ℕ → Setup → Type 0
Begins s n u = (n ≤ length s) × (n ≤ length (setup_bytes u)) × (take n s ≡ take n (setup_bytes u))

-- A word is needed at the place: the bytes before it begin a setup in range that has a word there.
pub record Needs (s : List ℕ) (p : ℕ) : Type 0 where
  pub setup : Setup
  pub good : GoodSetup setup
  -- which of its words
  pub word : ℕ
  pub there : word < length (setup_words setup)
  pub place : p ≡ 4 * word
  pub begins : Begins s p setup

-- The word at the place is whole and outside its range: the bytes up to its end begin no setup in range.
abbrev pub Outside : List ℕ → ℕ → Type 0
Outside s p = (p + 4 ≤ length s) × ((u : Setup) → GoodSetup u → Begins s (p + 4) u → ⊥)

-- The bytes end after seven sections: they are those of a setup in range with no counter.
pub record EndsAfterSeven (s : List ℕ) : Type 0 where
  pub setup : Setup
  pub good : GoodSetup setup
  pub none : setup.counters ≡ []
  pub bytes : s ≡ seven_bytes setup

-- S1 the bytes end before a needed word is whole; S2 a count outside its range; S3 an entry outside its range; S4 bytes left over.
abbrev pub HasFault : List ℕ → Fault → ℕ → Type 0
HasFault s S1 p = Needs s p × (length s < p + 4) × (EndsAfterSeven s → ⊥)
HasFault s S2 p = (n : Needs s p) × (get_or (word_faults n.setup) n.word S1 ≡ S2) × Outside s p
HasFault s S3 p = (n : Needs s p) × (get_or (word_faults n.setup) n.word S1 ≡ S3) × Outside s p
HasFault s S4 p = (u : Setup) × GoodSetup u × Begins s p u × (p ≡ length (setup_bytes u)) × (p < length s)
