-- Worked examples of inputs and their texts.
use Rattle.std.specs.Prelude.{List, [], ◌∷◌, ◌++◌, ℕ}
use Rattle.rules_examples.specs.BenchSheet.{bench_bytes}
use Rattle.rules_examples.specs.Bytes.{bytes}
use Rattle.run_text.specs.Ascii.{ascii}

pub record Example : Type 0 where
  pub input : List ℕ
  pub text : List ℕ

abbrev example : List ℕ → List ℕ → Example
example s t = record { input = s; text = t }

-- a setup as it stands in an input: with its eighth section, which is empty
abbrev standing : List ℕ → List ℕ
standing s = s ++ bytes (0 ∷ [])

-- the bench sheet's setup; and with task 2 at priority 1
abbrev sheet : List ℕ
sheet = standing bench_bytes

abbrev changed : List ℕ
changed = standing (bytes (4 ∷ 3 ∷ 2 ∷ 1 ∷ 1 ∷ 1 ∷ 1 ∷ 0 ∷ 1 ∷ 0 ∷ 1 ∷ 0 ∷ 1 ∷ 2 ∷ 1 ∷ 2 ∷ []))

-- sta_tsk(3) and slp_tsk
abbrev night : List ℕ
night = bytes (2 ∷ 0 ∷ 1 ∷ 3 ∷ 0 ∷ 0 ∷ 0 ∷ 9 ∷ 0 ∷ 0 ∷ 0 ∷ [])

abbrev pub examples : List Example
examples =
    -- task 2 runs first now and goes on when task 3 is started; asleep, it leaves task 3 running
    example (sheet ++ changed ++ night) (ascii "1 0 0 0 3 0\n1 0 0 0 2 0\n2 1 0 0 1 0\n2 1 0 0 3 0\n2\n")
    -- get_tim, and an event of another kind: code and words are the same, the running task is not
    ∷ example (sheet ++ changed ++ bytes (2 ∷ 0 ∷ 32 ∷ 0 ∷ 0 ∷ 0 ∷ 9 ∷ 0 ∷ 0 ∷ 0 ∷ 0 ∷ [])) (ascii "1 0 0 0 1 0\n1 0 0 0 2 0\n2 -1 0 0 1 0\n2 -1 0 0 2 0\n2\n")
    ∷ example (sheet ++ sheet ++ night) (ascii "0\n")
    ∷ example (sheet ++ changed ++ bytes (0 ∷ [])) (ascii "0\n")
    -- S1: no second setup; no count of events; in an event. The place is from the input's start
    ∷ example [] (ascii "refused 1 0\n")
    ∷ example sheet (ascii "refused 1 68\n")
    ∷ example (sheet ++ changed) (ascii "refused 1 136\n")
    ∷ example (sheet ++ changed ++ bytes (2 ∷ 0 ∷ 1 ∷ 3 ∷ 0 ∷ 0 ∷ 0 ∷ 9 ∷ []) ++ (0 ∷ 0 ∷ [])) (ascii "refused 1 168\n")
    -- S2: 3,001 events
    ∷ example (sheet ++ changed ++ bytes (3001 ∷ [])) (ascii "refused 2 136\n")
    -- S3: a starting priority above P, in the second setup
    ∷ example (sheet ++ bytes (4 ∷ 1 ∷ 5 ∷ 1 ∷ [])) (ascii "refused 3 76\n")
    -- S4: one byte behind the last event; nothing has run
    ∷ example (sheet ++ changed ++ night ++ (0 ∷ [])) (ascii "refused 4 180\n")
    ∷ []
