-- Worked examples of files and their texts.
use Rattle.std.specs.Prelude.{List, [], ◌∷◌, ◌++◌, ℕ, ◌-◌, ◌^◌, replicate}
use Rattle.rules.specs.Writing.{joined}
use Rattle.rules_examples.specs.BenchSheet.{bench_bytes}
use Rattle.rules_examples.specs.Bytes.{bytes}
use Rattle.run_text.specs.Ascii.{ascii}

pub record Example : Type 0 where
  pub file : List ℕ
  pub text : List ℕ

abbrev example : List ℕ → List ℕ → Example
example f t = record { file = f; text = t }

-- the bench sheet's setup as a recorded one, with no counter
abbrev bench_setup : List ℕ
bench_setup = bench_bytes ++ bytes (0 ∷ [])

-- the bench-sheet setup with sta_tsk(3) and slp_tsk
abbrev pub bench_run : List ℕ
bench_run = bench_setup ++ bytes (2 ∷ 0 ∷ 1 ∷ 3 ∷ 0 ∷ 0 ∷ 0 ∷ 9 ∷ 0 ∷ 0 ∷ 0 ∷ [])

abbrev pub examples : List Example
examples =
    example bench_run (ascii "start 1\n1 0 0 0 3 0\n2 1 0 0 1 0\n")
    ∷ example (bench_setup ++ bytes (0 ∷ [])) (ascii "start 1\n")
    -- a handler's call outside handlers; then entry, the handler's sta_tsk(3), return: task 3 runs at the return and not before
    ∷ example (bench_setup ++ bytes (4 ∷ 1 ∷ 1 ∷ 3 ∷ 0 ∷ 0 ∷ 3 ∷ 0 ∷ 0 ∷ 0 ∷ 0 ∷ 1 ∷ 1 ∷ 3 ∷ 0 ∷ 0 ∷ 4 ∷ 0 ∷ 0 ∷ 0 ∷ 0 ∷ []))
    (ascii "start 1\n1 -2629 0 0 1 0\n2 0 0 0 1 0\n3 0 0 0 1 0\n4 0 0 0 3 0\n")
    -- with a counter of 4, whose alarms start task 3: set alarm 1 to fire in 2 ticks; it does, and is idle
    ∷ example (bench_bytes ++ bytes (1 ∷ 4 ∷ joined (replicate 8 (3 ∷ 0 ∷ [])) ++ 4 ∷ 0 ∷ 37 ∷ 1 ∷ 2 ∷ 0 ∷ 2 ∷ 0 ∷ 0 ∷ 0 ∷ 0 ∷ 2 ∷ 0 ∷ 0 ∷ 0 ∷ 0 ∷ 0 ∷ 39 ∷ 1 ∷ 0 ∷ 0 ∷ []))
    (ascii "start 1\n1 0 0 0 1 0\n2 0 0 0 1 0\n3 0 0 0 3 0\n4 0 0 0 3 0\n")
    -- any other kind gets code -1 as H_CALL does: here 5, and -1
    ∷ example (bench_setup ++ bytes (2 ∷ 5 ∷ 26 ∷ 0 ∷ 0 ∷ 0 ∷ (2 ^ 32 - 1) ∷ 26 ∷ 0 ∷ 0 ∷ 0 ∷ [])) (ascii "start 1\n1 -1 0 0 1 0\n2 -1 0 0 1 0\n")
    -- S1: empty input, no word where the count of events should be, and in an event: whole ones stand, the place is that of the unfinished word
    ∷ example [] (ascii "refused 1 0\n")
    ∷ example bench_setup (ascii "refused 1 68\n")
    ∷ example (bench_setup ++ bytes (2 ∷ 0 ∷ 1 ∷ 3 ∷ 0 ∷ 0 ∷ 0 ∷ 9 ∷ 0 ∷ []) ++ (0 ∷ 0 ∷ [])) (ascii "start 1\n1 0 0 0 3 0\nrefused 1 104\n")
    ∷ example (bench_setup ++ bytes (1 ∷ [])) (ascii "start 1\nrefused 1 72\n")
    -- a recorded setup ends with its eighth section: with seven alone, S1; where the count of events follows them, it is taken for that of counters
    ∷ example bench_bytes (ascii "refused 1 64\n")
    ∷ example (bench_bytes ++ bytes (2 ∷ 0 ∷ 1 ∷ 3 ∷ 0 ∷ 0 ∷ 0 ∷ 9 ∷ 0 ∷ 0 ∷ 0 ∷ [])) (ascii "refused 2 64\n")
    -- S2: 1,000,001 events; no start line
    ∷ example (bench_setup ++ bytes (1000001 ∷ [])) (ascii "refused 2 68\n")
    -- S3: a starting priority above P
    ∷ example (bytes (4 ∷ 1 ∷ 5 ∷ 1 ∷ [])) (ascii "refused 3 8\n")
    -- S4: one byte behind the last event; its line follows those that stand
    ∷ example (bench_run ++ (0 ∷ [])) (ascii "start 1\n1 0 0 0 3 0\n2 1 0 0 1 0\nrefused 4 112\n")
    ∷ []
