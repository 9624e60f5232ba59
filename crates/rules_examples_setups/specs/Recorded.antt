-- A recorded run, from bytes to answers.
use Rattle.std.specs.Prelude.{List, [], ◌∷◌, ℕ, ℤ, pos}
use Rattle.rules.specs.Codes.{minus}
use Rattle.rules.specs.Setup.{Read, got}
use Rattle.rules_examples.specs.Bytes.{bytes}

-- A recorded run over another setup: priorities 1 and 2; task 1 starts at priority 1, task 2, of priority 2, is not started. Fresh: the
-- others are dormant, clock 0; a dormant task has its starting priority. Kinds 0 task, 1 handler, 2 tick, 3 entry, 4 return, of which the
-- last three ignore the other words; any other is H_CALL, before anything else is judged, whether or not a handler is open.
abbrev pub run_bytes : List ℕ
run_bytes = bytes (2 ∷ 2 ∷ 1 ∷ 1 ∷ 2 ∷ 0 ∷ 0 ∷ 0 ∷ 0 ∷ 0 ∷ 0 ∷ [])

abbrev pub run_words : List ℤ
run_words =
    pos 0 ∷ pos 32 ∷ pos 0 ∷ pos 0 ∷ pos 0
    ∷ pos 1 ∷ pos 27 ∷ pos 2 ∷ pos 0 ∷ pos 0
    ∷ pos 3 ∷ minus 1 ∷ pos 99 ∷ minus 2 ∷ pos 7
    ∷ pos 1 ∷ pos 27 ∷ pos 2 ∷ pos 0 ∷ pos 0
    ∷ pos 2 ∷ pos 33 ∷ minus 1 ∷ pos 0 ∷ pos 0
    ∷ pos 5 ∷ pos 32 ∷ pos 0 ∷ pos 0 ∷ pos 0
    ∷ pos 4 ∷ pos 0 ∷ pos 5 ∷ pos 0 ∷ minus 1
    ∷ pos 0 ∷ pos 32 ∷ pos 0 ∷ pos 0 ∷ pos 0
    ∷ pos 4 ∷ pos 0 ∷ pos 0 ∷ pos 0 ∷ pos 0
    ∷ pos 5 ∷ pos 14 ∷ pos 9 ∷ pos 0 ∷ pos 0
    ∷ minus 1 ∷ pos 32 ∷ pos 0 ∷ pos 0 ∷ pos 0
    ∷ []

abbrev pub run_answers : Read (List (List ℤ))
run_answers =
    got ((pos 0 ∷ pos 0 ∷ pos 0 ∷ pos 1 ∷ pos 0 ∷ [])
    ∷ (minus 2629 ∷ pos 0 ∷ pos 0 ∷ pos 1 ∷ pos 0 ∷ [])
    ∷ (pos 0 ∷ pos 0 ∷ pos 0 ∷ pos 1 ∷ pos 0 ∷ [])
    ∷ (pos 0 ∷ pos 0 ∷ pos 2 ∷ pos 1 ∷ pos 0 ∷ [])
    ∷ (pos 0 ∷ pos 0 ∷ pos 0 ∷ pos 1 ∷ pos 0 ∷ [])
    ∷ (minus 1 ∷ pos 0 ∷ pos 0 ∷ pos 1 ∷ pos 0 ∷ [])
    ∷ (pos 0 ∷ pos 0 ∷ pos 0 ∷ pos 1 ∷ pos 0 ∷ [])
    ∷ (pos 0 ∷ pos 0 ∷ pos 1 ∷ pos 1 ∷ pos 0 ∷ [])
    ∷ (minus 2629 ∷ pos 0 ∷ pos 0 ∷ pos 1 ∷ pos 0 ∷ [])
    ∷ (minus 1 ∷ pos 0 ∷ pos 0 ∷ pos 1 ∷ pos 0 ∷ [])
    ∷ (minus 1 ∷ pos 0 ∷ pos 0 ∷ pos 1 ∷ pos 0 ∷ [])
    ∷ []) 44
