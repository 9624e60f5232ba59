-- How many waiters set_flg can look at, by example.
use Rattle.std.specs.Prelude.{List, [], ◌∷◌, ◌++◌, ℕ, ℤ, pos, replicate}
use Rattle.rules.specs.Setup.{Read, got, and_then, setup}
use Rattle.rules.specs.Events.{Event}
use Rattle.rules.specs.Answers.{numbers}
use Rattle.rules.specs.Kernel.{fresh, event}
use Rattle.rules.specs.Runs.{states}
use Rattle.rules_examples.specs.Bytes.{bytes}
use Rattle.rules_examples.specs.BenchSheet.{task_call, wai_flg}

-- How many waiters set_flg can look at. One priority, 32 tasks of it, all started; one flag.
abbrev pub full_bytes : List ℕ
full_bytes = bytes (1 ∷ 32 ∷ (replicate 64 1 ++ (0 ∷ 1 ∷ 0 ∷ 0 ∷ 0 ∷ 0 ∷ [])))

-- the first n tasks and one more wait on the flag in turn, that one for bit 1 with clearing, the others for bit 2
abbrev pub wait_in_turn : ℕ → List Event
wait_in_turn n = replicate n (task_call wai_flg (pos 1) (pos 2) (pos 0)) ++ (task_call wai_flg (pos 1) (pos 1) (pos 2) ∷ [])

-- what comes back of an event after others, from the kernel with queues (the plain one would compute too long with 32 waiters)
unfoldable pub full_says : List Event → Event → Read (List ℤ)
unfolding states
full_says l e = and_then (setup full_bytes) (λ u i. got (numbers (event (states (fresh u) l) e).answer) i)
