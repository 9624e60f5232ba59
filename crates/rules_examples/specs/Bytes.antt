-- Setups as bytes, and the setup of most examples.
use Rattle.std.specs.Prelude.{List, [], ◌∷◌, ℕ, ◌/◌, ◌%◌}

-- a word as four bytes, least significant first
abbrev pub bytes : List ℕ → List ℕ
bytes [] = []
bytes (w ∷ l) = w % 256 ∷ w / 256 % 256 ∷ w / 65536 % 256 ∷ w / 16777216 ∷ bytes l

-- Priorities 1 to 4. Tasks 1, 2 and 5 start at priority 2, task 4 at 3; task 3, of priority 1, is not started. Semaphores 0, 1, 65535;
-- flags 0 and 5; two mailboxes, three messages; pools of two blocks and one.
abbrev pub example_bytes : List ℕ
example_bytes = bytes (4 ∷ 5 ∷ 2 ∷ 1 ∷ 2 ∷ 1 ∷ 1 ∷ 0 ∷ 3 ∷ 1 ∷ 2 ∷ 1 ∷ 3 ∷ 0 ∷ 1 ∷ 65535 ∷ 2 ∷ 0 ∷ 5 ∷ 2 ∷ 3 ∷ 2 ∷ 2 ∷ 1 ∷ [])
