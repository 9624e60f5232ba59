-- Parts of a list of words: the column of q words from p on, a store into it, and another list in place of it.
use Rattle.std.specs.Prelude.{ℕ, ◌+◌, cond, List, ◌++◌, ltb, length, take, drop, set}

unfoldable pub col : ℕ → ℕ → List ℕ → List ℕ
col p q b = take q (drop p b)

-- v at index i of the column; an index outside the column changes nothing
unfoldable pub store : ℕ → ℕ → ℕ → ℕ → List ℕ → List ℕ
store p q i v b = cond (ltb i q) (set b (p + i) v) b

-- b with the words of l from p on
unfoldable pub splice : ℕ → List ℕ → List ℕ → List ℕ
splice p l b = take p b ++ l ++ drop (p + length l) b
