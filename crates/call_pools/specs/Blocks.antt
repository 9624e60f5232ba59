-- What is read of a pool's mask, for any mask: bit k - 1 is block k's, set where it is free.
use Rattle.std.specs.Prelude.{Bool, ◌||◌, List, ℕ, zero, suc, pred, ◌+◌, ◌/◌, ◌%◌, ◌^◌, eqb, leb, pos}
use Rattle.rules.specs.Events.{outside}
use Rattle.memory_columns.specs.Layout as Layout
use Rattle.memory_columns.specs.Layout.{entry}

-- how many of the k lowest bits are set
unfoldable pub bit_count : ℕ → ℕ → ℕ
bit_count zero m = 0
bit_count (suc k) m = m % 2 + bit_count k (m / 2)

-- block k of pool p is not out: there is no such block, or it is free
unfoldable pub not_out : List ℕ → ℕ → ℕ → Bool
not_out b p k = outside (pos k) (entry Layout.size b p) || (leb 33 k || eqb ((entry Layout.free b p / 2 ^ pred k) % 2) 1)
