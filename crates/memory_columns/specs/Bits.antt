-- The bits of a word of 32.
use Rattle.std.specs.Prelude.{Bool, true, false, cond, ℕ, ◌-◌, ◌^◌, ltb}
use Rattle.std.specs.Int.Bits.{bit_and, bit_or}

-- the word with bit k as t says
abbrev pub masked : ℕ → ℕ → Bool → ℕ
masked m k true = bit_or m (2 ^ k)
masked m k false = bit_and m (2 ^ 32 - 1 - 2 ^ k)

-- a number that is no bit's changes nothing
abbrev pub remasked : ℕ → ℕ → Bool → ℕ
remasked m k t = cond (ltb k 32) (masked m k t) m
