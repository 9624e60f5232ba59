-- The words of the events as they are decoded. Assumes nothing.
use mathlib.Core.List.{List, [], ◌∷◌, ◌++◌, map, append-nil}
use mathlib.Core.Path.{◌≡◌, refl, ap}
use Prim.Native.Nat.{ℕ, zero, suc, ◌+◌, ◌*◌, ◌≤◌, ◌<◌}
use native.Mathlib.Omega.{arith}
use lib.IntN.{ℤ}
use lib.ListN.{length, drop, set, drop_of_length-le}
use Rattle.rules.specs.Setup.{word_at}
use Rattle.run_reading.specs.Recorded.{signed_word}
use Rattle.run_compare_reading.specs.Compared.{words_from}

pub decode_none : (s : List ℕ) (from : ℕ) (t : List ℤ) → t ≡ map signed_word (words_from s 0 from) ++ drop 0 t
unfolding words_from
decode_none s from t = refl

-- the words so far stand in front of what was there; the next one is stored behind them
pub decode_next : (s : List ℕ) (from i : ℕ) (t : List ℤ) → i < length t
    → set (map signed_word (words_from s i from) ++ drop i t) i (signed_word (word_at s (from + 4 * i))) ≡ map signed_word (words_from s (i + 1) from) ++ drop (i + 1) t
unfolding words_from
decode_next s from i [] h = absurd (omega (arith, h))
decode_next s from zero (x ∷ t) h = let e : from + 4 * 0 ≡ from = omega arith in rw e
decode_next s from (suc i) (x ∷ t) h =
    let e : from + 4 + 4 * i ≡ from + 4 * suc i = omega arith in
    let f : suc i + 1 ≡ suc (i + 1) = omega arith in
    rw (f, ← e) (ap (λ (l : List ℤ). signed_word (word_at s from) ∷ l) (decode_next s (from + 4) i t (omega (arith, h))))

pub decode_all : (s : List ℕ) (from i : ℕ) (t t' : List ℤ) → i ≤ length t → length t ≤ i → t' ≡ map signed_word (words_from s i from) ++ drop i t
    → t' ≡ map signed_word (words_from s (length t) from)
decode_all s from i t t' h k e =
    let q : i ≡ length t = omega (arith, h, k) in
    rw (drop_of_length-le t k, append-nil, q) at e
