-- A mask with one bit set or cleared shows the pool with one mark changed. Assumes nothing.
use mathlib.Core.Bool.{Bool, true, false, cond}
use mathlib.Core.List.{List, [], ◌∷◌}
use mathlib.Core.Path.{◌≡◌, refl, sym, ap, ◌∙◌}
use Prim.Native.Nat.{ℕ, zero, suc, pred, ◌+◌, ◌-◌, ◌*◌, ◌/◌, ◌%◌, ◌^◌, ◌≤◌, ◌<◌}
use native.Mathlib.Nat.{pow-suc, mod-eq_of_lt, div-eq_of_lt, div-lt_iff_lt-mul, div-div-eq-div-mul, pow-le-pow_right, pow-succ'}
use native.Mathlib.Decide.{dec_lt}
use native.Mathlib.Omega.{arith}
use lib.Bits.{bit_and, bit_or, or_step, or_zero_r, or_lt, and_step, and_mask, and_le_l}
use lib.Dec.{eqb}
use lib.ListN.{length, get_or, set, get_or-eq_default}
use lib.Pow.{pow_pos, pow-lt}
use borrow.Author.Tests.{eqb-true, eq-eqb}
use Rattle.rules.specs.Ids.{of, put, In}
use Rattle.memory_columns.specs.Layout.{max_blocks}
use Rattle.memory_columns.specs.Bits.{masked}
use Rattle.memory_picture.specs.Picture.{bits_of, pool_shown}

pow_half : (i : ℕ) → 2 ^ suc i / 2 ≡ 2 ^ i
pow_half i = rw (pow-suc 2 i) (omega arith)

pow_even : (i : ℕ) → 2 ^ suc i % 2 ≡ 0
pow_even i = rw (pow-suc 2 i) (omega arith)

pub length_bits : (n m : ℕ) → length (bits_of n m) ≡ n
unfolding bits_of
length_bits zero m = refl
length_bits (suc n) m = ap suc (length_bits n (m / 2))

-- one of them, whatever stands past the end
pub bits_at : (n i m : ℕ) (d : Bool) → i < n → get_or (bits_of n m) i d ≡ eqb ((m / 2 ^ i) % 2) 1
unfolding bits_of
bits_at zero i m d h = absurd (omega arith)
bits_at (suc n) zero m d h = let e : m ≡ m / 2 ^ 0 = omega arith in ap (λ (x : ℕ). eqb (x % 2) 1) e
bits_at (suc n) (suc i) m d h = bits_at n i (m / 2) d (omega arith) ∙ ap (λ (x : ℕ). eqb (x % 2) 1) (div-div-eq-div-mul m 2 (2 ^ i) ∙ ap (λ (x : ℕ). m / x) (sym (pow-succ' 2 i)))

-- the mark of a block; one that a pool with blocks lacks has none
pub pool_at : (n m i : ℕ) → In (length (pool_shown n m)) max_blocks → of (pool_shown n m) (suc i) false ≡ eqb ((m / 2 ^ i) % 2) 1
unfolding pool_shown
pool_at n m i = go (eqb (m / 2 ^ n) 0) refl
  where
    go : (t : Bool) → eqb (m / 2 ^ n) 0 ≡ t → In (length (cond t (bits_of n m) [])) max_blocks → get_or (cond t (bits_of n m) []) i false ≡ eqb ((m / 2 ^ i) % 2) 1
    go true e h = elim (dec_lt i n) [
      | yes k ↦ bits_at n i m false k
      | no k ↦
          let r : n ≤ i = omega arith in
          let g = pow-le-pow_right {n = 2} (omega arith) r in
          let w : m < 2 ^ n = omega (arith, (div-lt_iff_lt-mul {k = 2 ^ n} {x = m} {y = 1} (pow_pos n)).0 (omega (arith, eqb-true (m / 2 ^ n) 0 e))) in
          let z : m / 2 ^ i ≡ 0 = div-eq_of_lt (omega arith) in
          rw z (get_or-eq_default (bits_of n m) false {n = i} (rw (length_bits n m) r))
    ]
    go false e h = absurd (omega (arith, h.0))

-- the bits of a number whose half and whose last bit are known
bits_step : (n m x y : ℕ) → m ≡ x * 2 + y → y < 2 → bits_of (suc n) m ≡ eqb y 1 ∷ bits_of n x
unfolding bits_of
bits_step n m x y e h =
    let p : m % 2 ≡ y = omega arith in
    let q : m / 2 ≡ x = omega arith in
    rw (p, q)

bits_set : (n m i : ℕ) → i < n → bits_of n (bit_or m (2 ^ i)) ≡ set (bits_of n m) i true
unfolding bits_of
bits_set zero m i h = absurd (omega arith)
bits_set (suc n) m zero h = bits_step n (bit_or m 1) (m / 2) 1 (or_step m 1 ∙ rw or_zero_r (omega arith)) (omega arith)
bits_set (suc n) m (suc i) h =
    bits_step n (bit_or m (2 ^ suc i)) (bit_or (m / 2) (2 ^ i)) (m % 2) (or_step m (2 ^ suc i) ∙ rw (pow_half i, pow_even i) (omega arith)) (omega arith)
    ∙ ap (λ (l : List Bool). eqb (m % 2) 1 ∷ l) (bits_set n (m / 2) i (omega arith))

-- in a mask of w bits
bits_clear : (w n m i : ℕ) → i < n → n ≤ w → m < 2 ^ w → bits_of n (bit_and m (2 ^ w - 1 - 2 ^ i)) ≡ set (bits_of n m) i false
unfolding bits_of
bits_clear w zero m i h k l = absurd (omega arith)
bits_clear zero (suc n) m i h k l = absurd (omega arith)
bits_clear (suc w) (suc n) m zero h k l =
    let p = pow_pos w in
    let s = pow-suc 2 w in
    let x : (2 ^ suc w - 1 - 1) / 2 ≡ 2 ^ w - 1 = omega arith in
    let y : (2 ^ suc w - 1 - 1) % 2 ≡ 0 = omega arith in
    bits_step n (bit_and m (2 ^ suc w - 1 - 1)) (m / 2) 0 (and_step m (2 ^ suc w - 1 - 1) ∙ rw (x, y, and_mask, mod-eq_of_lt {n = m / 2} {m = 2 ^ w} (omega arith)) (omega arith)) (omega arith)
bits_clear (suc w) (suc n) m (suc i) h k l =
    let q : i < w = omega arith in
    let p = pow-lt q in
    let s = pow-suc 2 w in
    let t = pow-suc 2 i in
    let x : (2 ^ suc w - 1 - 2 ^ suc i) / 2 ≡ 2 ^ w - 1 - 2 ^ i = omega arith in
    let y : (2 ^ suc w - 1 - 2 ^ suc i) % 2 ≡ 1 = omega arith in
    bits_step n (bit_and m (2 ^ suc w - 1 - 2 ^ suc i)) (bit_and (m / 2) (2 ^ w - 1 - 2 ^ i)) (m % 2) (and_step m (2 ^ suc w - 1 - 2 ^ suc i) ∙ rw (x, y) (omega arith)) (omega arith)
    ∙ ap (λ (l : List Bool). eqb (m % 2) 1 ∷ l) (bits_clear w n (m / 2) i (omega arith) (omega arith) (omega arith))

pub bits_masked : (n m i : ℕ) (t : Bool) → i < n → n ≤ 32 → m < 2 ^ n → bits_of n (masked m i t) ≡ set (bits_of n m) i t
bits_masked n m i true h k l = bits_set n m i h
bits_masked n m i false h k l = bits_clear 32 n m i h k (let g = pow-le-pow_right {n = 2} (omega arith) k in omega arith)

pub masked_lt : (n m i : ℕ) (t : Bool) → i < n → m < 2 ^ n → masked m i t < 2 ^ n
masked_lt n m i true h l = or_lt n m (2 ^ i) l (pow-lt h)
masked_lt n m i false h l = omega (arith, and_le_l m (2 ^ 32 - 1 - 2 ^ i))

-- block k of a pool of n blocks gets the mark t
pub pool_masked : (n m k : ℕ) (t : Bool) → In k (length (pool_shown n m)) → length (pool_shown n m) ≤ 32 → pool_shown n (masked m (pred k) t) ≡ put (pool_shown n m) k t
unfolding pool_shown
pool_masked n m zero t h l = absurd (omega (arith, h.0))
pool_masked n m (suc i) t h l = go (eqb (m / 2 ^ n) 0) refl h l
  where
    go : (x : Bool) → eqb (m / 2 ^ n) 0 ≡ x → In (suc i) (length (cond x (bits_of n m) [])) → length (cond x (bits_of n m) []) ≤ 32
        → cond (eqb (masked m i t / 2 ^ n) 0) (bits_of n (masked m i t)) [] ≡ set (cond x (bits_of n m) []) i t
    go true e g k =
        let q : i < n = omega (arith, g.1, length_bits n m) in
        let r : m < 2 ^ n = omega (arith, (div-lt_iff_lt-mul {k = 2 ^ n} {x = m} {y = 1} (pow_pos n)).0 (omega (arith, eqb-true (m / 2 ^ n) 0 e))) in
        rw (eq-eqb (masked m i t / 2 ^ n) 0 (div-eq_of_lt (masked_lt n m i t q r))) (bits_masked n m i t q (omega (arith, length_bits n m)) r)
    go false e g k = absurd (omega (arith, g.1))
