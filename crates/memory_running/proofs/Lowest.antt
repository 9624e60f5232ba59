-- The word of marks has the bit p - 1 set just where the ready queue of priority p is nonempty; the lowest bit of such a word names the first
-- nonempty queue. Assumes nothing.
use mathlib.Core.Bool.{Bool, true, false, cond}
use mathlib.Core.List.{List, [], ◌∷◌, map}
use mathlib.Core.Path.{◌≡◌, refl, ◌∙◌}
use Prim.Native.Nat.{ℕ, zero, suc, ◌+◌, ◌*◌, ◌/◌, ◌%◌, ◌^◌, ◌≤◌, ◌<◌}
use native.Mathlib.Nat.{zero-add, mul-zero, mul-one, one-mul, mul-add, mul_assoc, pow-suc}
use native.Mathlib.Omega.{arith}
use lib.Bits.{bit_or, or_shifted_r}
use lib.Dec.{eqb}
use borrow.Author.Tests.{eq-eqb, ne_eqb}
use Rattle.rules.specs.Ids.{from, first, once}
use Rattle.rules.specs.View.{nonempty}
use Rattle.memory_rings.specs.Rings.{IsId, All, head_of}
use Rattle.memory_columns.specs.Layout.{max_priorities}
use Rattle.memory_picture.specs.Picture.{mask_of, occupied}
use Rattle.memory_running.specs.Running.{head_at, marks_of, lowest_mark}

module _ (b : List ℕ) where
  -- the marks of n priorities from p on, that of p lowest
  word : ℕ → ℕ → ℕ
  word zero p = 0
  word (suc n) p = cond (eqb (head_at b p) 0) 0 1 + 2 * word n (suc p)

  -- above the bits of w stand the marks of n priorities
  marks_word : (n p w : ℕ) → w < 2 ^ p → marks_of n (suc p) w b ≡ w + 2 ^ p * word n (suc p)
  unfolding marks_of word
  marks_word zero p w h = rw (mul-zero (2 ^ p)) (omega arith)
  marks_word (suc n) p w h = go (eqb (head_at b (suc p)) 0) (marks_word n (suc p))
    where
      W : ℕ
      W = word n (suc (suc p))

      twice : 2 ^ suc p * W ≡ 2 ^ p * (2 * W)
      twice = rw (pow-suc 2 p) (mul_assoc (2 ^ p) 2 W)

      one : bit_or w (2 ^ p) ≡ 2 ^ p + w
      one = rw one-mul at (or_shifted_r 1 p w h)

      go : (t : Bool) → ((v : ℕ) → v < 2 ^ suc p → marks_of n (suc (suc p)) v b ≡ v + 2 ^ suc p * W)
          → marks_of n (suc (suc p)) (cond t w (bit_or w (2 ^ p))) b ≡ w + 2 ^ p * (cond t 0 1 + 2 * W)
      go true rec = rec w (omega (arith, pow-suc 2 p)) ∙ rw (twice, zero-add (2 * W))
      go false rec = rw one (rec (2 ^ p + w) (omega (arith, pow-suc 2 p)) ∙ rw (twice, mul-add (2 ^ p) 1 (2 * W), mul-one (2 ^ p)) (omega arith))

-- v is the head of the line, 0 if the line is empty
abbrev pub HeadOf : ℕ → List ℕ → Type 0
HeadOf v [] = v ≡ 0
HeadOf v (x ∷ l) = (v ≡ x) × (1 ≤ x)

-- so is the first node of a ring whose ids are in range
pub head_of_lem : (n v : ℕ) (l : List ℕ) → v ≡ head_of l 0 → All (IsId n) l → HeadOf v l
head_of_lem n v [] e h = e
head_of_lem n v (x ∷ l) e h = (e, h.0.0)

-- ---- the word as the queues have it

module _ (b : List ℕ) (L : ℕ → List ℕ) where
  word_mask : (n p : ℕ) → ((q : ℕ) → p < q → q ≤ p + n → HeadOf (head_at b q) (L q)) → word b n (suc p) ≡ mask_of (map (λ q. occupied (L q)) (from (suc p) n))
  unfolding word mask_of
  word_mask zero p f = refl
  word_mask (suc n) p f = go (L (suc p)) refl (f (suc p) (omega arith) (omega arith)) (word_mask n (suc p) (λ q a c. f q (omega arith) (omega arith)))
    where
      go : (l : List ℕ) → L (suc p) ≡ l → HeadOf (head_at b (suc p)) l → word b n (suc (suc p)) ≡ mask_of (map (λ q. occupied (L q)) (from (suc (suc p)) n))
          → cond (eqb (head_at b (suc p)) 0) 0 1 + 2 * word b n (suc (suc p)) ≡ once (occupied (L (suc p))) + 2 * mask_of (map (λ q. occupied (L q)) (from (suc (suc p)) n))
      go [] e v r = rw (e, eq-eqb (head_at b (suc p)) 0 v, r)
      go (x ∷ l) e v r = rw (e, ne_eqb (head_at b (suc p)) 0 (λ z. omega (arith, v.0, v.1)), r)

  pub marks_mask : (n : ℕ) → ((q : ℕ) → 1 ≤ q → q ≤ n → HeadOf (head_at b q) (L q)) → marks_of n 1 0 b ≡ mask_of (map (λ q. occupied (L q)) (from 1 n))
  marks_mask n f = rw (marks_word b n 0 0 (omega arith), one-mul (word b n 1), zero-add (word b n 1)) (word_mask n 0 (λ q a c. f q a (omega arith)))

-- ---- the lowest bit of such a word

pub lowest_zero : (k p : ℕ) → lowest_mark k p 0 ≡ 0
unfolding lowest_mark
lowest_zero zero p = refl
lowest_zero (suc k) p = lowest_zero k (suc p)

module _ (b : List ℕ) (L : ℕ → List ℕ) where
  -- it names the first nonempty queue of n priorities from p on
  lowest_mask : (n k p : ℕ) → n ≤ k → ((q : ℕ) → p < q → q ≤ p + n → HeadOf (head_at b q) (L q))
      → cond (eqb (lowest_mark k (suc p) (mask_of (map (λ q. occupied (L q)) (from (suc p) n)))) 0) 0 (head_at b (lowest_mark k (suc p) (mask_of (map (λ q. occupied (L q)) (from (suc p) n)))))
      ≡ first (nonempty (map L (from (suc p) n)))
  unfolding lowest_mark mask_of
  lowest_mask zero k p h f = rw (lowest_zero k (suc p))
  lowest_mask (suc n) zero p h f = absurd (omega arith)
  lowest_mask (suc n) (suc k) p h f = go (L (suc p)) refl (f (suc p) (omega arith) (omega arith)) (lowest_mask n k (suc p) (omega arith) (λ q a c. f q (omega arith) (omega arith)))
    where
      W : ℕ
      W = mask_of (map (λ q. occupied (L q)) (from (suc (suc p)) n))

      low : ℕ → ℕ
      low w = cond (eqb (w % 2) 1) (suc p) (lowest_mark k (suc (suc p)) (w / 2))

      go : (l : List ℕ) → L (suc p) ≡ l → HeadOf (head_at b (suc p)) l
          → cond (eqb (lowest_mark k (suc (suc p)) W) 0) 0 (head_at b (lowest_mark k (suc (suc p)) W)) ≡ first (nonempty (map L (from (suc (suc p)) n)))
          → cond (eqb (low (once (occupied (L (suc p))) + 2 * W)) 0) 0 (head_at b (low (once (occupied (L (suc p))) + 2 * W))) ≡ first (nonempty (L (suc p) ∷ map L (from (suc (suc p)) n)))
      go [] e v r = rw (e, ne_eqb ((0 + 2 * W) % 2) 1 (omega arith), half) r
        where
          half : (0 + 2 * W) / 2 ≡ W
          half = omega arith
      go (x ∷ l) e v r = rw (e, eq-eqb ((1 + 2 * W) % 2) 1 (omega arith), ne_eqb (suc p) 0 (λ z. omega arith)) v.0

  -- of priorities 1 to n
  pub lowest_first : (n : ℕ) → n ≤ max_priorities → ((q : ℕ) → 1 ≤ q → q ≤ n → HeadOf (head_at b q) (L q))
      → cond (eqb (lowest_mark 32 1 (mask_of (map (λ q. occupied (L q)) (from 1 n)))) 0) 0 (head_at b (lowest_mark 32 1 (mask_of (map (λ q. occupied (L q)) (from 1 n))))) ≡ first (nonempty (map L (from 1 n)))
  lowest_first n h f = lowest_mask n 32 0 (omega arith) (λ q a c. f q a (omega arith))
