-- The mask of a pool: how many bits are set, and one of them, are what the view's marks say. Assumes nothing.
use mathlib.Core.Bool.{Bool, true, false, cond, ◌||◌}
use mathlib.Core.List.{List, [], ◌∷◌}
use mathlib.Core.Path.{◌≡◌, refl, sym, ap, ◌∙◌}
use Prim.Native.Nat.{ℕ, zero, suc, pred, ◌+◌, ◌/◌, ◌%◌, ◌^◌, ◌≤◌, ◌<◌}
use native.Mathlib.Nat.{pow-suc, pow-succ', div-div-eq-div-mul}
use lib.Count.{ones, ones_step}
use native.Mathlib.Omega.{arith}
use lib.Dec.{eqb, leb}
use lib.IntN.{pos}
use lib.ListN.{length}
use borrow.Author.Tests.{eqb-true, eqb-false, lt-leb}
use Rattle.rules.specs.Ids.{of, In}
use Rattle.rules.specs.Events.{outside}
use Rattle.rules.specs.State.{pool}
use Rattle.rules.specs.Objects.{blocks_of, free}
use Rattle.rules.proofs.Ids.{of_ids}
use Rattle.rules.proofs.Waits.{in_by}
use Rattle.memory_columns.specs.Layout as Layout
use Rattle.memory_columns.specs.Layout.{entry}
use Rattle.memory_picture.specs.Picture.{bits_of, pool_shown, store_shown, body_shown, view_shown, Accepted}
use Rattle.memory_picture.proofs.PoolBits.{length_bits, bits_at}
use Rattle.call_words.specs.Naming.{NamesObject}
use Rattle.call_objects.proofs.Waiters.{counted}
use Rattle.call_pools.specs.Blocks.{bit_count, not_out}

-- ---- bits

half : (k m : ℕ) → m / 2 ^ suc k ≡ 0 → m / 2 / 2 ^ k ≡ 0
half k m h = div-div-eq-div-mul m 2 (2 ^ k) ∙ ap (λ (x : ℕ). m / x) (sym (pow-succ' 2 k)) ∙ h

none_counted : (k m : ℕ) → m ≡ 0 → bit_count k m ≡ 0
unfolding bit_count
none_counted zero m e = refl
none_counted (suc k) m e = let r = none_counted k (m / 2) (omega arith) in omega arith

bits_count : (n k m : ℕ) → n ≤ k → m / 2 ^ n ≡ 0 → bit_count k m ≡ free (bits_of n m)
unfolding bits_of bit_count
bits_count zero k m l h = none_counted k m (omega arith)
bits_count (suc n) zero m l h = absurd (omega arith)
bits_count (suc n) (suc k) m l h = go (eqb (m % 2) 1) refl (bits_count n k (m / 2) (omega arith) (half n m h))
  where
    go : (t : Bool) → eqb (m % 2) 1 ≡ t → bit_count k (m / 2) ≡ free (bits_of n (m / 2)) → m % 2 + bit_count k (m / 2) ≡ free (t ∷ bits_of n (m / 2))
    go true e r = let o = eqb-true (m % 2) 1 e in omega arith
    go false e r = let o = eqb-false (m % 2) 1 e in omega arith

-- ---- a pool that has blocks shows its bits

pub record Bits (l : List Bool) (n m : ℕ) : Type 0 where
  pub are : l ≡ bits_of n m
  pub whole : m / 2 ^ n ≡ 0
  pub few : n ≤ 32

pool_bits : (n m : ℕ) → In (length (pool_shown n m)) 32 → Bits (pool_shown n m) n m
unfolding pool_shown
pool_bits n m = go (eqb (m / 2 ^ n) 0) refl
  where
    go : (t : Bool) → eqb (m / 2 ^ n) 0 ≡ t → In (length (cond t (bits_of n m) [])) 32 → Bits (cond t (bits_of n m) []) n m
    go true e h = record { are = refl; whole = eqb-true _ 0 e; few = omega (arith, h.1, length_bits n m) }
    go false e h = absurd (omega (arith, h.0))

module _ (i : ℕ) (b m : List ℕ) (A : Accepted b m) (h : NamesObject pool i (view_shown b m)) where
  blocks_are : blocks_of (view_shown b m) (pos i) ≡ pool_shown (entry Layout.size b i) (entry Layout.free b i)
  unfolding view_shown body_shown store_shown
  blocks_are = of_ids (λ p. pool_shown (entry Layout.size b p) (entry Layout.free b p)) _ i [] (counted pool i b m A h)

  some_blocks : In (length (blocks_of (view_shown b m) (pos i))) 32
  unfolding view_shown body_shown store_shown
  some_blocks = A.sound.body.store.pools i h

  bits : Bits (blocks_of (view_shown b m) (pos i)) (entry Layout.size b i) (entry Layout.free b i)
  bits = rw blocks_are (pool_bits _ _ (rw blocks_are at some_blocks))

  pub free_read : bit_count 32 (entry Layout.free b i) ≡ free (blocks_of (view_shown b m) (pos i))
  free_read = bits_count _ 32 _ bits.few bits.whole ∙ ap free (sym bits.are)

  -- the rule's test of a block that is given back
  pub out_read : (k : ℕ) → (outside (pos k) (length (blocks_of (view_shown b m) (pos i))) || of (blocks_of (view_shown b m) (pos i)) k true) ≡ not_out b i k
  unfolding not_out
  out_read k = rw (bits.are, length_bits (entry Layout.size b i) (entry Layout.free b i)) (go (outside (pos k) (entry Layout.size b i)) refl)
    where
      go : (t : Bool) → outside (pos k) (entry Layout.size b i) ≡ t
          → (t || of (bits_of (entry Layout.size b i) (entry Layout.free b i)) k true) ≡ (t || (leb 33 k || eqb ((entry Layout.free b i / 2 ^ pred k) % 2) 1))
      go true e = refl
      go false e = here k (in_by (pos k) (entry Layout.size b i) e)
        where
          here : (j : ℕ) → In j (entry Layout.size b i) → of (bits_of (entry Layout.size b i) (entry Layout.free b i)) j true ≡ (leb 33 j || eqb ((entry Layout.free b i / 2 ^ pred j) % 2) 1)
          here zero r = absurd (omega (arith, r.0))
          here (suc j) r = rw (lt-leb 33 (suc j) (omega (arith, r.1, bits.few))) (bits_at _ j _ true (omega (arith, r.1)))

-- ---- the bits that are set, by std's word

pub ones_bits : (k m : ℕ) → m < 2 ^ k → ones m ≡ bit_count k m
unfolding bit_count ones
ones_bits zero m h = let z : m ≡ 0 = omega arith in rw z
ones_bits (suc k) m h = ones_step m ∙ ap (λ (r : ℕ). m % 2 + r) (ones_bits k (m / 2) (omega (arith, pow-suc 2 k)))
