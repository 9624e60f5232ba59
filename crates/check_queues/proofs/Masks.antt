-- The node of a block is marked in the mask of its pool just where the block is free. Assumes nothing.
use mathlib.Core.Bool.{Bool, true, ◌&&◌}
use mathlib.Core.Path.{◌≡◌, sym, ◌∙◌}
use Prim.Native.Nat.{ℕ, suc, ◌+◌, ◌-◌, ◌*◌, ◌/◌, ◌%◌}
use native.Mathlib.Omega.{arith}
use lib.Dec.{leb, ltb}
use borrow.Author.Tests.{leb-true, ltb-true, le-leb, lt-ltb}
use Rattle.memory_rings.proofs.Lists.{and_of}
use Rattle.check_links.specs.Survey.{bits, is_set, marked}

-- f q is the mask of pool q
module _ (f : ℕ → ℕ) (j y : ℕ) where
  abbrev set : Bool
  set = is_set (f (suc (y / bits))) (y % bits)

  pub mark_free : marked (f (suc j)) (bits * j + 1) (suc y) ≡ true → (y / bits ≡ j) × (set ≡ true)
  unfolding marked
  mark_free e =
      let p = and_of (leb (bits * j + 1) (suc y)) (ltb (suc y) (bits * j + 1 + bits) && is_set (f (suc j)) (suc y - (bits * j + 1))) e in
      let q = and_of (ltb (suc y) (bits * j + 1 + bits)) (is_set (f (suc j)) (suc y - (bits * j + 1))) p.1 in
      let low = leb-true (bits * j + 1) (suc y) p.0 in
      let high = ltb-true (suc y) (bits * j + 1 + bits) q.0 in
      let d : y / bits ≡ j = omega (arith, low, high) in
      let k : y % bits ≡ suc y - (bits * j + 1) = omega (arith, low, high) in
      (d, (λ z. is_set (f (suc (d z))) (k z)) ∙ q.1)

  pub free_mark : y / bits ≡ j → set ≡ true → marked (f (suc j)) (bits * j + 1) (suc y) ≡ true
  unfolding marked
  free_mark d e =
      let k : y % bits ≡ suc y - (bits * j + 1) = omega (arith, d) in
      rw (le-leb (bits * j + 1) (suc y) (omega (arith, d)), lt-ltb (suc y) (bits * j + 1 + bits) (omega (arith, d))) ((λ z. is_set (f (suc (sym d z))) (sym k z)) ∙ e)
