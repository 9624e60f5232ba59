-- Two numbers are one exactly where the test says so. Assumes nothing.
use mathlib.Core.Bool.{true, false}
use mathlib.Core.Path.{◌≡◌, refl, ap}
use Prim.Native.Nat.{ℕ}
use native.Mathlib.Omega.{arith}
use lib.IntN.{ℤ, pos, negsuc}
use borrow.Author.Tests.{eqb-true, eq-eqb, ne_eqb}
use Rattle.rules.specs.Codes.{same}

same_itself : (x : ℤ) → same x x ≡ true
same_itself (pos n) = eq-eqb n n refl
same_itself (negsuc n) = eq-eqb n n refl

pub same_true : (x y : ℤ) → x ≡ y → same x y ≡ true
same_true x y e = rw e (same_itself y)

pub same_is : (x y : ℤ) → same x y ≡ true → x ≡ y
same_is (pos m) (pos n) e = ap pos (eqb-true m n e)
same_is (pos m) (negsuc n) e = absurd (let q : ◌≡◌ {A = ℕ} 0 1 = cc in omega arith)
same_is (negsuc m) (pos n) e = absurd (let q : ◌≡◌ {A = ℕ} 0 1 = cc in omega arith)
same_is (negsuc m) (negsuc n) e = ap negsuc (eqb-true m n e)

pub same_false : (x y : ℤ) → (x ≡ y → ⊥) → same x y ≡ false
same_false (pos m) (pos n) e = ne_eqb m n (λ z. e (ap pos z))
same_false (pos m) (negsuc n) e = refl
same_false (negsuc m) (pos n) e = refl
same_false (negsuc m) (negsuc n) e = ne_eqb m n (λ z. e (ap negsuc z))
