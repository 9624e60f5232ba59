-- Two answers differ exactly if their numbers do, and the code's tests tell it. Assumes nothing.
use mathlib.Core.Bool.{Bool, true, false, not, ◌&&◌, ◌||◌, false≢true}
use mathlib.Core.List.{List, [], ◌∷◌}
use mathlib.Core.Logic.{◌≢◌}
use mathlib.Core.Path.{◌≡◌, refl, sym, ap, ◌∙◌}
use Prim.Native.Nat.{ℕ}
use native.Mathlib.Omega.{arith}
use lib.Dec.{eqb}
use lib.IntN.{ℤ, pos}
use lib.ListN.{length}
use Rattle.std.specs.Ordering.{int_eq}
use Rattle.std.proofs.lemmas.Bool.Decides.{same_from_decides, Decides-int_eq}
use Rattle.rules.specs.Codes.{same}
use Rattle.rules.proofs.Numbers.{same_true, same_is}
use Rattle.run_compare_text.specs.Changes.{differ}

-- ---- the test of the code

-- by `==` of the answers, number by number
pub differ_is : (z y : ℤ) (a b c d k l m n : ℕ)
    → not (int_eq z y && (eqb a b && (eqb c d && (eqb k l && eqb m n))))
    ≡ differ (z ∷ pos a ∷ pos c ∷ pos k ∷ pos m ∷ []) (y ∷ pos b ∷ pos d ∷ pos l ∷ pos n ∷ [])
unfolding differ
differ_is z y a b c d k l m n =
    let e : int_eq z y ≡ same z y = same_from_decides _ _ (Decides-int_eq z y) (same_is z y, same_true z y) in
    rw e (go (same z y) (eqb a b) (eqb c d) (eqb k l) (eqb m n))
  where
    go : (p q r s t : Bool) → not (p && (q && (r && (s && t)))) ≡ (not p || (not q || (not r || (not s || (not t || false)))))
    go false q r s t = refl
    go true false r s t = refl
    go true true false s t = refl
    go true true true false t = refl
    go true true true true false = refl
    go true true true true true = refl

-- ---- as a statement

pub never_itself : (a : List ℤ) → differ a a ≡ false
unfolding differ
never_itself [] = refl
never_itself (x ∷ a) = rw (same_true x x refl) (never_itself a)

pub differ_not : (a b : List ℤ) → differ a b ≡ true → a ≢ b
differ_not a b e q = false≢true (sym (never_itself a) ∙ ap (differ a) q ∙ e)

pub alike : (a b : List ℤ) → length a ≡ length b → differ a b ≡ false → a ≡ b
unfolding differ
alike [] [] h e = refl
alike [] (y ∷ b) h e = absurd (omega (arith, h))
alike (x ∷ a) [] h e = absurd (omega (arith, h))
alike (x ∷ a) (y ∷ b) h e = go (same x y) refl e (alike a b (omega (arith, h)))
  where
    go : (t : Bool) → same x y ≡ t → (not t || differ a b) ≡ false → (differ a b ≡ false → a ≡ b) → x ∷ a ≡ y ∷ b
    go true q r f = λ z. same_is x y q z ∷ f r z
    go false q r f = absurd (false≢true (sym r))
