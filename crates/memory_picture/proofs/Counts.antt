-- Standing in a line, and how often. Assumes nothing.
use mathlib.Core.Bool.{Bool, true, false}
use mathlib.Core.List.{List, [], ◌∷◌}
use mathlib.Core.Logic.{◌≢◌, inl, inr}
use mathlib.Core.Path.{◌≡◌, refl, ap}
use Prim.Native.Nat.{ℕ, ◌+◌, ◌≤◌}
use native.Mathlib.Omega.{arith}
use lib.Dec.{eqb}
use borrow.Author.Tests.{eq-eqb, eqb-true}
use Rattle.rules.specs.Ids.{once, times}
use Rattle.memory_rings.specs.Rings.{Out, Stands, Distinct}

pub times_out : (i : ℕ) (l : List ℕ) → times i l ≡ 0 → Out i l
unfolding times
times_out i [] e = tt
times_out i (x ∷ l) e = ((λ q. let z : once (eqb x i) ≡ 1 = ap once (eq-eqb x i q) in omega arith), times_out i l (omega arith))

pub stands_times : (i : ℕ) (l : List ℕ) → Stands i l → times i l ≢ 0
unfolding times
stands_times i [] s = absurd s
stands_times i (x ∷ l) (inl e) = λ z. omega (arith, ap once (eq-eqb x i e))
stands_times i (x ∷ l) (inr s) = λ z. stands_times i l s (omega arith)

pub times_stands : (i : ℕ) (l : List ℕ) → times i l ≡ 1 → Stands i l
unfolding times
times_stands i [] e = absurd (omega arith)
times_stands i (x ∷ l) e = go (eqb x i) refl e (times_stands i l)
  where
    go : (t : Bool) → eqb x i ≡ t → once t + times i l ≡ 1 → (times i l ≡ 1 → Stands i l) → Stands i (x ∷ l)
    go true q r h = inl (eqb-true x i q)
    go false q r h = inr (h (omega arith))

pub few_distinct : (l : List ℕ) → ((i : ℕ) → times i l ≤ 1) → Distinct l
unfolding times
few_distinct [] h = tt
few_distinct (x ∷ l) h = (times_out x l (omega (arith, h x, ap once (eq-eqb x x refl))), few_distinct l (λ i. omega (arith, h i)))
