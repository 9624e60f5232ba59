-- Which sums fit a word, and the copy of a list entry by entry. Assumes nothing.
use mathlib.Core.Bool.{Bool, true, false, ◌&&◌}
use mathlib.Core.List.{List, [], ◌∷◌}
use mathlib.Core.Path.{◌≡◌, refl, ap}
use Prim.Native.Nat.{ℕ, zero, suc, ◌≤◌, ◌<◌}
use native.Mathlib.Omega.{arith}
use lib.Dec.{ltb}
use lib.ListN.{length, get_or, set}
use borrow.Author.Tests.{ltb-true}
use Rattle.std.specs.List.{list_all}
use Rattle.run_month.specs.Monthly.{fits}

pub fits_listed : (l : List ℕ) → list_all (λ a. ltb a 4294967296) l ≡ fits l
unfolding fits
fits_listed [] = refl
fits_listed (a ∷ l) = ap (λ (t : Bool). ltb a 4294967296 && t) (fits_listed l)

both : (a b : Bool) → a && b ≡ true → (a ≡ true) × (b ≡ true)
both true true e = (refl, refl)
both true false e = (refl, e)
both false b e = (e, cc)

-- each one
pub fit_each : (l : List ℕ) (i : ℕ) → i < length l → fits l ≡ true → get_or l i 0 < 4294967296
unfolding fits
fit_each [] i h e = absurd (omega (arith, h))
fit_each (a ∷ l) zero h e = ltb-true a 4294967296 (both (ltb a 4294967296) (fits l) e).0
fit_each (a ∷ l) (suc i) h e = fit_each l i (omega (arith, h)) (both (ltb a 4294967296) (fits l) e).1

-- ---- a copy: the first i are the output's, the others the source's

unfoldable pub merged : ℕ → List ℕ → List ℕ → List ℕ
merged zero o s = s
merged (suc i) [] s = []
merged (suc i) (x ∷ o) [] = x ∷ o
merged (suc i) (x ∷ o) (y ∷ s) = x ∷ merged i o s

pub merged_start : (o s : List ℕ) → merged 0 o s ≡ s
unfolding merged
merged_start o s = refl

pub merged_next : (i : ℕ) (o s : List ℕ) → i < length o → i < length s → merged (suc i) (set o i (get_or s i 0)) s ≡ merged i o s
unfolding merged
merged_next i [] s h k = absurd (omega (arith, h))
merged_next i (x ∷ o) [] h k = absurd (omega (arith, k))
merged_next zero (x ∷ o) (y ∷ s) h k = refl
merged_next (suc i) (x ∷ o) (y ∷ s) h k = ap (λ (l : List ℕ). x ∷ l) (merged_next i o s (omega (arith, h)) (omega (arith, k)))

pub merged_end : (i : ℕ) (o s : List ℕ) → length o ≤ i → length s ≤ i → length o ≡ length s → merged i o s ≡ o
unfolding merged
merged_end zero [] [] h k e = refl
merged_end zero [] (y ∷ s) h k e = absurd (omega (arith, k))
merged_end zero (x ∷ o) s h k e = absurd (omega (arith, h))
merged_end (suc i) [] s h k e = refl
merged_end (suc i) (x ∷ o) [] h k e = refl
merged_end (suc i) (x ∷ o) (y ∷ s) h k e = ap (λ (l : List ℕ). x ∷ l) (merged_end i o s (omega (arith, h)) (omega (arith, k)) (omega (arith, e)))
