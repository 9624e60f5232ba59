-- Sums number by number, from a place on. Assumes nothing.
use mathlib.Core.List.{List, [], ◌∷◌}
use mathlib.Core.Path.{◌≡◌, refl, ap}
use Prim.Native.Nat.{ℕ, zero, suc, ◌≤◌, ◌<◌}
use native.Mathlib.Omega.{arith}
use lib.ListN.{length, get_or, set}
use Rattle.run_month.specs.Capped.{capped, capped_all}

-- those before i are done
unfoldable pub onward : ℕ → List ℕ → List ℕ → List ℕ
onward zero s c = capped_all s c
onward (suc i) [] c = []
onward (suc i) (a ∷ s) [] = a ∷ s
onward (suc i) (a ∷ s) (x ∷ c) = a ∷ onward i s c

pub onward_next : (i : ℕ) (s c : List ℕ) → i < length s → i < length c → onward (suc i) (set s i (capped (get_or s i 0) (get_or c i 0))) c ≡ onward i s c
unfolding onward capped_all
onward_next i [] c h k = absurd (omega (arith, h))
onward_next i (a ∷ s) [] h k = absurd (omega (arith, k))
onward_next zero (a ∷ s) (x ∷ c) h k = refl
onward_next (suc i) (a ∷ s) (x ∷ c) h k = ap (λ (l : List ℕ). a ∷ l) (onward_next i s c (omega (arith, h)) (omega (arith, k)))

pub onward_end : (i : ℕ) (s c : List ℕ) → length s ≤ i → onward i s c ≡ s
unfolding onward capped_all
onward_end zero [] c h = refl
onward_end zero (a ∷ s) c h = absurd (omega (arith, h))
onward_end (suc i) [] c h = refl
onward_end (suc i) (a ∷ s) [] h = refl
onward_end (suc i) (a ∷ s) (x ∷ c) h = ap (λ (l : List ℕ). a ∷ l) (onward_end i s c (omega (arith, h)))

pub onward_start : (s c : List ℕ) → onward 0 s c ≡ capped_all s c
unfolding onward
onward_start s c = refl
