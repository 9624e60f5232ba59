-- A code by its bits, and a message number by the code's tests. Assumes nothing.
use mathlib.Core.Bool.{true, false}
use mathlib.Core.List.{List}
use mathlib.Core.Path.{◌≡◌, refl, sym, ap, ◌∙◌}
use Prim.Native.Nat.{ℕ, zero, suc, ◌-◌, ◌≤◌, ◌<◌}
use native.Mathlib.Omega.{arith}
use lib.IntN.{ℤ, pos, negsuc}
use lib.ListN.{length, get_or, get_or-eq_default}
use mir.Syntax.{w32}
use mir.Val.{SFits, to_z, of_z}
use mir.Facts.{to_z-of_z}
use Rattle.brightness_light.specs.Lights.{lux_at, is_ok, is_waits}

module _ {z : ℤ} (f : SFits w32 z) where
  by_bits : {n : ℕ} → of_z w32 z ≡ n → z ≡ to_z w32 n
  by_bits e = sym (to_z-of_z f) ∙ ap (to_z w32) e

  pub is_ok_lem : of_z w32 z ≡ 0 → is_ok z ≡ true
  is_ok_lem e = ap is_ok (by_bits e)

  pub is_waits_lem : of_z w32 z ≡ 1 → is_waits z ≡ true
  is_waits_lem e = ap is_waits (by_bits e)

pub not_ok : (z : ℤ) → (of_z w32 z ≡ 0 → ⊥) → is_ok z ≡ false
not_ok (pos zero) n = absurd (n refl)
not_ok (pos (suc k)) n = refl
not_ok (negsuc k) n = refl

pub not_waits : (z : ℤ) → (of_z w32 z ≡ 1 → ⊥) → is_waits z ≡ false
not_waits (pos zero) n = refl
not_waits (pos (suc zero)) n = absurd (n refl)
not_waits (pos (suc (suc k))) n = refl
not_waits (negsuc k) n = refl

-- ---- the lux of a slot

pub before_first : (s : List ℕ) (k : ℕ) → k < 1 → 0 ≡ lux_at s k
before_first s zero h = refl
before_first s (suc k) h = absurd (omega (arith, h))

pub behind_last : (s : List ℕ) (k : ℕ) → length s < k → 0 ≡ lux_at s k
behind_last s zero h = refl
behind_last s (suc k) h = sym (get_or-eq_default s 0 (omega (arith, h)))

pub in_slots : (s : List ℕ) (k : ℕ) → 1 ≤ k → get_or s (k - 1) 0 ≡ lux_at s k
in_slots s zero h = absurd (omega (arith, h))
in_slots s (suc k) h = let e : suc k - 1 ≡ k = omega arith in rw e
