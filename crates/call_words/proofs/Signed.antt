-- A signed result is read back from its bits, `to_z w (of_z w z)`, which is z, since z fits. Assumes nothing.
use mathlib.Core.Path.{◌≡◌, ◌∙◌}
use Prim.Native.Nat.{◌<◌, ◌^◌}
use lib.IntN.{ℤ}
use lib.Signed.{mag}
use mir.Syntax.{w32}
use mir.Val.{to_z, of_z}
use mir.Facts.{to_z-of_z}

pub signed : (z : ℤ) → mag z < 2 ^ 31 → to_z w32 (of_z w32 z) ≡ z
signed z h = to_z-of_z {w = w32} (record { sfits = h })

pub saying : (z : ℤ) {w : ℤ} → mag z < 2 ^ 31 → z ≡ w → to_z w32 (of_z w32 z) ≡ w
saying z h e = signed z h ∙ e
