-- The words of the events as signed words with the same bits; any five make an event of 32-bit words. Assumes nothing.
use mathlib.Core.Bool.{Bool, true, false, cond}
use mathlib.Core.Path.{◌≡◌, refl, ◌∙◌, ap}
use Prim.Native.Nat.{ℕ, zero, suc, ◌+◌, ◌-◌, ◌^◌, ◌≤◌, ◌<◌}
use native.Mathlib.Omega.{arith}
use lib.Dec.{ltb}
use lib.IntN.{ℤ, pos, negsuc, ◌-ℤ◌}
use borrow.Author.Tests.{lt-ltb, le-ltb, ltb-true, ltb-false}
use mir.Syntax.{w32}
use mir.Val.{SFits, to_z, of_z}
use mir.Facts.{to_z-of_z}
use Rattle.rules.specs.Events.{event_of, Word, Words}
use Rattle.run_reading.specs.Recorded.{signed_word}

small : (k : ℕ) → k < 2 ^ 31 → to_z w32 k ≡ pos k
small k h = to_z-of_z {w = w32} {z = pos k} (record { sfits = h })

pub low_word : (w : ℕ) → w < 2147483648 → to_z w32 w ≡ signed_word w
low_word w h = small w h ∙ rw (lt-ltb w (2 ^ 31) h)

high_is : (w : ℕ) → 2147483648 ≤ w → w < 4294967296 → negsuc 0 -ℤ to_z w32 (4294967295 - w) ≡ signed_word w
high_is w h f = rw (small (4294967295 - w) (omega (arith, h)), le-ltb w (2 ^ 31) h) (less (4294967295 - w))
  where
    less : (k : ℕ) → negsuc 0 -ℤ pos k ≡ negsuc k
    less zero = refl
    less (suc k) = let e : suc (0 + k) ≡ suc k = omega arith in ap negsuc e

pub high_fits : (w : ℕ) → 2147483648 ≤ w → w < 4294967296 → SFits w32 (negsuc 0 -ℤ to_z w32 (4294967295 - w))
high_fits w h f = rw (high_is w h f, le-ltb w (2 ^ 31) h) (record { sfits = omega (arith, h, f) })

pub high_word : (w : ℕ) → 2147483648 ≤ w → w < 4294967296 → to_z w32 (of_z w32 (negsuc 0 -ℤ to_z w32 (4294967295 - w))) ≡ signed_word w
high_word w h f = to_z-of_z (high_fits w h f) ∙ high_is w h f

pub word_fits : (w : ℕ) → Word (signed_word w)
word_fits w = go (ltb w (2 ^ 31)) refl
  where
    go : (t : Bool) → ltb w (2 ^ 31) ≡ t → Word (cond t (pos w) (negsuc (2 ^ 32 - 1 - w)))
    go true e = ltb-true w (2 ^ 31) e
    go false e = omega (arith, ltb-false w (2 ^ 31) e)

pub event_fits : (k n a b c : ℤ) → Word k → Word n → Word a → Word b → Word c → Words (event_of k n a b c)
event_fits (pos zero) n a b c x y z v w = (x, y, z, v, w)
event_fits (pos (suc zero)) n a b c x y z v w = (x, y, z, v, w)
event_fits (pos (suc (suc zero))) n a b c x y z v w = tt
event_fits (pos (suc (suc (suc zero)))) n a b c x y z v w = tt
event_fits (pos (suc (suc (suc (suc zero))))) n a b c x y z v w = tt
event_fits (pos (suc (suc (suc (suc (suc k)))))) n a b c x y z v w = (x, y, z, v, w)
event_fits (negsuc k) n a b c x y z v w = (x, y, z, v, w)
