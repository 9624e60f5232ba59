-- What is taken, by the tests that the code makes. Assumes nothing.
use mathlib.Core.Bool.{true, false}
use mathlib.Core.List.{List}
use mathlib.Core.Path.{◌≡◌, refl, sym, ◌∙◌}
use Prim.Native.Nat.{ℕ}
use lib.IntN.{ℤ}
use lib.ListN.{length}
use borrow.Author.Tests.{eq-eqb, ne_eqb}
use Rattle.brightness_curve.specs.declared.Curve.{Curve}
use Rattle.std.specs.Prelude.{Ok, Err}
use Rattle.brightness_curve.specs.declared.BadPoint.{BadPoint}
use Rattle.brightness_curve.specs.Curves.{Judged, good, judged_of, if_good, level_on}
use Rattle.brightness_light.specs.declared.Light.{Light}
use Rattle.brightness_light.specs.declared.News.TheVariants.{Set, Waits, Stays, NoSlot, BadCurve}
use Rattle.brightness_light.specs.declared.Shown.{Shown}
use Rattle.brightness_light.specs.Lights.{is_slot, lux_at, shown, lit, awaited, idle, on_good, is_ok, is_waits, read_of, taken_of, heard_of, woken_of}

-- ---- a curve that gave a level is good, and that is the level

module _ (j : Judged) (v : ℕ) where
  module _ {y : ℕ} (e : Ok y ≡ if_good j v) where
    level_good : j ≡ good
    level_good = go j e
      where
        go : (j : Judged) → Ok y ≡ if_good j v → j ≡ good
        go (Ok u) e = refl
        go (Err k) e = cc

    level_is : v ≡ y
    level_is = go j e
      where
        go : (j : Judged) → Ok y ≡ if_good j v → v ≡ y
        go (Ok u) e = cc
        go (Err k) e = cc

  pub on_bad : {b : BadPoint} (l : Light) (s : Shown) → Err b ≡ if_good j v → shown l (BadCurve b.0) ≡ on_good j l s
  on_bad {b} l s e = go j e
    where
      go : (j : Judged) → Err b ≡ if_good j v → shown l (BadCurve b.0) ≡ on_good j l s
      go (Ok u) e = cc
      go (Err n) e = cc

-- ---- an arrival

pub takes_bad : (c : Curve) (s : List ℕ) (l : Light) (code : ℤ) (word : ℕ) {b : BadPoint} → Err b ≡ if_good (judged_of c) (level_on c (lux_at s word)) → shown l (BadCurve b.0) ≡ taken_of c s l code word
unfolding taken_of
takes_bad c s l code word e = on_bad (judged_of c) _ l _ e

module _ (c : Curve) (s : List ℕ) (l : Light) (code : ℤ) (word : ℕ) {y : ℕ} (e : Ok y ≡ if_good (judged_of c) (level_on c (lux_at s word))) where
  is_good : judged_of c ≡ good
  is_good = level_good (judged_of c) _ e

  pub takes_none : is_ok code ≡ false → shown l Stays ≡ taken_of c s l code word
  unfolding taken_of
  takes_none n = rw (is_good, n)

  module _ (o : is_ok code ≡ true) where
    read : taken_of c s l code word ≡ read_of c s l word
    unfolding taken_of
    read = rw (is_good, o)

    pub takes_no_slot : is_slot word (length s) ≡ false → shown l NoSlot ≡ taken_of c s l code word
    unfolding read_of
    takes_no_slot n = sym (read ∙ simp n)

    pub takes_slot : is_slot word (length s) ≡ true → shown (lit l y) Set ≡ taken_of c s l code word
    unfolding read_of
    takes_slot t = sym (read ∙ simp (t, level_is (judged_of c) _ e))

-- ---- at once

module _ (c : Curve) (s : List ℕ) (l : Light) (me : ℕ) (code : ℤ) (word : ℕ) where
  pub hears_wait : is_waits code ≡ true → shown (awaited l me) Waits ≡ heard_of c s l me code word
  unfolding heard_of
  hears_wait e = rw e

  module _ (n : is_waits code ≡ false) where
    pub hears_reading : is_ok code ≡ true → taken_of c s (idle l) code word ≡ heard_of c s l me code word
    unfolding heard_of
    hears_reading e = rw (n, e)

    pub hears_refusal : is_ok code ≡ false → taken_of c s l code word ≡ heard_of c s l me code word
    unfolding heard_of
    hears_refusal e = rw (n, e)

  -- ---- at release

  pub wakes_other : (l.waits ≡ me → ⊥) → shown l Waits ≡ woken_of c s l me code word
  unfolding woken_of
  wakes_other n = rw (ne_eqb _ _ n)

  pub wakes_own : l.waits ≡ me → taken_of c s (idle l) code word ≡ woken_of c s l me code word
  unfolding woken_of
  wakes_own e = rw (eq-eqb _ _ e)
