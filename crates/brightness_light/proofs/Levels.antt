-- What an arrival can make of a level: a code that is not 0 and a number that names no slot leave it, a slot's reading sets it to the curve's, and it is
-- never one that the curve does not give. Assumes nothing.
use mathlib.Core.Bool.{Bool, true, false, cond}
use mathlib.Core.List.{List}
use mathlib.Core.Path.{◌≡◌, refl, sym}
use Prim.Native.Nat.{ℕ, zero, suc, ◌≤◌}
use lib.Dec.{eqb}
use lib.IntN.{ℤ, pos, negsuc}
use lib.ListN.{length}
use Rattle.brightness_curve.specs.declared.Curve.{Curve}
use Rattle.std.specs.Prelude.{Ok, Err}
use Rattle.brightness_curve.specs.Curves.{Judged, good, point_at, judged_of, level_on}
use Rattle.brightness_curve.proofs.Levels.{at_first, at_most_255}
use Rattle.brightness_light.specs.declared.Light.{Light}
use Rattle.brightness_light.specs.declared.News.TheVariants.{Set, Waits, Stays, NoSlot}
use Rattle.brightness_light.specs.declared.Shown.{Shown}
use Rattle.brightness_light.specs.Lights.{is_slot, lux_at, shown, lit, awaited, idle, on_good, first_shown, is_ok, is_waits, read_of, taken_of, heard_of, woken_of, Given}

-- of a bad curve, and of a good one
on_either : (P : Shown → Type 0) (j : Judged) (l : Light) (s : Shown) → ((n : _) → P (shown l n)) → (j ≡ good → P s) → P (on_good j l s)
on_either P (Ok u) l s k h = h refl
on_either P (Err n) l s k h = k _

not_0 : (code : ℤ) → (code ≡ pos 0 → ⊥) → is_ok code ≡ false
not_0 (pos zero) n = absurd (n refl)
not_0 (pos (suc k)) n = refl
not_0 (negsuc k) n = refl

module _ (c : Curve) (s : List ℕ) (l : Light) where
  -- when the code isn't 0, the light stays as it was
  pub no_reading_stays : (code : ℤ) (word : ℕ) → (code ≡ pos 0 → ⊥) → (taken_of c s l code word).light ≡ l
  unfolding taken_of
  no_reading_stays code word n = rw (not_0 code n) (on_either (λ r. r.light ≡ l) (judged_of c) l (shown l Stays) (λ n. refl) (λ g. refl))

  -- a number that names no slot leaves it
  pub no_slot_stays : (code : ℤ) (word : ℕ) → is_slot word (length s) ≡ false → (taken_of c s l code word).light ≡ l
  unfolding taken_of read_of
  no_slot_stays code word n = rw n (on_either (λ r. r.light ≡ l) (judged_of c) l (cond (is_ok code) (shown l NoSlot) (shown l Stays)) (λ n. refl) (λ g. go (is_ok code)))
    where
      go : (t : Bool) → (cond t (shown l NoSlot) (shown l Stays)).light ≡ l
      go true = refl
      go false = refl

  -- and says so, if the curve is good
  pub no_slot_said : judged_of c ≡ good → (word : ℕ) → is_slot word (length s) ≡ false → taken_of c s l (pos 0) word ≡ shown l NoSlot
  unfolding taken_of read_of
  no_slot_said g word n = rw (g, n)

  -- a message whose number names a slot: the level becomes the curve's there
  pub slot_level : judged_of c ≡ good → (word : ℕ) → is_slot word (length s) ≡ true → taken_of c s l (pos 0) word ≡ shown (lit l (level_on c (lux_at s word))) Set
  unfolding taken_of read_of
  slot_level g word t = rw (g, t)

  -- the level is as it was, or the curve's at a slot
  pub kept_or_given : (P : ℕ → Type 0) → P l.level → (judged_of c ≡ good → (x : ℕ) → P (level_on c x)) → (code : ℤ) (word : ℕ) → P (taken_of c s l code word).light.level
  unfolding taken_of read_of
  kept_or_given P h k code word =
      on_either (λ r. P r.light.level) (judged_of c) l (cond (is_ok code) (read_of c s l word) (shown l Stays)) (λ n. h) (λ g. go (is_ok code) (is_slot word (length s)) g)
    where
      go : (t u : Bool) → judged_of c ≡ good → P (cond t (cond u (shown (lit l (level_on c (lux_at s word))) Set) (shown l NoSlot)) (shown l Stays)).light.level
      go true true g = k g (lux_at s word)
      go true false g = h
      go false u g = h

-- ---- no level comes about that the curve does not give

-- P of the level as it was and of every level of the curve; so of the level after an arrival, at once, and at release
module _ (c : Curve) (s : List ℕ) (l : Light) (P : ℕ → Type 0) (h : P l.level) (k : judged_of c ≡ good → (x : ℕ) → P (level_on c x)) where
  pub heard_or_given : (me : ℕ) (code : ℤ) (word : ℕ) → P (heard_of c s l me code word).light.level
  unfolding heard_of
  heard_or_given me code word = go (is_waits code) (is_ok code)
    where
      go : (t u : Bool) → P (cond t (shown (awaited l me) Waits) (taken_of c s (cond u (idle l) l) code word)).light.level
      go true u = h
      go false true = kept_or_given c s (idle l) P h k code word
      go false false = kept_or_given c s l P h k code word

  pub woken_or_given : (me : ℕ) (code : ℤ) (word : ℕ) → P (woken_of c s l me code word).light.level
  unfolding woken_of
  woken_or_given me code word = go (eqb l.waits me)
    where
      go : (t : Bool) → P (cond t (taken_of c s (idle l) code word) (shown l Waits)).light.level
      go true = kept_or_given c s (idle l) P h k code word
      go false = h

pub taken_given : (c : Curve) (s : List ℕ) (l : Light) → Given c l.level → (code : ℤ) (word : ℕ) → Given c (taken_of c s l code word).light.level
taken_given c s l h = kept_or_given c s l (Given c) h (λ g x. record { lux = x; level = refl })

-- what a good curve gives is at most 255
pub given_most : (c : Curve) → judged_of c ≡ good → (y : ℕ) → Given c y → y ≤ 255
given_most c g y h = rw h.level (at_most_255 c g h.lux)

-- ---- the level changes only where a reading was taken

module _ (c : Curve) (s : List ℕ) where
  pub taken_unset : (l : Light) (code : ℤ) (word : ℕ) → ((taken_of c s l code word).news ≡ Set → ⊥) → (taken_of c s l code word).light.level ≡ l.level
  unfolding taken_of read_of
  taken_unset l code word =
      on_either (λ r. (r.news ≡ Set → ⊥) → r.light.level ≡ l.level) (judged_of c) l (cond (is_ok code) (read_of c s l word) (shown l Stays)) (λ n h. refl)
      (λ g. go (is_ok code) (is_slot word (length s)))
    where
      go : (t u : Bool) → ((cond t (cond u (shown (lit l (level_on c (lux_at s word))) Set) (shown l NoSlot)) (shown l Stays)).news ≡ Set → ⊥)
          → (cond t (cond u (shown (lit l (level_on c (lux_at s word))) Set) (shown l NoSlot)) (shown l Stays)).light.level ≡ l.level
      go true true h = absurd (h refl)
      go true false h = refl
      go false u h = refl

  -- at once
  pub heard_unset : (l : Light) (me : ℕ) (code : ℤ) (word : ℕ) → ((heard_of c s l me code word).news ≡ Set → ⊥) → (heard_of c s l me code word).light.level ≡ l.level
  unfolding heard_of
  heard_unset l me code word = go (is_waits code) (is_ok code)
    where
      go : (t u : Bool) → ((cond t (shown (awaited l me) Waits) (taken_of c s (cond u (idle l) l) code word)).news ≡ Set → ⊥)
          → (cond t (shown (awaited l me) Waits) (taken_of c s (cond u (idle l) l) code word)).light.level ≡ l.level
      go true u h = refl
      go false true h = taken_unset (idle l) code word h
      go false false h = taken_unset l code word h

  -- at release
  pub woken_unset : (l : Light) (me : ℕ) (code : ℤ) (word : ℕ) → ((woken_of c s l me code word).news ≡ Set → ⊥) → (woken_of c s l me code word).light.level ≡ l.level
  unfolding woken_of
  woken_unset l me code word = go (eqb l.waits me)
    where
      go : (t : Bool) → ((cond t (taken_of c s (idle l) code word) (shown l Waits)).news ≡ Set → ⊥) → (cond t (taken_of c s (idle l) code word) (shown l Waits)).light.level ≡ l.level
      go true h = taken_unset (idle l) code word h
      go false h = refl

-- the first light's level is the curve's at the first point
pub first_given : (c : Curve) → judged_of c ≡ good → Given c (first_shown c).light.level
first_given c g = rw g (record { lux = (point_at c 0).lux; level = sym (at_first c g) })
