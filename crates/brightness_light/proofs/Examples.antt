-- Worked examples, each from a sentence of the request. Assumes nothing.
use mathlib.Core.List.{List, [], ◌∷◌, map}
use mathlib.Core.Path.{◌≡◌, refl}
use Prim.Native.Nat.{ℕ}
use lib.IntN.{ℤ, pos, neg_ℤ}
use lib.ListN.{replicate}
use Rattle.brightness_curve.specs.declared.Curve.{Curve}
use Rattle.brightness_curve.specs.Curves.{points_from, judged_from, judged_points, judged_of, between, level_from, level_at}
use Rattle.brightness_light.specs.declared.Light.{Light}
use Rattle.brightness_light.specs.declared.News.TheVariants.{Set, Waits, Stays, NoSlot, BadCurve}
use Rattle.brightness_light.specs.declared.Shown.{Shown}
use Rattle.brightness_light.specs.Lights.{shown, first_shown, read_of, taken_of, heard_of, woken_of}

-- 10 below 100 lux, 20 from 200 lux on
dim : Curve
dim = record { count = 2; lux = 100 ∷ 200 ∷ []; level = 10 ∷ 20 ∷ [] }

-- its lux does not rise
flat : Curve
flat = record { count = 2; lux = 100 ∷ 100 ∷ []; level = 10 ∷ 20 ∷ [] }

light : ℕ → ℕ → Light
light y t = record { level = y; waits = t }

-- three slots
slots : List ℕ
slots = 0 ∷ 150 ∷ 60000 ∷ []

-- the level of a dark room, and what is made of it
dark : ℤ → ℕ → Shown
dark code word = taken_of dim slots (light 12 0) code word

-- The level starts at the first point's; a bad curve is refused with the first bad point.
starts : (first_shown dim ≡ shown (light 10 0) Set) × (first_shown flat ≡ shown (light 0 0) (BadCurve 2))
unfolding dim flat light judged_of judged_points judged_from points_from
starts = (refl, refl)

-- A message's number names a slot with its lux, and the level becomes the curve's there; zero lux is an ordinary reading.
readings : map (dark (pos 0)) (1 ∷ 2 ∷ 3 ∷ []) ≡ shown (light 10 0) Set ∷ shown (light 15 0) Set ∷ shown (light 20 0) Set ∷ []
unfolding dark dim light slots taken_of read_of judged_of judged_points judged_from points_from level_at level_from between
readings = refl

-- When the code isn't 0, the level stays as it was: broken off, timed out, it waits, refused.
no_readings : map (λ code. dark code 3) (neg_ℤ (pos 3414) ∷ neg_ℤ (pos 3413) ∷ pos 1 ∷ neg_ℤ (pos 2100) ∷ [])
    ≡ shown (light 12 0) Stays ∷ shown (light 12 0) Stays ∷ shown (light 12 0) Stays ∷ shown (light 12 0) Stays ∷ []
unfolding dark dim light slots taken_of read_of judged_of judged_points judged_from points_from
no_readings = refl

-- A message number 0 or beyond the slots leaves the level and says so.
no_slots : map (dark (pos 0)) (0 ∷ 4 ∷ 4294967295 ∷ []) ≡ shown (light 12 0) NoSlot ∷ shown (light 12 0) NoSlot ∷ shown (light 12 0) NoSlot ∷ []
unfolding dark dim light slots taken_of read_of judged_of judged_points judged_from points_from
no_slots = refl

-- There are 0 to 256 slots; later ones are ignored.
many_slots : map (λ word. taken_of dim (replicate 300 150) (light 12 0) (pos 0) word) (256 ∷ 257 ∷ 300 ∷ []) ≡ shown (light 15 0) Set ∷ shown (light 12 0) NoSlot ∷ shown (light 12 0) NoSlot ∷ []
unfolding dim light taken_of read_of judged_of judged_points judged_from points_from level_at level_from between
many_slots = refl

no_slot_at_all : taken_of dim [] (light 12 0) (pos 0) 1 ≡ shown (light 12 0) NoSlot
unfolding dim light taken_of read_of judged_of judged_points judged_from points_from
no_slot_at_all = refl

-- At once: the task waits, a reading has come, the call was refused.
at_once : map (λ code. heard_of dim slots (light 12 5) 7 code 3) (pos 1 ∷ pos 0 ∷ neg_ℤ (pos 2629) ∷ []) ≡ shown (light 12 7) Waits ∷ shown (light 20 0) Set ∷ shown (light 12 5) Stays ∷ []
unfolding dim light slots heard_of taken_of read_of judged_of judged_points judged_from points_from level_at level_from between
at_once = refl

-- In the cell at release: a reading, a wait broken off; and another task runs.
at_release : (map (λ code. woken_of dim slots (light 12 7) 7 code 3) (pos 0 ∷ neg_ℤ (pos 3414) ∷ []) ≡ shown (light 20 0) Set ∷ shown (light 12 0) Stays ∷ [])
    × (woken_of dim slots (light 12 7) 6 (pos 0) 3 ≡ shown (light 12 7) Waits)
unfolding dim light slots woken_of taken_of read_of judged_of judged_points judged_from points_from level_at level_from between
at_release = (refl, refl)
