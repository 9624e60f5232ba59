-- Worked examples, each from a sentence of the request. Assumes nothing.
use mathlib.Core.List.{List, [], ◌∷◌, map}
use mathlib.Core.Path.{◌≡◌, refl}
use Prim.Native.Nat.{ℕ}
use Rattle.brightness_curve.specs.declared.Curve.{Curve}
use Rattle.std.specs.Prelude.{Ok}
use Rattle.brightness_curve.specs.Curves.{good, bad, points_from, judged_from, judged_points, judged_of, between, level_from, level_at, level_on, level_of, first_of}

curve : ℕ → List ℕ → List ℕ → Curve
curve n x y = record { count = n; lux = x; level = y }

-- from 10 at 100 lux to 20 at 200, then steeply to 255 at 210
rising : Curve
rising = curve 3 (100 ∷ 200 ∷ 210 ∷ []) (10 ∷ 20 ∷ 255 ∷ [])

-- Between two points the level is the lower one plus the lux step times the level rise divided by the lux rise, rounded down.
rounded_down : map (level_on rising) (100 ∷ 109 ∷ 110 ∷ 155 ∷ 199 ∷ 200 ∷ 201 ∷ 209 ∷ 210 ∷ []) ≡ 10 ∷ 10 ∷ 11 ∷ 15 ∷ 19 ∷ 20 ∷ 43 ∷ 231 ∷ 255 ∷ []
unfolding curve rising points_from level_at level_from between
rounded_down = refl

-- Outside the ends it is the end level; zero lux is an ordinary reading.
outside_the_ends : map (level_on rising) (0 ∷ 99 ∷ 211 ∷ 65535 ∷ 4294967295 ∷ []) ≡ 10 ∷ 10 ∷ 255 ∷ 255 ∷ 255 ∷ []
unfolding curve rising points_from level_at level_from between
outside_the_ends = refl

-- one point is a curve
one_point : map (level_of (curve 1 (500 ∷ []) (77 ∷ []))) (0 ∷ 500 ∷ 65535 ∷ []) ≡ Ok 77 ∷ Ok 77 ∷ Ok 77 ∷ []
unfolding curve judged_of judged_points judged_from points_from level_at level_from between
one_point = refl

-- The level starts at the first point's.
starts_at_first : first_of rising ≡ Ok 10
unfolding curve rising judged_of judged_points judged_from points_from
starts_at_first = refl

-- the widest curve: 0 to 65535 lux, 0 to 255
widest : map (level_on (curve 2 (0 ∷ 65535 ∷ []) (0 ∷ 255 ∷ []))) (0 ∷ 256 ∷ 257 ∷ 65534 ∷ 65535 ∷ []) ≡ 0 ∷ 0 ∷ 1 ∷ 254 ∷ 255 ∷ []
unfolding curve points_from level_at level_from between
widest = refl

-- 0 for a bad count, tried first, even if a point is bad too
bad_counts : map judged_of (curve 0 (65536 ∷ []) (0 ∷ []) ∷ curve 17 (65536 ∷ []) (0 ∷ []) ∷ []) ≡ bad 0 ∷ bad 0 ∷ []
unfolding curve judged_of judged_points judged_from points_from
bad_counts = refl

-- a lux and a level out of range, a lux that does not rise, a level that falls
bad_points : map judged_of
    (curve 1 (65536 ∷ []) (0 ∷ [])
    ∷ curve 1 (0 ∷ []) (256 ∷ [])
    ∷ curve 2 (5 ∷ 5 ∷ []) (0 ∷ 0 ∷ [])
    ∷ curve 3 (5 ∷ 6 ∷ 7 ∷ []) (9 ∷ 9 ∷ 8 ∷ [])
    ∷ [])
    ≡ bad 1 ∷ bad 1 ∷ bad 2 ∷ bad 3 ∷ []
unfolding curve judged_of judged_points judged_from points_from
bad_points = refl

-- The first of two bad ones is named, and points behind the count are no part of the curve.
first_bad_point : map judged_of (curve 3 (5 ∷ 4 ∷ 3 ∷ []) (0 ∷ 0 ∷ 300 ∷ []) ∷ curve 1 (5 ∷ 4 ∷ 3 ∷ []) (0 ∷ 0 ∷ 300 ∷ []) ∷ []) ≡ bad 2 ∷ good ∷ []
unfolding curve judged_of judged_points judged_from points_from
first_bad_point = refl

-- A bad curve is refused with the first bad point, at every lux.
refused : map (level_of (curve 2 (5 ∷ 5 ∷ []) (0 ∷ 1 ∷ []))) (0 ∷ 5 ∷ 9 ∷ []) ≡ bad 2 ∷ bad 2 ∷ bad 2 ∷ []
unfolding curve judged_of judged_points judged_from points_from
refused = refl
