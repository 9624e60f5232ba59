-- A brightness curve: which one is good, and the level at a lux.
use Rattle.std.specs.Prelude.{Bool, cond, ◌&&◌, List, [], ◌∷◌, ℕ, zero, suc, ◌+◌, ◌-◌, ◌*◌, ◌/◌, ◌≤◌, ◌<◌, ltb, leb, get_or, Result, Ok, Err}
use Rattle.brightness_curve.specs.declared.Curve.{Curve}
use Rattle.brightness_curve.specs.declared.Point.{Point}
use Rattle.brightness_curve.specs.declared.BadPoint.{BadPoint}

abbrev pub point : ℕ → ℕ → Point
point x y = record { lux = x; level = y }

-- the point behind the first i
abbrev pub point_at : Curve → ℕ → Point
point_at c i = point (get_or c.lux i 0) (get_or c.level i 0)

-- n points, from the one behind the first i on
unfoldable pub points_from : Curve → ℕ → ℕ → List Point
points_from c i zero = []
points_from c i (suc n) = point_at c i ∷ points_from c (suc i) n

-- the curve's points
abbrev pub points_of : Curve → List Point
points_of c = points_from c 0 c.count

-- ---- a good curve

-- a curve is good, or has a first bad point
abbrev pub Judged : Type 0
Judged = Result (Unit {0}) BadPoint

abbrev pub good : Judged
good = Ok tt

abbrev pub bad : {A : Type 0} → ℕ → Result A BadPoint
bad k = Err (record { 0 = k })

-- lux 0..65535, level 0..255
abbrev pub in_range : Point → Bool
in_range p = leb p.lux 65535 && leb p.level 255

-- lux strictly rises, and the level never falls
abbrev pub follows : Point → Point → Bool
follows p q = ltb p.lux q.lux && leb p.level q.level

-- the points behind p, the first of which has number k
unfoldable pub judged_from : ℕ → Point → List Point → Judged
judged_from k p [] = good
judged_from k p (q ∷ l) = cond (in_range q && follows p q) (judged_from (suc k) q l) (bad k)

unfoldable pub judged_points : List Point → Judged
judged_points [] = good
judged_points (p ∷ l) = cond (in_range p) (judged_from 2 p l) (bad 1)

-- The first bad point, counted from 1; 0 for a bad count, which is tried first. Each point is judged whole before the next, and of two
-- that do not follow each other the later one is bad.
unfoldable pub judged_of : Curve → Judged
judged_of c = cond (leb 1 c.count && leb c.count 16) (judged_points (points_of c)) (bad 0)

-- ---- the level

-- Between two points: the lower level plus the lux step times the level rise divided by the lux rise, rounded down.
unfoldable pub between : Point → Point → ℕ → ℕ
between p q x = p.level + (x - p.lux) * (q.level - p.level) / (q.lux - p.lux)

-- from p on; behind the last point its level
unfoldable pub level_from : Point → List Point → ℕ → ℕ
level_from p [] x = p.level
level_from p (q ∷ l) x = cond (ltb x q.lux) (between p q x) (level_from q l x)

-- before the first point its level
unfoldable pub level_at : List Point → ℕ → ℕ
level_at [] x = 0
level_at (p ∷ l) x = cond (ltb x p.lux) p.level (level_from p l x)

abbrev pub level_on : Curve → ℕ → ℕ
level_on c x = level_at (points_of c) x

-- a level of a good curve; of a bad one its first bad point
abbrev pub if_good : {A : Type 0} → Judged → A → Result A BadPoint
if_good (Ok u) y = Ok y
if_good (Err k) y = Err k

-- at a lux, however large
abbrev pub level_of : Curve → ℕ → Result ℕ BadPoint
level_of c x = if_good (judged_of c) (level_on c x)

-- the level that a display starts at: the first point's
abbrev pub first_of : Curve → Result ℕ BadPoint
first_of c = if_good (judged_of c) (point_at c 0).level

-- ---- what holds of a good curve

abbrev pub InRange : Point → Type 0
InRange p = (p.lux ≤ 65535) × (p.level ≤ 255)

-- the points behind p are in range, and each follows the one before
abbrev pub Rises : Point → List Point → Type 0
Rises p [] = Unit {0}
Rises p (q ∷ l) = InRange q × (p.lux < q.lux) × (p.level ≤ q.level) × Rises q l

-- a lux from p on and before q, which follows p
pub record Between (p q : Point) (x : ℕ) : Type 0 where
  pub from : p.lux ≤ x
  pub before : x < q.lux
  pub rises : p.level ≤ q.level
  pub lux : q.lux ≤ 65535
  pub level : q.level ≤ 255
