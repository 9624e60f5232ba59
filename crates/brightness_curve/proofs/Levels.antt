-- Levels of a good curve: more lux never gives a lower one, each is at most 255 and between the ends' levels; the level goes on from point to
-- point. Assumes nothing.
use mathlib.Core.Bool.{Bool, true, false, cond}
use mathlib.Core.List.{List, [], ◌∷◌}
use mathlib.Core.Path.{◌≡◌, refl, ◌∙◌}
use Prim.Native.Nat.{ℕ, ◌+◌, ◌-◌, ◌*◌, ◌/◌, ◌≤◌, ◌<◌}
use native.Mathlib.Nat.{mul-le-mul_right, mul-le-mul_left, div-le_of_le-mul, le-div_iff_mul-le, div-mul-le_self, le_trans}
use native.Mathlib.Omega.{arith}
use lib.Dec.{ltb}
use borrow.Author.Tests.{ltb-true, ltb-false, lt-ltb, le-ltb}
use Rattle.brightness_curve.specs.declared.Curve.{Curve}
use Rattle.brightness_curve.specs.declared.Point.{Point}
use Rattle.brightness_curve.specs.Curves.{good, point_at, judged_of, between, level_from, level_at, level_on, Rises, Between}
use Rattle.brightness_curve.proofs.Good.{left, left_all, left_next_lem, left_none, next_rises, Rising, good_rising}

-- ---- between two points

-- a quotient rises with its dividend
div_mono : (a b d : ℕ) → 0 < d → a ≤ b → a / d ≤ b / d
div_mono a b d h l = (le-div_iff_mul-le h).1 (le_trans (div-mul-le_self a d) l)

-- the part of a rise that a step makes is at most the rise
pub part_most : (x r d : ℕ) → x ≤ d → x * r / d ≤ r
part_most x r d h = div-le_of_le-mul d (mul-le-mul_right r h)

module _ (p q : Point) (h : p.lux < q.lux) (k : p.level ≤ q.level) where
  between_least : (x : ℕ) → p.level ≤ between p q x
  unfolding between
  between_least x = omega arith

  between_most : (x : ℕ) → x ≤ q.lux → between p q x ≤ q.level
  unfolding between
  between_most x l = omega (arith, part_most (x - p.lux) (q.level - p.level) (q.lux - p.lux) (omega arith))

  between_mono : (x y : ℕ) → x ≤ y → between p q x ≤ between p q y
  unfolding between
  between_mono x y l =
      let s : x - p.lux ≤ y - p.lux = omega arith in
      let z : 0 < q.lux - p.lux = omega arith in
      omega (arith, div_mono _ _ (q.lux - p.lux) z (mul-le-mul_right (q.level - p.level) s))

-- the products and sums of the code fit
pub product_fits : {p q : Point} {x : ℕ} → Between p q x → (x - p.lux) * (q.level - p.level) ≤ 65535 * 255
product_fits {p} {q} {x} B =
    let s : x - p.lux ≤ 65535 = omega (arith, B.before, B.lux) in
    let t : q.level - p.level ≤ 255 = omega (arith, B.level) in
    le_trans (mul-le-mul_right (q.level - p.level) s) (mul-le-mul_left 65535 t)

pub sum_fits : {p q : Point} {x : ℕ} → Between p q x → p.level + (x - p.lux) * (q.level - p.level) / (q.lux - p.lux) ≤ 255
unfolding between
sum_fits {p} {q} {x} B =
    le_trans (between_most p q (omega (arith, B.from, B.before)) B.rises x (omega (arith, B.before))) B.level

-- ---- along the points

from_least : (p : Point) (l : List Point) → Rises p l → (x : ℕ) → p.level ≤ level_from p l x
unfolding level_from
from_least p [] R x = omega arith
from_least p (q ∷ l) R x = go (from_least q l R.3 x) (ltb x q.lux)
  where
    go : q.level ≤ level_from q l x → (t : Bool) → p.level ≤ cond t (between p q x) (level_from q l x)
    go h true = between_least p q R.1 R.2 x
    go h false = omega (arith, h, R.2)

-- at a point's own lux it is the point's
from_own : (p : Point) (l : List Point) → Rises p l → level_from p l p.lux ≡ p.level
unfolding level_from between
from_own p [] R = refl
from_own p (q ∷ l) R =
    let z : p.lux - p.lux ≡ 0 = omega arith in
    let n : 0 * (q.level - p.level) / (q.lux - p.lux) ≤ 0 = div-le_of_le-mul (q.lux - p.lux) (omega arith) in
    rw (lt-ltb p.lux q.lux R.1, z) (omega (arith, n))

from_most : (p : Point) (l : List Point) → p.level ≤ 255 → Rises p l → (x : ℕ) → level_from p l x ≤ 255
unfolding level_from
from_most p [] h R x = h
from_most p (q ∷ l) h R x = go (from_most q l R.0.1 R.3 x) (ltb x q.lux) refl
  where
    go : level_from q l x ≤ 255 → (t : Bool) → ltb x q.lux ≡ t → cond t (between p q x) (level_from q l x) ≤ 255
    go g true e = le_trans (between_most p q R.1 R.2 x (omega (arith, ltb-true x q.lux e))) R.0.1
    go g false e = g

from_mono : (p : Point) (l : List Point) → Rises p l → (x y : ℕ) → x ≤ y → level_from p l x ≤ level_from p l y
unfolding level_from
from_mono p [] R x y h = omega arith
from_mono p (q ∷ l) R x y h = go (from_mono q l R.3 x y h) (ltb x q.lux) (ltb y q.lux) refl refl
  where
    go : level_from q l x ≤ level_from q l y → (s t : Bool) → ltb x q.lux ≡ s → ltb y q.lux ≡ t
        → cond s (between p q x) (level_from q l x) ≤ cond t (between p q y) (level_from q l y)
    go m true true e f = between_mono p q R.1 R.2 x y h
    go m true false e f =
        let a : x ≤ q.lux = omega (arith, ltb-true x q.lux e) in
        omega (arith, between_most p q R.1 R.2 x a, from_least q l R.3 y)
    go m false true e f = absurd (omega (arith, ltb-false x q.lux e, ltb-true y q.lux f, h))
    go m false false e f = m

-- ---- along a curve

module _ (c : Curve) (x : ℕ) where
  module _ (l : 1 ≤ c.count) where
    first_level : level_on c x ≡ cond (ltb x (point_at c 0).lux) (point_at c 0).level (level_from (point_at c 0) (left c 1) x)
    unfolding level_at
    first_level = rw (left_all c, left_next_lem c 0 l)

    pub before_first : x < (point_at c 0).lux → level_on c x ≡ (point_at c 0).level
    before_first h = first_level ∙ simp (lt-ltb x (point_at c 0).lux h)

    pub from_first : (point_at c 0).lux ≤ x → level_on c x ≡ level_from (point_at c 0) (left c 1) x
    from_first h = first_level ∙ simp (le-ltb x (point_at c 0).lux h)

  module _ {k : ℕ} (p : Point) (h : k < c.count) where
    next_level : level_from p (left c k) x ≡ cond (ltb x (point_at c k).lux) (between p (point_at c k) x) (level_from (point_at c k) (left c (k + 1)) x)
    unfolding level_from
    next_level = rw (left_next_lem c k h)

    pub before_next : x < (point_at c k).lux → level_from p (left c k) x ≡ between p (point_at c k) x
    before_next g = next_level ∙ simp (lt-ltb x (point_at c k).lux g)

    pub from_next : (point_at c k).lux ≤ x → level_from p (left c k) x ≡ level_from (point_at c k) (left c (k + 1)) x
    from_next g = next_level ∙ simp (le-ltb x (point_at c k).lux g)

    pub lies_between : Rises p (left c k) → p.lux ≤ x → x < (point_at c k).lux → Between p (point_at c k) x
    lies_between R f b = let r = next_rises c p h R in record { from = f; before = b; rises = r.2; lux = r.0.0; level = r.0.1 }

  pub behind_last : {k : ℕ} (p : Point) → c.count ≤ k → level_from p (left c k) x ≡ p.level
  unfolding level_from
  behind_last {k} p h = rw (left_none c k h)

-- ---- a good curve

module _ (c : Curve) (g : judged_of c ≡ good) where
  R : Rising c
  R = good_rising c g

  -- the level at a lux that a test puts before the first point or not
  at_lux : (x : ℕ) → level_on c x ≡ cond (ltb x (point_at c 0).lux) (point_at c 0).level (level_from (point_at c 0) (left c 1) x)
  at_lux x = first_level c x R.least

  -- no level is above 255
  pub at_most_255 : (x : ℕ) → level_on c x ≤ 255
  at_most_255 x = rw (at_lux x) (go (ltb x (point_at c 0).lux))
    where
      go : (t : Bool) → cond t (point_at c 0).level (level_from (point_at c 0) (left c 1) x) ≤ 255
      go true = R.first.1
      go false = from_most (point_at c 0) (left c 1) R.first.1 R.rises x

  -- none is below the first point's
  pub first_lowest : (x : ℕ) → (point_at c 0).level ≤ level_on c x
  first_lowest x = rw (at_lux x) (go (ltb x (point_at c 0).lux))
    where
      go : (t : Bool) → (point_at c 0).level ≤ cond t (point_at c 0).level (level_from (point_at c 0) (left c 1) x)
      go true = omega arith
      go false = from_least (point_at c 0) (left c 1) R.rises x

  -- at the first point the level is that point's
  pub at_first : level_on c (point_at c 0).lux ≡ (point_at c 0).level
  at_first = from_first c (point_at c 0).lux R.least (omega arith) ∙ from_own (point_at c 0) (left c 1) R.rises

  -- more lux never gives a lower level
  pub more_lux : (x y : ℕ) → x ≤ y → level_on c x ≤ level_on c y
  more_lux x y h = rw (at_lux x) (go (ltb x (point_at c 0).lux) refl)
    where
      go : (t : Bool) → ltb x (point_at c 0).lux ≡ t → cond t (point_at c 0).level (level_from (point_at c 0) (left c 1) x) ≤ level_on c y
      go true e = first_lowest y
      go false e =
          let f : (point_at c 0).lux ≤ y = omega (arith, ltb-false x (point_at c 0).lux e, h) in
          rw (from_first c y R.least f) (from_mono (point_at c 0) (left c 1) R.rises x y h)
