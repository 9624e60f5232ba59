-- Judging goes on from point to point; the points of a good curve are in range and rise. Assumes nothing.
use mathlib.Core.Bool.{Bool, true, false, cond, ◌&&◌, false≢true}
use mathlib.Core.List.{List, [], ◌∷◌}
use mathlib.Core.Path.{◌≡◌, refl, sym, ◌∙◌}
use Prim.Native.Nat.{ℕ, suc, ◌+◌, ◌-◌, ◌≤◌, ◌<◌}
use native.Mathlib.Numerals.{add-one}
use native.Mathlib.Omega.{arith}
use lib.Dec.{leb}
use borrow.Author.Tests.{ltb-true, leb-true, le-leb}
use Rattle.brightness_curve.specs.declared.Curve.{Curve}
use Rattle.brightness_curve.specs.declared.Point.{Point}
use Rattle.brightness_curve.specs.Curves.{good, bad, point_at, points_from, points_of, in_range, follows, judged_from, judged_points, judged_of, InRange, Rises}

-- ---- the points that are left

-- those behind the first k
abbrev pub left : Curve → ℕ → List Point
left c k = points_from c k (c.count - k)

module _ (c : Curve) where
  pub left_next_lem : (k : ℕ) → k < c.count → left c k ≡ point_at c k ∷ left c (k + 1)
  unfolding points_from
  left_next_lem k h = let e : c.count - k ≡ suc (c.count - suc k) = omega arith in rw (e, add-one)

  -- at first all are
  pub left_all : points_of c ≡ left c 0
  left_all = let e : c.count - 0 ≡ c.count = omega arith in rw e

  pub left_none : (k : ℕ) → c.count ≤ k → left c k ≡ []
  unfolding points_from
  left_none k h = let e : c.count - k ≡ 0 = omega arith in rw e

  module _ {k : ℕ} (p : Point) (h : k < c.count) (R : Rises p (left c k)) where
    pub next_rises : Rises p (point_at c k ∷ left c (k + 1))
    next_rises = rw (left_next_lem k h) at R

    pub rises_on : Rises (point_at c k) (left c (k + 1))
    rises_on = next_rises.3

  -- ---- judging

  pub bad_count : leb 1 c.count && leb c.count 16 ≡ false → judged_of c ≡ bad 0
  unfolding judged_of
  bad_count e = rw e

  module _ (l : 1 ≤ c.count) (m : c.count ≤ 16) {t : Bool} (e : t ≡ in_range (point_at c 0)) where
    judge_first : judged_of c ≡ cond t (judged_from 2 (point_at c 0) (left c 1)) (bad 1)
    unfolding judged_of judged_points
    judge_first = rw (le-leb 1 c.count l, le-leb c.count 16 m, left_all, left_next_lem 0 l, e)

    pub first_good : t ≡ true → judged_of c ≡ judged_from 2 (point_at c 0) (left c 1)
    first_good f = rw f at judge_first

    pub first_bad_lem : t ≡ false → judged_of c ≡ bad 1
    first_bad_lem f = rw f at judge_first

  module _ {k : ℕ} (p : Point) (h : k < c.count) {t : Bool} (e : t ≡ in_range (point_at c k) && follows p (point_at c k)) where
    judge_next : judged_from (k + 1) p (left c k) ≡ cond t (judged_from (k + 1 + 1) (point_at c k) (left c (k + 1))) (bad (k + 1))
    unfolding judged_from
    judge_next = rw (left_next_lem k h, e, add-one (k + 1))

    pub next_good : t ≡ true → judged_from (k + 1) p (left c k) ≡ judged_from (k + 1 + 1) (point_at c k) (left c (k + 1))
    next_good f = rw f at judge_next

    pub next_bad : t ≡ false → judged_from (k + 1) p (left c k) ≡ bad (k + 1)
    next_bad f = rw f at judge_next

  pub judge_last : {k : ℕ} (p : Point) → c.count ≤ k → judged_from (k + 1) p (left c k) ≡ good
  unfolding judged_from
  judge_last {k} p h = rw (left_none k h)

-- ---- a good curve

good_bad : {k : ℕ} {A : Type 0} → bad k ≡ good → A
good_bad e = let z : ◌≡◌ {A = ℕ} 0 1 = cc in absurd (omega arith)

both : (s t : Bool) → (s && t) ≡ true → (s ≡ true) × (t ≡ true)
both true true e = (refl, refl)
both true false e = absurd (false≢true e)
both false t e = absurd (false≢true e)

in_range_lem : (p : Point) → in_range p ≡ true → InRange p
in_range_lem p e = let b = both _ _ e in (leb-true _ _ b.0, leb-true _ _ b.1)

pub good_rises : (k : ℕ) (p : Point) (l : List Point) → judged_from k p l ≡ good → Rises p l
unfolding judged_from
good_rises k p [] e = tt
good_rises k p (q ∷ l) e = go (in_range q && follows p q) refl e (good_rises (suc k) q l)
  where
    go : (t : Bool) → (in_range q && follows p q) ≡ t → cond t (judged_from (suc k) q l) (bad k) ≡ good → (judged_from (suc k) q l ≡ good → Rises q l) → Rises p (q ∷ l)
    go true f g rest =
        let b = both _ _ f in
        let a = both _ _ b.1 in
        (in_range_lem q b.0, ltb-true _ _ a.0, leb-true _ _ a.1, rest g)
    go false f g rest = good_bad g

-- its first point, and those behind it
pub record Rising (c : Curve) : Type 0 where
  pub least : 1 ≤ c.count
  pub most : c.count ≤ 16
  pub first : InRange (point_at c 0)
  pub rises : Rises (point_at c 0) (left c 1)

pub good_rising : (c : Curve) → judged_of c ≡ good → Rising c
unfolding judged_of
good_rising c e = go (leb 1 c.count && leb c.count 16) refl e
  where
    points : (1 ≤ c.count) → (c.count ≤ 16) → (t : Bool) → in_range (point_at c 0) ≡ t → cond t (judged_from 2 (point_at c 0) (left c 1)) (bad 1) ≡ good → Rising c
    points l m true f g = record { least = l; most = m; first = in_range_lem (point_at c 0) f; rises = good_rises 2 (point_at c 0) (left c 1) g }
    points l m false f g = good_bad g

    go : (t : Bool) → (leb 1 c.count && leb c.count 16) ≡ t → cond t (judged_points (points_of c)) (bad 0) ≡ good → Rising c
    go true f g =
        let b = both _ _ f in
        let l : 1 ≤ c.count = leb-true _ _ b.0 in
        let m : c.count ≤ 16 = leb-true _ _ b.1 in
        points l m (in_range (point_at c 0)) refl (sym (judge_first c l m refl) ∙ e)
    go false f g = good_bad g
