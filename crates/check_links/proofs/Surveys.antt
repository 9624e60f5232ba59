-- A survey spends its budget but for one just where the rings hold all that have a home, each in its own ring, and nothing else is linked.
-- Assumes nothing.
use Rattle.std.proofs.Common.{◌≡◌, ℕ, zero, suc, ◌+◌, ◌-◌, ◌<◌, ◌≤◌, Bool, true, false, cond, not, eqb, ◌≢◌, ◌⊎◌, ◌↔◌, List, [], ◌∷◌, ◌++◌, reverse, length, get_or, sym, refl, ap, ◌∙◌, subst, inl, inr, arith, length-append, eq-eqb, ne_eqb, eqb-true}
use mathlib.Core.Bool.{false≢true}
use mathlib.Core.List.{reverse-cons}
use native.Mathlib.Decide.{ℕ_discrete, dec_le}
use lib.ListN.{get_or-eq_default}
use borrow.Author.Tests.{eqb-false, not-true}
use Rattle.memory_rings.specs.Rings.{IsId, All, Out, Stands, Distinct, head_of, line_of, Seg, Ring, Linked}
use Rattle.check_links.specs.Survey.{counted, toured, surveyed, from}
use Rattle.memory_rings.proofs.Lists.{all_at, all_of, stands_or_out, stands_out, stands_left, stands_right_lem, stands_cases, dist_join, few}
use Rattle.memory_rings.proofs.Ways.{join, split, head_link, never, distinct, walk_way}
use Rattle.check_links.proofs.Counts.{all_there, as_many}

-- ---- one ring

-- the way from x to a over ids that pass f takes a budget of k to c
record Way (f : ℕ → Bool) (nx pv : List ℕ) (a x k c : ℕ) : Type 0 where
  xs : List ℕ
  own : All (λ y. f y ≡ true) xs
  forth : Seg nx x xs a
  back : Seg pv a (reverse xs) x
  left : k ≡ length xs + c

module _ (f : ℕ → Bool) (nx pv : List ℕ) (a : ℕ) where
  tour_way : (k x : ℕ) → 1 ≤ toured k f nx pv a x → Way f nx pv a x k (toured k f nx pv a x)
  unfolding toured
  tour_way zero x h = absurd (omega arith)
  tour_way (suc k) x h = go (eqb y a) (eqb (get_or pv a 0) x) (f y) (eqb (get_or pv y 0) x) refl refl refl refl (tour_way k y) h
    where
      y : ℕ
      y = get_or nx x 0

      r : ℕ
      r = toured k f nx pv a y

      go : (u v s t : Bool) → eqb y a ≡ u → eqb (get_or pv a 0) x ≡ v → f y ≡ s → eqb (get_or pv y 0) x ≡ t → (1 ≤ r → Way f nx pv a y k r)
          → 1 ≤ cond u (cond v (suc k) 0) (cond s (cond t r 0) 0) → Way f nx pv a x (suc k) (cond u (cond v (suc k) 0) (cond s (cond t r 0) 0))
      go true true s t i j p q rec z = record { xs = []; own = tt; forth = eqb-true y a i; back = eqb-true (get_or pv a 0) x j; left = omega arith }
      go true false s t i j p q rec z = absurd (omega arith)
      go false v true true i j p q rec z =
          let w = rec z in
          record {
            xs = y ∷ w.xs;
            own = (p, w.own);
            forth = (refl, w.forth);
            back = rw reverse-cons (join pv a (reverse w.xs) y [] x w.back (eqb-true (get_or pv y 0) x q));
            left = omega (arith, w.left);
          }
      go false v true false i j p q rec z = absurd (omega arith)
      go false v false t i j p q rec z = absurd (omega arith)

  way_tour : f a ≡ false → (k x : ℕ) (xs : List ℕ) → All (λ y. f y ≡ true) xs → Seg nx x xs a → Seg pv a (reverse xs) x → length xs < k → toured k f nx pv a x ≡ k - length xs
  unfolding toured
  way_tour fa zero x xs o s t h = absurd (omega arith)
  way_tour fa (suc k) x [] o s t h = rw (s, eq-eqb a a refl, eq-eqb (get_or pv a 0) x t) (omega arith)
  way_tour fa (suc k) x (y ∷ ys) o s t h =
      let sp = split pv a (reverse ys) y [] x (rw reverse-cons at t) in
      rw (s.0, ne_eqb y a (λ e. false≢true (sym fa ∙ subst (λ (i : ℕ). f i ≡ true) e o.0)), o.0, eq-eqb (get_or pv y 0) x sp.1) (way_tour fa k y ys o.1 s.1 sp.0 (omega arith) ∙ omega arith)

-- ---- several rings

-- all that stand in the lines of the anchors qs
lines : ℕ → List ℕ → List ℕ → List ℕ
lines n nx [] = []
lines n nx (a ∷ qs) = line_of n nx a ++ lines n nx qs

in_lines : (n : ℕ) (nx qs : List ℕ) (a i : ℕ) → Stands a qs → Stands i (line_of n nx a) → Stands i (lines n nx qs)
unfolding lines
in_lines n nx [] a i s t = absurd s
in_lines n nx (b ∷ qs) a i (inl e) t = stands_left i (line_of n nx b) (lines n nx qs) (subst (λ (c : ℕ). Stands i (line_of n nx c)) (sym e) t)
in_lines n nx (b ∷ qs) a i (inr s) t = stands_right_lem i (line_of n nx b) (lines n nx qs) (in_lines n nx qs a i s t)

of_lines : (n : ℕ) (nx qs : List ℕ) (i : ℕ) → Stands i (lines n nx qs) → (a : ℕ) × Stands a qs × Stands i (line_of n nx a)
unfolding lines
of_lines n nx [] i s = absurd s
of_lines n nx (b ∷ qs) i s = elim (stands_cases i (line_of n nx b) (lines n nx qs) s) [
  | inl t ↦ (b, inl refl, t)
  | inr t ↦ let r = of_lines n nx qs i t in (r.0, inr r.1, r.2)
]

-- What a survey that takes a budget of k to c, above 0, has met: rings, whose ids pass the test of their anchor.
record Met (n : ℕ) (f : ℕ → ℕ → Bool) (nx pv qs : List ℕ) (k c : ℕ) : Type 0 where
  ring : (a : ℕ) → Stands a qs → Ring n nx pv a (line_of n nx a)
  own : (a i : ℕ) → Stands a qs → Stands i (line_of n nx a) → f a i ≡ true
  left : k ≡ length (lines n nx qs) + c

module _ (n : ℕ) (f : ℕ → ℕ → Bool) (nx pv : List ℕ) (ids : (a i : ℕ) → f a i ≡ true → IsId n i) where
  way_ids : (a : ℕ) (xs : List ℕ) → All (λ y. f a y ≡ true) xs → All (IsId n) xs
  way_ids a xs o = all_of _ xs (λ i s. ids a i (all_at (λ y. f a y ≡ true) xs i s o))

  -- the line that the tour of an anchor has found
  found : (a k c : ℕ) → n < a → (w : Way (f a) nx pv a a k c) → line_of n nx a ≡ w.xs
  unfolding line_of
  found a k c na w =
      let h = way_ids a w.xs w.own in
      walk_way nx (suc n) n a w.xs a (omega (arith, few n w.xs (distinct nx n a w.xs a na h w.forth) h)) na h w.forth

  -- one ring, and then those of qs
  one_more : (a : ℕ) (qs : List ℕ) (k t c : ℕ) → n < a → Way (f a) nx pv a a k t → Met n f nx pv qs t c → Met n f nx pv (a ∷ qs) k c
  unfolding lines
  one_more a qs k t c na w M = record { ring = ring; own = own; left = simp length-append (omega (arith, w.left, ap length q, M.left)) }
    where
      q : line_of n nx a ≡ w.xs
      q = found a k t na w

      ring : (b : ℕ) → Stands b (a ∷ qs) → Ring n nx pv b (line_of n nx b)
      ring b (inl e) = subst (λ (c : ℕ). Ring n nx pv c (line_of n nx c)) e (record { ids = rw q (way_ids a w.xs w.own); forth = rw q w.forth; back = rw q w.back })
      ring b (inr s) = M.ring b s

      own : (b i : ℕ) → Stands b (a ∷ qs) → Stands i (line_of n nx b) → f b i ≡ true
      own b i (inl e) t = subst (λ (c : ℕ). f c i ≡ true) e (all_at (λ y. f a y ≡ true) w.xs i (subst (Stands i) q (subst (λ (c : ℕ). Stands i (line_of n nx c)) (sym e) t)) w.own)
      own b i (inr s) t = M.own b i s t

  survey_met : (qs : List ℕ) (k : ℕ) → ((a : ℕ) → Stands a qs → n < a) → 1 ≤ surveyed f nx pv qs k → Met n f nx pv qs k (surveyed f nx pv qs k)
  unfolding surveyed lines
  survey_met [] k na h = record { ring = λ a s. absurd s; own = λ a i s. absurd s; left = omega arith }
  survey_met (a ∷ qs) k na h =
      let M = survey_met qs (toured k (f a) nx pv a a) (λ b s. na b (inr s)) h in
      one_more a qs k (toured k (f a) nx pv a a) _ (na a (inl refl)) (tour_way (f a) nx pv a k a (omega (arith, M.left, h))) M

  met_survey : (qs : List ℕ) (k : ℕ) → ((a : ℕ) → Stands a qs → n < a) → ((a : ℕ) → Stands a qs → Ring n nx pv a (line_of n nx a))
      → ((a i : ℕ) → Stands a qs → Stands i (line_of n nx a) → f a i ≡ true) → length (lines n nx qs) < k → surveyed f nx pv qs k ≡ k - length (lines n nx qs)
  unfolding surveyed lines
  met_survey [] k na R o h = omega arith
  met_survey (a ∷ qs) k na R o h =
      let l = length-append (line_of n nx a) (lines n nx qs) in
      let r = R a (inl refl) in
      let t = way_tour (f a) nx pv a (no (f a a) refl) k a (line_of n nx a) (all_of _ (line_of n nx a) (λ i s. o a i (inl refl) s)) r.forth r.back (omega (arith, l)) in
      rw t (met_survey qs (k - length (line_of n nx a)) (λ b s. na b (inr s)) (λ b s. R b (inr s)) (λ b i s. o b i (inr s)) (omega (arith, l)) ∙ omega (arith, l))
    where
      no : (t : Bool) → f a a ≡ t → t ≡ false
      no true e = absurd (omega (arith, (ids a a e).1, na a (inl refl)))
      no false e = refl

  -- an anchor with a ring is a node
  ring_node : (a : ℕ) (xs : List ℕ) → n < a → Ring n nx pv a xs → a < length nx
  ring_node a xs na R = elim (dec_le (length nx) a) [ yes h ↦ absurd (go xs R.ids (sym (get_or-eq_default nx 0 h) ∙ head_link nx a xs a R.forth)) | no h ↦ omega arith ]
    where
      go : (xs : List ℕ) → All (IsId n) xs → 0 ≡ head_of xs a → ⊥
      go [] k e = omega arith
      go (x ∷ xs) k e = omega arith

-- ---- the whole check

-- the test that a number is not 0
some_is : (x : ℕ) → x ≢ 0 → not (eqb x 0) ≡ true
some_is x h = ap not (ne_eqb x 0 h)

is_some : (x : ℕ) → not (eqb x 0) ≡ true → x ≢ 0
is_some x e = eqb-false x 0 (not-true (eqb x 0) e)

-- f a is the test of the ids whose home is the anchor a
module _ (n : ℕ) (nx pv qs : List ℕ) (na : (a : ℕ) → Stands a qs → n < a) (apart : Distinct qs) (same : length pv ≡ length nx) (f : ℕ → ℕ → Bool) (home : ℕ → ℕ)
    (ids : (a i : ℕ) → f a i ≡ true → IsId n i) (is : (a i : ℕ) → Stands a qs → IsId n i → (f a i ≡ true) ↔ (home i ≡ a)) (known : (i : ℕ) → IsId n i → home i ≢ 0 → Stands (home i) qs) where
  abbrev linked : ℕ → Bool
  linked i = not (eqb (get_or nx i 0) 0)

  abbrev homed : ℕ → Bool
  homed i = not (eqb (home i) 0)

  abbrev AtHome : Type 0
  AtHome = (a i : ℕ) → Stands a qs → IsId n i → (home i ≡ a) ↔ Stands i (line_of n nx a)

  module _ (R : (a : ℕ) → Stands a qs → Ring n nx pv a (line_of n nx a)) (own : (a i : ℕ) → Stands a qs → Stands i (line_of n nx a) → f a i ≡ true) where
    owned : (a i : ℕ) → Stands a qs → Stands i (line_of n nx a) → IsId n i × (home i ≡ a)
    owned a i s t = let e = own a i s t in (ids a i e, (is a i s (ids a i e)).0 e)

    all_distinct : Distinct (lines n nx qs)
    unfolding lines
    all_distinct = go qs (λ b s. s) apart
      where
        go : (rs : List ℕ) → ((b : ℕ) → Stands b rs → Stands b qs) → Distinct rs → Distinct (lines n nx rs)
        go [] u d = tt
        go (a ∷ rs) u d = dist_join (line_of n nx a) (lines n nx rs) (let r = R a (u a (inl refl)) in distinct nx n a (line_of n nx a) a (na a (u a (inl refl))) r.ids r.forth)
            (go rs (λ b s. u b (inr s)) d.1)
            (λ i s. elim (stands_or_out i (lines n nx rs)) [
              | inl t ↦ let r = of_lines n nx rs i t in
                  absurd (all_at (λ c. c ≢ a) rs r.0 r.1 d.0 (sym (owned r.0 i (u r.0 (inr r.1)) r.2).1 ∙ (owned a i (u a (inl refl)) s).1))
              | inr o ↦ o
            ])

    all_homed : All (λ i. IsId n i × (homed i ≡ true)) (lines n nx qs)
    all_homed = all_of _ (lines n nx qs) (λ i s. let r = of_lines n nx qs i s in let o = owned r.0 i r.1 r.2 in (o.0, some_is (home i) (λ e. omega (arith, o.1, na r.0 r.1))))

    all_linked : All (λ i. IsId n i × (linked i ≡ true)) (lines n nx qs)
    all_linked = all_of _ (lines n nx qs) (λ i s. let r = of_lines n nx qs i s in ((owned r.0 i r.1 r.2).0, some_is (get_or nx i 0) (λ e. out r.0 i r.1 r.2 e)))
      where
        out : (a i : ℕ) → Stands a qs → Stands i (line_of n nx a) → get_or nx i 0 ≡ 0 → ⊥
        out a i s t e = let r = R a s in stands_out i (line_of n nx a) t (never nx n i a (line_of n nx a) a e (omega (arith, na a s)) r.ids r.forth).1

  pub check_law : ((counted n linked ≡ counted n homed) × (surveyed f nx pv qs (suc (counted n homed)) ≡ 1)) ↔ (Linked n (λ a. Stands a qs) nx pv (line_of n nx) × AtHome)
  check_law = (to, back)
    where
      to : (counted n linked ≡ counted n homed) × (surveyed f nx pv qs (suc (counted n homed)) ≡ 1) → Linked n (λ a. Stands a qs) nx pv (line_of n nx) × AtHome
      to h = (
        record {
          anchors = λ a s. (na a s, ring_node n f nx pv ids a (line_of n nx a) (na a s) (M.ring a s));
          same = same;
          ring = M.ring;
          home = λ i k z. of_lines n nx qs i (all_there n linked (lines n nx qs) d (all_linked M.ring M.own) (long ∙ sym h.0) i k (some_is (get_or nx i 0) z));
        },
        λ a i s k. (
          (λ e.
              let r = of_lines n nx qs i (all_there n homed (lines n nx qs) d (all_homed M.ring M.own) long i k (some_is (home i) (λ z. omega (arith, e, na a s)))) in
              subst (λ (b : ℕ). Stands i (line_of n nx b)) (sym (owned M.ring M.own r.0 i r.1 r.2).1 ∙ e) r.2),
          λ t. (owned M.ring M.own a i s t).1,
        ),
      )
        where
          M : Met n f nx pv qs (suc (counted n homed)) (surveyed f nx pv qs (suc (counted n homed)))
          M = survey_met n f nx pv ids qs (suc (counted n homed)) na (omega (arith, h.1))

          d : Distinct (lines n nx qs)
          d = all_distinct M.ring M.own

          long : length (lines n nx qs) ≡ counted n homed
          long = omega (arith, M.left, h.1)

      back : Linked n (λ a. Stands a qs) nx pv (line_of n nx) × AtHome → (counted n linked ≡ counted n homed) × (surveyed f nx pv qs (suc (counted n homed)) ≡ 1)
      back (L, A) = (many ∙ sym some, met_survey n f nx pv ids qs (suc (counted n homed)) na L.ring own (omega (arith, some)) ∙ omega (arith, some))
        where
          own : (a i : ℕ) → Stands a qs → Stands i (line_of n nx a) → f a i ≡ true
          own a i s t = let k = all_at (IsId n) (line_of n nx a) i t (L.ring a s).ids in (is a i s k).1 ((A a i s k).1 t)

          d : Distinct (lines n nx qs)
          d = all_distinct L.ring own

          some : counted n homed ≡ length (lines n nx qs)
          some = as_many n homed (lines n nx qs) d (all_homed L.ring own) (λ i k e. let s = known i k (is_some (home i) e) in in_lines n nx qs (home i) i s ((A (home i) i s k).0 refl))

          many : counted n linked ≡ length (lines n nx qs)
          many = as_many n linked (lines n nx qs) d (all_linked L.ring own) (λ i k e. let r = L.home i k (is_some (get_or nx i 0) e) in in_lines n nx qs r.0 i r.1 r.2)

-- one list after another is the two in one
pub survey_append : (f : ℕ → ℕ → Bool) (nx pv qs rs : List ℕ) (k : ℕ) → surveyed f nx pv (qs ++ rs) k ≡ surveyed f nx pv rs (surveyed f nx pv qs k)
unfolding surveyed
survey_append f nx pv [] rs k = refl
survey_append f nx pv (a ∷ qs) rs k = survey_append f nx pv qs rs (toured k (f a) nx pv a a)

-- ---- ranges

pub from_stands : (a k c : ℕ) → Stands c (from a k) ↔ ((a ≤ c) × (c < a + k))
unfolding from
from_stands a zero c = ((λ s. absurd s), λ h. absurd (omega arith))
from_stands a (suc k) c = (
  (λ s. elim s [ inl e ↦ (omega arith, omega arith) | inr t ↦ let h = (from_stands (suc a) k c).0 t in (omega arith, omega arith) ]),
  (λ h. elim (ℕ_discrete a c) [ yes e ↦ inl e | no ne ↦ inr ((from_stands (suc a) k c).1 (omega arith, omega arith)) ]),
)

pub from_out : (a k c : ℕ) → (c < a) ⊎ (a + k ≤ c) → Out c (from a k)
from_out a k c h = elim (stands_or_out c (from a k)) [
  | inl s ↦ absurd (let r = (from_stands a k c).0 s in elim h [ inl p ↦ omega arith | inr p ↦ omega arith ])
  | inr o ↦ o
]

pub from_distinct : (a k : ℕ) → Distinct (from a k)
unfolding from
from_distinct a zero = tt
from_distinct a (suc k) = (from_out (suc a) k a (inl (omega arith)), from_distinct (suc a) k)
