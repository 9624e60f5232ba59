-- The check of the queues of one sort: a survey that meets every id that belongs to a queue, where as many are linked, decides that the links are rings
-- and that each line holds just those that belong to it. Assumes nothing.
use mathlib.Core.Bool.{Bool, true, false, cond, not, false≢true}
use mathlib.Core.List.{List, [], ◌∷◌, ◌++◌}
use mathlib.Core.Logic.{◌⊎◌, inl, inr, ◌≢◌, ◌↔◌}
use mathlib.Core.Option.{Option, none, some}
use mathlib.Core.Path.{◌≡◌, refl, sym, ap, ◌∙◌, subst}
use Prim.Native.Nat.{ℕ, zero, suc, ◌+◌, ◌≤◌, ◌<◌}
use native.Mathlib.Omega.{arith}
use lib.Dec.{eqb}
use lib.ListN.{length, get_or, drop}
use lib.Seq.{get_or-drop}
use borrow.Author.Tests.{eqb-true, eqb-false, eq-eqb, ne_eqb, le-leb}
use Rattle.rules.specs.Ids.{of, In, once, times}
use Rattle.rules.specs.Places.{Place}
use Rattle.rules.specs.Sound.{Known}
use Rattle.memory_rings.specs.Links.{half, nexts, prevs}
use Rattle.memory_rings.specs.Rings.{IsId, All, Out, Stands, Distinct, line_of, Linked}
use Rattle.check_links.specs.declared.Table.{Table}
use Rattle.check_links.specs.Survey.{counted, filled, ids_of, housed, belongs, owns, covers, most_entries, surveyed, from, ranged, budget}
use Rattle.memory_rings.proofs.Lists.{stands_or_out, stands_out, stands_left, stands_right_lem, stands_cases, dist_join, all_of}
use Rattle.memory_rings.proofs.Halves.{next_at}
use Rattle.memory_rings.proofs.Laws.{once_law, linked_use}
use Rattle.check_links.proofs.Counts.{counted_same}
use Rattle.check_links.proofs.Steps.{survey_zero, ranged_is, budget_of}
use Rattle.check_links.proofs.Surveys.{survey_append, check_law, from_stands, from_distinct}
use Rattle.memory_picture.specs.Picture.{anchor}
use Rattle.memory_picture.proofs.Counts.{stands_times, times_stands}
use Rattle.check_queues.specs.Queues.{ranges}
use Rattle.check_ranges.proofs.Decisions.{Decides, decides_as, decides_no}

-- ---- ranges of anchors, one after the other

abbrev pub anchors_of : List (ℕ × ℕ) → List ℕ
anchors_of [] = []
anchors_of (r ∷ rs) = from r.0 r.1 ++ anchors_of rs

-- a lies in one of the ranges
abbrev pub InRange : ℕ → List (ℕ × ℕ) → Type 0
InRange a [] = ⊥
InRange a (r ∷ rs) = ((r.0 ≤ a) × (a < r.0 + r.1)) ⊎ InRange a rs

pub anchor_range : (a : ℕ) (rs : List (ℕ × ℕ)) → Stands a (anchors_of rs) → InRange a rs
anchor_range a [] s = s
anchor_range a (r ∷ rs) s = elim (stands_cases a (from r.0 r.1) (anchors_of rs) s) [ inl t ↦ inl ((from_stands r.0 r.1 a).0 t) | inr t ↦ inr (anchor_range a rs t) ]

pub range_anchor : (a : ℕ) (rs : List (ℕ × ℕ)) → InRange a rs → Stands a (anchors_of rs)
range_anchor a [] h = h
range_anchor a (r ∷ rs) (inl h) = stands_left a (from r.0 r.1) (anchors_of rs) ((from_stands r.0 r.1 a).1 h)
range_anchor a (r ∷ rs) (inr h) = stands_right_lem a (from r.0 r.1) (anchors_of rs) (range_anchor a rs h)

-- the ranges rise, from c on, to below `top`
abbrev pub Rising : ℕ → ℕ → List (ℕ × ℕ) → Type 0
Rising top c [] = Unit {0}
Rising top c (r ∷ rs) = (c ≤ r.0) × (r.0 + r.1 ≤ top) × Rising top (r.0 + r.1) rs

module _ (top : ℕ) where
  pub rising_from : (c : ℕ) (rs : List (ℕ × ℕ)) → Rising top c rs → (a : ℕ) → Stands a (anchors_of rs) → c ≤ a
  rising_from c [] h a s = absurd s
  rising_from c (r ∷ rs) h a s = elim (stands_cases a (from r.0 r.1) (anchors_of rs) s) [
    | inl t ↦ omega (arith, h.0, ((from_stands r.0 r.1 a).0 t).0)
    | inr t ↦ omega (arith, h.0, rising_from (r.0 + r.1) rs h.2 a t)
  ]

  pub rising_distinct : (c : ℕ) (rs : List (ℕ × ℕ)) → Rising top c rs → Distinct (anchors_of rs)
  rising_distinct c [] h = tt
  rising_distinct c (r ∷ rs) h = dist_join (from r.0 r.1) (anchors_of rs) (from_distinct r.0 r.1) (rising_distinct (r.0 + r.1) rs h.2)
      (λ i s. all_of (λ x. x ≢ i) (anchors_of rs) (λ x t e. omega (arith, ((from_stands r.0 r.1 i).0 s).1, rising_from (r.0 + r.1) rs h.2 x t)))

-- of the anchors of each range the table t of entries l tells, as f does, to whose ring an id belongs
abbrev pub Told : Table → List ℕ → (ℕ → ℕ → Bool) → List (ℕ × ℕ) → Type 0
Told t l f [] = Unit {0}
Told t l f (r ∷ rs) = (covers t l r.0 r.1 ≡ true) × (owns t l r.0 ≡ f) × Told t l f rs

module _ (ls : List ℕ) (t : Table) (l : List ℕ) (f : ℕ → ℕ → Bool) (few : length l ≤ most_entries) (room : ids_of t l < half ls) where
  ranges_is : (c : ℕ) (rs : List (ℕ × ℕ)) → Rising (half ls) c rs → Told t l f rs → (k : ℕ) → ranges ls t l rs k ≡ surveyed f (nexts ls) (prevs ls) (anchors_of rs) k
  unfolding ranges surveyed
  ranges_is c [] h T k = refl
  ranges_is c (r ∷ rs) h T k =
      ranges_is (r.0 + r.1) rs h.2 T.2 (ranged ls t l r.0 r.1 k)
      ∙ ap (surveyed f (nexts ls) (prevs ls) (anchors_of rs))
      (ranged_is ls t l r.0 r.1 k few room h.1 T.0 ∙ ap (λ (g : ℕ → ℕ → Bool). surveyed g (nexts ls) (prevs ls) (from r.0 r.1) k) T.1)
      ∙ sym (survey_append f (nexts ls) (prevs ls) (from r.0 r.1) (anchors_of rs) k)

-- ---- homes

abbrev pub anchor_of : Option Place → ℕ
anchor_of none = 0
anchor_of (some q) = anchor q

abbrev pub Belongs : (Place → Type 0) → (Place → ℕ → Bool) → ℕ → Option Place → Type 0
Belongs Q B i none = Unit {0}
Belongs Q B i (some q) = Q q × (B q i ≡ true)

-- The anchors qs are those of the places Q, and each of the ids 1 to n belongs (B) to its home H, if it has one, and nowhere else.
pub record Homes (n : ℕ) (qs : List ℕ) (Q : Place → Type 0) (B : Place → ℕ → Bool) (H : ℕ → Option Place) : Type 0 where
  pub anchored : (a : ℕ) → Stands a qs → n < a
  pub apart : Distinct qs
  pub to : (q : Place) → Q q → Stands (anchor q) qs
  pub from : (a : ℕ) → Stands a qs → (q : Place) × Q q × (anchor q ≡ a)
  pub one : (q r : Place) → Q q → Q r → anchor q ≡ anchor r → q ≡ r
  pub holds : (i : ℕ) → In i n → Belongs Q B i (H i)
  pub only : (q : Place) → Q q → (i : ℕ) → B q i ≡ true → H i ≡ some q

-- the line holds just those that belong to it
abbrev pub Keeps : ℕ → (ℕ → Bool) → List ℕ → Type 0
Keeps n f l = Known n l × ((i : ℕ) → In i n → times i l ≡ once (f i))

-- ---- lists of ids

ids_known : (n : ℕ) (l : List ℕ) → All (IsId n) l → Known n l
ids_known n [] h = tt
ids_known n (x ∷ l) h = (h.0, ids_known n l h.1)

pub times_none : (i : ℕ) (l : List ℕ) → Out i l → times i l ≡ 0
unfolding times
times_none i [] o = refl
times_none i (x ∷ l) o = rw (ne_eqb x i o.0, times_none i l o.1)

times_one : (i : ℕ) (l : List ℕ) → Distinct l → Stands i l → times i l ≡ 1
unfolding times
times_one i [] d s = absurd s
times_one i (x ∷ l) d (inl e) = rw (eq-eqb x i e, times_none i l (subst (λ (j : ℕ). Out j l) e d.0))
times_one i (x ∷ l) d (inr s) = rw (ne_eqb x i (λ e. stands_out i l s (subst (λ (j : ℕ). Out j l) e d.0)), times_one i l d.1 s)

-- ---- the law

-- one belongs to a place just where its anchor is the home
module _ (n : ℕ) (qs : List ℕ) (Q : Place → Type 0) (B : Place → ℕ → Bool) (H : ℕ → Option Place) (K : Homes n qs Q B H) (home : ℕ → ℕ) (is : (i : ℕ) → In i n → home i ≡ anchor_of (H i)) where
  pub belongs_home : (q : Place) → Q q → (i : ℕ) → In i n → Decides (B q i) (home i ≡ anchor q)
  belongs_home q u i h = ((λ e. is i h ∙ ap anchor_of (K.only q u i e)), back (H i) refl (K.holds i h))
    where
      back : (x : Option Place) → H i ≡ x → Belongs Q B i x → home i ≡ anchor q → B q i ≡ true
      back none e k z = let o : home i ≡ 0 = is i h ∙ ap anchor_of e in absurd (omega (arith, K.anchored (anchor q) (K.to q u)))
      back (some r) e k z = subst (λ (p : Place). B p i ≡ true) (K.one r q k.0 u (sym (is i h ∙ ap anchor_of e) ∙ z)) k.1

-- each stands in the ring of its home, and there alone, just where each line holds those that belong to it
module _ (n : ℕ) (nx pv qs : List ℕ) (Q : Place → Type 0) (B : Place → ℕ → Bool) (H : ℕ → Option Place) (K : Homes n qs Q B H) (home : ℕ → ℕ)
    (is : (i : ℕ) → In i n → home i ≡ anchor_of (H i)) (W : Linked n (λ a. Stands a qs) nx pv (line_of n nx)) where
  belongs_in : (q : Place) → Q q → (i : ℕ) → In i n → Decides (B q i) (home i ≡ anchor q)
  belongs_in = belongs_home n qs Q B H K home is

  abbrev L : Place → List ℕ
  L q = line_of n nx (anchor q)

  lines_kept : ((a i : ℕ) → Stands a qs → IsId n i → (home i ≡ a) ↔ Stands i (line_of n nx a)) → (q : Place) → Q q → Keeps n (B q) (L q)
  lines_kept f q u = (ids_known n (L q) (W.ring (anchor q) (K.to q u)).ids, λ i h. counts i h (B q i) refl)
    where
      counts : (i : ℕ) → In i n → (t : Bool) → B q i ≡ t → times i (L q) ≡ once t
      counts i h true e = times_one i (L q) (once_law W (anchor q) (K.to q u)) ((f (anchor q) i (K.to q u) h).0 ((belongs_in q u i h).0 e))
      counts i h false e = times_none i (L q) (elim (stands_or_out i (L q)) [
        | inl s ↦ absurd (false≢true (sym e ∙ (belongs_in q u i h).1 ((f (anchor q) i (K.to q u) h).1 s)))
        | inr o ↦ o
      ])

  kept_lines : ((q : Place) → Q q → Keeps n (B q) (L q)) → (a i : ℕ) → Stands a qs → IsId n i → (home i ≡ a) ↔ Stands i (line_of n nx a)
  kept_lines g a i s h = subst (λ (b : ℕ). (home i ≡ b) ↔ Stands i (line_of n nx b)) r.2 (there r.0 r.1)
    where
      r : (q : Place) × Q q × (anchor q ≡ a)
      r = K.from a s

      there : (q : Place) → Q q → (home i ≡ anchor q) ↔ Stands i (L q)
      there q u = ((λ e. times_stands i (L q) ((g q u).1 i h ∙ ap once ((belongs_in q u i h).1 e))), λ t. (belongs_in q u i h).0 (held t (B q i) refl))
        where
          held : Stands i (L q) → (t : Bool) → B q i ≡ t → B q i ≡ true
          held s true e = e
          held s false e = absurd (stands_times i (L q) s ((g q u).1 i h ∙ ap once e))

-- ---- a table of homes

pub homed_by : (l : List ℕ) (v i x : ℕ) (P : Type 0) → In i (length l) → of l i 0 ≡ x → (x ≡ v) ↔ P → (belongs l v i ≡ true) ↔ P
unfolding belongs
homed_by l v i x P h e k = rw (le-leb 1 i h.0, le-leb i (length l) h.1, e) ((λ z. k.0 (eqb-true x v z)), λ p. eq-eqb x v (k.1 p))

-- ---- the whole check of a sort

-- The table t of entries l tells of n ids by `own` what `home` tells. The anchors in use have another name, U.
module _ (n c : ℕ) (ls : List ℕ) (t : Table) (l nx pv : List ℕ) (rs : List (ℕ × ℕ)) (own : ℕ → ℕ → Bool) (few : length l ≤ most_entries) (many : ids_of t l ≡ n) (room : n < half ls)
    (ns : nexts ls ≡ nx) (ps : prevs ls ≡ pv) (same : length pv ≡ length nx) (rise : Rising (half ls) c rs) (told : Told t l own rs) (Q : Place → Type 0) (B : Place → ℕ → Bool) (H : ℕ → Option Place)
    (K : Homes n (anchors_of rs) Q B H) (home : ℕ → ℕ) (is : (i : ℕ) → In i n → home i ≡ anchor_of (H i)) (own_id : (a i : ℕ) → own a i ≡ true → IsId n i)
    (own_is : (a i : ℕ) → Stands a (anchors_of rs) → In i n → (own a i ≡ true) ↔ (home i ≡ a)) (housed_is : (i : ℕ) → In i n → housed t l i ≡ not (eqb (home i) 0))
    (U : ℕ → Type 0) (out : (a : ℕ) → U a → (q : Place) × Q q × (anchor q ≡ a)) (into : (q : Place) → Q q → U (anchor q)) where
  abbrev qs : List ℕ
  qs = anchors_of rs

  known : (i : ℕ) → IsId n i → home i ≢ 0 → Stands (home i) qs
  known i h z = go (H i) refl (K.holds i h)
    where
      go : (x : Option Place) → H i ≡ x → Belongs Q B i x → Stands (home i) qs
      go none e k = absurd (z (is i h ∙ ap anchor_of e))
      go (some q) e k = subst (λ (a : ℕ). Stands a qs) (sym (is i h ∙ ap anchor_of e)) (K.to q k.0)

  abbrev linked : ℕ → Bool
  linked i = not (eqb (get_or nx i 0) 0)

  abbrev homed : ℕ → Bool
  homed i = not (eqb (home i) 0)

  linked_is : filled (ids_of t l) (drop 1 ls) ≡ counted n linked
  linked_is = ap (λ (k : ℕ). filled k (drop 1 ls)) many ∙ counted_same n _ _ (λ i h. ap (λ (x : ℕ). not (eqb x 0)) (at i h ∙ ap (λ (m : List ℕ). get_or m i 0) ns))
    where
      at : (i : ℕ) → IsId n i → of (drop 1 ls) i 0 ≡ get_or (nexts ls) i 0
      at zero h = absurd (omega (arith, h.0))
      at (suc i) h = get_or-drop 1 ls i 0 ∙ ap (λ (k : ℕ). get_or ls k 0) (omega arith) ∙ next_at ls (suc i) (omega (arith, room, h.1))

  homed_is : counted (ids_of t l) (housed t l) ≡ counted n homed
  homed_is = ap (λ (k : ℕ). counted k (housed t l)) many ∙ counted_same n _ _ housed_is

  -- the test, step by step
  test_is : eqb (ranges ls t l rs (budget ls t l)) 1 ≡ eqb (surveyed own nx pv qs (cond (eqb (counted n linked) (counted n homed)) (suc (counted n homed)) 0)) 1
  test_is =
      ap (λ (k : ℕ). eqb k 1)
      (ranges_is ls t l own few (omega (arith, many, room)) c rs rise told (budget ls t l)
      ∙ (λ z. surveyed own (ns z) (ps z) qs (spent z)))
    where
      spent : budget ls t l ≡ cond (eqb (counted n linked) (counted n homed)) (suc (counted n homed)) 0
      spent = budget_of ls t l few (omega (arith, many, room)) ∙ (λ z. cond (eqb (linked_is z) (homed_is z)) (suc (homed_is z)) 0)

  counts_law : Decides (eqb (surveyed own nx pv qs (cond (eqb (counted n linked) (counted n homed)) (suc (counted n homed)) 0)) 1)
      ((counted n linked ≡ counted n homed) × (surveyed own nx pv qs (suc (counted n homed)) ≡ 1))
  counts_law = go (eqb (counted n linked) (counted n homed)) refl
    where
      go : (t : Bool) → eqb (counted n linked) (counted n homed) ≡ t → Decides (eqb (surveyed own nx pv qs (cond t (suc (counted n homed)) 0)) 1)
          ((counted n linked ≡ counted n homed) × (surveyed own nx pv qs (suc (counted n homed)) ≡ 1))
      go true e = ((λ z. (eqb-true (counted n linked) (counted n homed) e, eqb-true (surveyed own nx pv qs (suc (counted n homed))) 1 z)), λ z. eq-eqb (surveyed own nx pv qs (suc (counted n homed))) 1 z.1)
      go false e = rw (survey_zero own nx pv qs) (decides_no (λ z. eqb-false (counted n linked) (counted n homed) e z.0))

  pub queued_law : Decides (eqb (ranges ls t l rs (budget ls t l)) 1) (Linked n U nx pv (line_of n nx) × ((q : Place) → Q q → Keeps n (B q) (line_of n nx (anchor q))))
  queued_law = subst (λ (t : Bool). Decides t (Linked n U nx pv (line_of n nx) × ((q : Place) → Q q → Keeps n (B q) (line_of n nx (anchor q))))) (sym test_is) (decides_as counts_law
      (λ h. let w = law.0 h in (linked_use w.0 U (λ a t. let r = K.from a t in subst U r.2 (into r.0 r.1)) used, lines_kept n nx pv qs Q B H K home is w.0 w.1))
      (λ h. let w = linked_use h.0 (λ a. Stands a qs) used (λ a t. let r = K.from a t in subst U r.2 (into r.0 r.1)) in law.1 (w, kept_lines n nx pv qs Q B H K home is w h.1)))
    where
      used : (a : ℕ) → U a → Stands a qs
      used a v = let r = out a v in subst (λ (x : ℕ). Stands x qs) r.2 (K.to r.0 r.1)

      law : ((counted n linked ≡ counted n homed) × (surveyed own nx pv qs (suc (counted n homed)) ≡ 1))
          ↔ (Linked n (λ a. Stands a qs) nx pv (line_of n nx) × ((a i : ℕ) → Stands a qs → IsId n i → (home i ≡ a) ↔ Stands i (line_of n nx a)))
      law = check_law n nx pv qs K.anchored K.apart same own home own_id own_is known
