-- The loops of the check, step by step: what each way out of a turn gives, and what the next turn starts from. Assumes nothing.
use Rattle.std.proofs.Common.{◌≡◌, ℕ, zero, suc, ◌+◌, ◌-◌, ◌*◌, ◌/◌, ◌%◌, ◌^◌, ◌<◌, ◌≤◌, Bool, true, false, cond, not, ◌&&◌, eqb, ltb, leb, ◌≢◌, List, [], ◌∷◌, length, get_or, take, drop, sym, refl, ap, ◌∙◌, subst, add-one, arith, length-drop, length-take-le, get_or-take, ltb-true, le-ltb, lt-ltb, eq-eqb, ne_eqb, eqb-true, le-leb, leb-true}
use Rattle.std.proofs.lemmas.List.Sums.{sum_by_more}
use Rattle.std.proofs.lemmas.List.{take_all}
use Rattle.std.specs.List.{sum_by}
use mathlib.Core.Bool.{and-false}
use native.Mathlib.Decide.{ℕ_discrete, dec_le}
use native.Mathlib.Nat.{zero-div}
use lib.ListN.{get_or-eq_default}
use borrow.Author.Tests.{lt-leb, not-true, not-false}
use Rattle.rules.specs.Ids.{of, once}
use Rattle.memory_rings.proofs.Lists.{and_of}
use Rattle.memory_rings.specs.Links.{half, nexts, prevs}
use Rattle.memory_rings.specs.Rings.{IsId}
use Rattle.check_links.specs.declared.Table.{Table}
use Rattle.check_links.specs.declared.Table.TheVariants.{Homes, Masks}
use Rattle.check_links.specs.Survey.{counted, filled, bits, is_set, ids_of, housed, belongs, marked, owns, covers, Covered, most_entries, toured, surveyed, from, ranged, budget}
use Rattle.check_links.proofs.Counts.{counted_same}

-- ---- counts

-- the zeros among the first i, and the rest
pub filled_on : (l : List ℕ) (i n : ℕ) {k : ℕ} → n + filled i l ≡ i → k ≡ once (eqb (get_or l i 0) 0) → n + k + filled (i + 1) l ≡ i + 1
unfolding counted
filled_on l i n {k} e d = rw add-one (go (eqb (get_or l i 0) 0) d)
  where
    go : (t : Bool) → k ≡ once t → n + k + (filled i l + once (not t)) ≡ suc i
    go true d = omega (arith, e, d)
    go false d = omega (arith, e, d)

zeros_upto : (l : List ℕ) (i : ℕ) → i ≤ length l → sum_by (λ x. once (eqb x 0)) (take i l) + filled i l ≡ i
unfolding counted
zeros_upto l zero h = refl
zeros_upto l (suc i) h =
    let r : sum_by (λ x. once (eqb x 0)) (take (i + 1) l) + filled (i + 1) l ≡ i + 1 = rw (sum_by_more (λ x. once (eqb x 0)) l i 0 h) (filled_on l i _ (zeros_upto l i (omega arith)) refl) in
    rw add-one at r

-- and of all
pub zeros_are : (l : List ℕ) → sum_by (λ x. once (eqb x 0)) l + filled (length l) l ≡ length l
zeros_are l = rw (take_all (length l) l (omega arith)) at (zeros_upto l (length l) (omega arith))

-- ---- tables

pub ids_few : (t : Table) (l : List ℕ) → ids_of t l ≤ bits * length l
ids_few (Homes s) l = omega arith
ids_few Masks l = omega arith

-- k is what node y is behind node p, round 2^64
module _ (m p y k : ℕ) (short : p ≤ 4294967296) (round : (k + p) % 2 ^ 64 ≡ y) (fits : k < 2 ^ 64) where
  pub mark_far : bits ≤ k → false ≡ marked m p y
  unfolding marked
  mark_far h = elim (dec_le p y) [
    | yes a ↦ simp (le-ltb y (p + bits) (omega (arith, round)), and-false)
    | no a ↦ rw (lt-leb p y (omega arith))
  ]

  pub mark_near : k < bits → is_set m k ≡ marked m p y
  unfolding marked
  mark_near h =
      let d : y - p ≡ k = omega (arith, round) in
      rw (le-leb p y (omega (arith, round)), lt-ltb y (p + bits) (omega (arith, round)), d)

-- one that belongs to a ring is an id
marked_id : (l : List ℕ) (i y : ℕ) → marked (get_or l i 0) (bits * i + 1) y ≡ true → IsId (bits * length l) y
unfolding marked
marked_id l i y e =
    let p = and_of (leb (bits * i + 1) y) (ltb y (bits * i + 1 + bits) && is_set (get_or l i 0) (y - (bits * i + 1))) e in
    let q = and_of (ltb y (bits * i + 1 + bits)) (is_set (get_or l i 0) (y - (bits * i + 1))) p.1 in
    elim (dec_le (length l) i) [
      | yes h ↦ absurd (none (subst (λ (m : ℕ). is_set m (y - (bits * i + 1)) ≡ true) (get_or-eq_default l 0 h) q.1))
      | no h ↦ (omega (arith, leb-true (bits * i + 1) y p.0), omega (arith, ltb-true y (bits * i + 1 + bits) q.0))
    ]
  where
    none : is_set 0 (y - (bits * i + 1)) ≡ true → ⊥
    none z = omega (arith, eqb-true ((0 / 2 ^ (y - (bits * i + 1))) % 2) 1 z, zero-div (2 ^ (y - (bits * i + 1))))

pub own_id : (t : Table) (l : List ℕ) (p a y : ℕ) → owns t l p a y ≡ true → IsId (ids_of t l) y
unfolding belongs
own_id (Homes s) l p a y e =
    let q = and_of (leb 1 y) (leb y (length l) && eqb (of l y 0) (a - s)) e in
    (leb-true 1 y q.0, leb-true y (length l) (and_of (leb y (length l)) (eqb (of l y 0) (a - s)) q.1).0)
own_id Masks l p a y e = marked_id l (a - p) y e

-- and so a node
pub node : (t : Table) (l : List ℕ) (p a y : ℕ) {n : ℕ} {r : Bool} → r ≡ owns t l p a y → not r ≡ false → ids_of t l < n → y < n
node t l p a y {n} {r} e h k = let i = own_id t l p a y (sym e ∙ not-false r h) in omega (arith, i.1)

-- an anchor of those covered is covered
pub covered : (t : Table) (l : List ℕ) (p n a : ℕ) → covers t l p n ≡ true → p ≤ a → a < p + n → Covered t l p a
covered (Homes s) l p n a e h k = omega (arith, leb-true s p e)
covered Masks l p n a e h k = (h, omega (arith, leb-true n (length l) e))

-- ---- tour

module _ (f : ℕ → Bool) (nx pv : List ℕ) (a k x : ℕ) where
  pub tour_spent : k ≤ 0 → 0 ≡ toured k f nx pv a x
  unfolding toured
  tour_spent h = let e : k ≡ 0 = omega arith in rw e

  module _ {y : ℕ} (hk : 0 < k) (ey : y ≡ get_or nx x 0) where
    less : k ≡ suc (k - 1)
    less = omega arith

    -- y is the anchor
    module _ {p : ℕ} (ea : y ≡ a) (ep : p ≡ get_or pv a 0) where
      pub tour_open : p ≢ x → 0 ≡ toured k f nx pv a x
      unfolding toured
      tour_open h = rw (less, ← ey, eq-eqb y a ea, ← ep, ne_eqb p x h)

      pub tour_closed : p ≡ x → k ≡ toured k f nx pv a x
      unfolding toured
      tour_closed h = rw (less, ← ey, eq-eqb y a ea, ← ep, eq-eqb p x h)

    -- it is another node
    module _ {t : Bool} (na : y ≢ a) (et : t ≡ f y) where
      pub tour_strays : not t ≡ true → 0 ≡ toured k f nx pv a x
      unfolding toured
      tour_strays h = rw (less, ← ey, ne_eqb y a na, sym et ∙ not-true t h)

      module _ {p : ℕ} (ht : not t ≡ false) (ep : p ≡ get_or pv y 0) where
        own : f y ≡ true
        own = sym et ∙ not-false t ht

        pub tour_turned : p ≢ x → 0 ≡ toured k f nx pv a x
        unfolding toured
        tour_turned h = rw (less, ← ey, ne_eqb y a na, own, ← ep, ne_eqb p x h)

        pub tour_on : p ≡ x → toured (k - 1) f nx pv a y ≡ toured k f nx pv a x
        unfolding toured
        tour_on h = (rw (← ey, ne_eqb y a na, own, ← ep, eq-eqb p x h)) ∙ ap (λ (j : ℕ). toured j f nx pv a x) (sym less)

-- an empty ring
module _ (f : ℕ → Bool) (nx pv : List ℕ) (a k : ℕ) {y p : ℕ} (ey : y ≡ get_or nx a 0) (ea : y ≡ a) (ep : p ≡ get_or pv a 0) where
  pub ring_empty : p ≡ a → k ≡ toured k f nx pv a a
  unfolding toured
  ring_empty h = elim (ℕ_discrete k 0) [ yes z ↦ rw z | no z ↦ tour_closed f nx pv a k a (omega arith) ey ea ep h ]

  pub ring_open : p ≢ a → 0 ≡ toured k f nx pv a a
  unfolding toured
  ring_open h = elim (ℕ_discrete k 0) [ yes z ↦ rw z | no z ↦ tour_open f nx pv a k a (omega arith) ey ea ep h ]

-- ---- survey

module _ (f : ℕ → ℕ → Bool) (nx pv : List ℕ) where
  -- a budget of nothing stays nothing
  pub survey_zero : (qs : List ℕ) → surveyed f nx pv qs 0 ≡ 0
  unfolding surveyed toured
  survey_zero [] = refl
  survey_zero (a ∷ qs) = survey_zero qs

  module _ (b e k : ℕ) where
    pub survey_done : e ≤ b → k ≡ surveyed f nx pv (from b (e - b)) k
    unfolding surveyed from
    survey_done h = let z : e - b ≡ 0 = omega arith in rw z

    module _ (h : b < e) {k₁ : ℕ} (d : k₁ ≡ toured k (f b) nx pv b b) where
      pub survey_on : surveyed f nx pv (from (b + 1) (e - (b + 1))) k₁ ≡ surveyed f nx pv (from b (e - b)) k
      unfolding surveyed from
      survey_on = let z : e - b ≡ suc (e - (b + 1)) = omega arith in rw (z, d, add-one)

      pub survey_stopped : k₁ ≡ 0 → 0 ≡ surveyed f nx pv (from b (e - b)) k
      survey_stopped z = sym (ap (surveyed f nx pv (from (b + 1) (e - (b + 1)))) z ∙ survey_zero (from (b + 1) (e - (b + 1)))) ∙ survey_on

module _ (ls : List ℕ) (t : Table) (l : List ℕ) (p n k : ℕ) where
  pub range_long : most_entries < length l → 0 ≡ ranged ls t l p n k
  unfolding ranged
  range_long h = rw (lt-leb (length l) most_entries h)

  pub range_ids : {m : ℕ} → m ≡ ids_of t l → half ls ≤ m → 0 ≡ ranged ls t l p n k
  unfolding ranged
  range_ids e h = simp (le-ltb (ids_of t l) (half ls) (omega arith), and-false)

  pub range_over : half ls < p + n → 0 ≡ ranged ls t l p n k
  unfolding ranged
  range_over h = simp (lt-leb (p + n) (half ls) h, and-false)

  pub range_bare : {r : Bool} → r ≡ covers t l p n → not r ≡ true → 0 ≡ ranged ls t l p n k
  unfolding ranged
  range_bare {r} e h = simp (sym e ∙ not-true r h, and-false)

  module _ (few : length l ≤ most_entries) (room : ids_of t l < half ls) (i : p + n ≤ half ls) (c : covers t l p n ≡ true) where
    pub ranged_is : ranged ls t l p n k ≡ surveyed (owns t l p) (nexts ls) (prevs ls) (from p n) k
    unfolding ranged
    ranged_is = rw (le-leb (length l) most_entries few, lt-ltb (ids_of t l) (half ls) room, le-leb (p + n) (half ls) i, c)

    pub range_start : surveyed (owns t l p) (nexts ls) (prevs ls) (from p (p + n - p)) k ≡ ranged ls t l p n k
    range_start = let e : p + n - p ≡ n = omega arith in rw e (sym ranged_is)

-- The survey from anchor b on, of those of p on, with k left: r is what the whole leaves.
pub record Surveying (ls : List ℕ) (t : Table) (l : List ℕ) (p n b k r : ℕ) : Type 0 where
  pub few : length l ≤ most_entries
  pub room : ids_of t l < half ls
  pub nodes : p + n ≤ half ls
  pub has : covers t l p n ≡ true
  pub low : p ≤ b
  pub high : b ≤ p + n
  pub rest : surveyed (owns t l p) (nexts ls) (prevs ls) (from b (p + n - b)) k ≡ r

pub survey_start : (ls : List ℕ) (t : Table) (l : List ℕ) (p n k : ℕ) {m : ℕ} {r : Bool} → length l ≤ most_entries → m ≡ ids_of t l → m < half ls → p + n ≤ half ls → r ≡ covers t l p n → not r ≡ false
    → Surveying ls t l p n p k (ranged ls t l p n k)
survey_start ls t l p n k {r = r} few em room i e h =
    let c : covers t l p n ≡ true = sym e ∙ not-false r h in
    let o : ids_of t l < half ls = omega arith in
    record { few = few; room = o; nodes = i; has = c; low = omega arith; high = omega arith; rest = range_start ls t l p n k few o i c }

module _ (ls : List ℕ) (t : Table) (l : List ℕ) (p n b k r : ℕ) (S : Surveying ls t l p n b k r) where
  pub survey_left : p + n ≤ b → k ≡ r
  survey_left h = survey_done (owns t l p) (nexts ls) (prevs ls) b (p + n) k h ∙ S.rest

  module _ (h : b < p + n) where
    pub anchor_node : b < half ls
    anchor_node = omega (arith, S.nodes)

    pub anchor_covered : Covered t l p b
    anchor_covered = covered t l p n b S.has S.low h

    module _ {k₁ : ℕ} (d : k₁ ≡ toured k (owns t l p b) (nexts ls) (prevs ls) b b) where
      pub survey_next : Surveying ls t l p n (b + 1) k₁ r
      survey_next = record {
        few = S.few;
        room = S.room;
        nodes = S.nodes;
        has = S.has;
        low = omega (arith, S.low);
        high = omega (arith, h);
        rest = survey_on (owns t l p) (nexts ls) (prevs ls) b (p + n) k h d ∙ S.rest;
      }

      pub survey_ends : k₁ ≡ 0 → 0 ≡ r
      survey_ends z = survey_stopped (owns t l p) (nexts ls) (prevs ls) b (p + n) k h d z ∙ S.rest

-- ---- budget

module _ (ls : List ℕ) (t : Table) (l : List ℕ) where
  abbrev held : ℕ
  held = counted (ids_of t l) (housed t l)

  pub budget_long : most_entries < length l → 0 ≡ budget ls t l
  unfolding budget
  budget_long h = rw (lt-leb (length l) most_entries h)

  pub budget_short : {n : ℕ} → n ≡ ids_of t l → length ls ≤ n → 0 ≡ budget ls t l
  unfolding budget
  budget_short e h = simp (le-ltb (ids_of t l) (length ls) (omega arith), and-false)

  module _ (few : length l ≤ most_entries) (k : ids_of t l < length ls) where
    pub budget_of : budget ls t l ≡ cond (eqb (filled (ids_of t l) (drop 1 ls)) held) (suc held) 0
    unfolding budget
    budget_of = rw (le-leb (length l) most_entries few, lt-ltb (ids_of t l) (length ls) k)

  module _ (few : length l ≤ most_entries) {n : ℕ} (en : n ≡ ids_of t l) (k : n < length ls) {all linked : ℕ} (ea : all ≡ held)
      (el : linked ≡ filled (length (take (n + 1 - 1) (drop 1 ls))) (take (n + 1 - 1) (drop 1 ls))) where
    part : linked ≡ filled (ids_of t l) (drop 1 ls)
    part =
        let e : n + 1 - 1 ≡ n = omega arith in
        let long : length (take n (drop 1 ls)) ≡ n = length-take-le n (drop 1 ls) (simp length-drop (omega arith)) in
        (rw (e, long) at el) ∙ counted_same n _ _ (λ i h. ap (λ (x : ℕ). not (eqb x 0)) (entry i h)) ∙ ap (λ (j : ℕ). filled j (drop 1 ls)) en
      where
        entry : (i : ℕ) → IsId n i → of (take n (drop 1 ls)) i 0 ≡ of (drop 1 ls) i 0
        entry zero h = refl
        entry (suc i) h = get_or-take n (drop 1 ls) i 0 h.1

    pub budget_is : linked ≡ all → all + 1 ≡ budget ls t l
    budget_is e = sym (budget_of few (omega arith) ∙ rw (← ea, ← part, eq-eqb linked all e, add-one))

    pub budget_none : linked ≢ all → 0 ≡ budget ls t l
    budget_none e = sym (budget_of few (omega arith) ∙ rw (← ea, ← part, ne_eqb linked all e))
