-- The walk along the links at one node: it has come back, it has come to what is no id, or it goes on. Assumes nothing.
use mathlib.Core.Bool.{Bool, true, false, cond, ◌&&◌}
use mathlib.Core.List.{List, [], ◌∷◌}
use mathlib.Core.Logic.{◌≢◌}
use mathlib.Core.Path.{◌≡◌, refl, sym, ap, ◌∙◌}
use Prim.Native.Nat.{ℕ, zero, suc, ◌+◌, ◌-◌, ◌≤◌, ◌<◌}
use native.Mathlib.Numerals.{add-one, sub-one}
use native.Mathlib.Nat.{zero-add}
use native.Mathlib.Omega.{arith}
use lib.Dec.{eqb}
use lib.ListN.{get_or}
use borrow.Author.Tests.{eq-eqb, ne_eqb, le-leb, lt-leb}
use Rattle.rules.specs.Ids.{once, times}
use Rattle.memory_rings.specs.Rings.{walk, line_of}
use Rattle.check_ranges.specs.Ranges.{within}
use Rattle.check_lines.specs.Lists.{shows, known, at_most_once}

module _ (n : ℕ) (nx : List ℕ) (a : ℕ) where
  spent : (left x : ℕ) → left ≤ 0 → walk left n nx a x ≡ []
  unfolding walk
  spent zero x h = refl
  spent (suc left) x h = absurd (omega arith)

  back : (left x : ℕ) → x ≡ a → walk left n nx a x ≡ []
  unfolding walk
  back zero x e = refl
  back (suc left) x e = rw (eq-eqb x a e)

  stray : (left x : ℕ) → 0 < left → x ≢ a → within x n ≡ false → walk left n nx a x ≡ x ∷ []
  unfolding walk
  stray zero x h d e = absurd (omega arith)
  stray (suc left) x h d e = rw (ne_eqb x a d, e)

  on : (left x : ℕ) → 0 < left → x ≢ a → within x n ≡ true → walk left n nx a x ≡ x ∷ walk (left - 1) n nx a (get_or nx x 0)
  unfolding walk
  on zero x h d e = absurd (omega arith)
  on (suc left) x h d e = rw (ne_eqb x a d, e, sub-one)

  -- ---- all nodes show numbers

  module _ (low m : ℕ) where
    -- what is left of the walk decides as the whole line does
    abbrev pub Deciding : ℕ → ℕ → Type 0
    Deciding left x = known low m (walk left n nx a x) ≡ known low m (line_of n nx a)

    pub deciding_starts : {x : ℕ} → x ≡ get_or nx a 0 → Deciding (n + 1) x
    unfolding line_of
    deciding_starts e = rw (e, add-one)

    module _ (left x : ℕ) (g : Deciding left x) where
      pub known_spent : left ≤ 0 → true ≡ known low m (line_of n nx a)
      unfolding known
      known_spent h = ap (known low m) (sym (spent left x h)) ∙ g

      pub known_back : x ≡ a → true ≡ known low m (line_of n nx a)
      unfolding known
      known_back e = ap (known low m) (sym (back left x e)) ∙ g

      module _ (h : 0 < left) (d : x ≢ a) where
        -- the rest of the walk from x on, whatever it is
        behind : List ℕ
        behind = cond (within x n) (walk (left - 1) n nx a (get_or nx x 0)) []

        from_here : walk left n nx a x ≡ x ∷ behind
        unfolding behind
        from_here = go (within x n) refl
          where
            go : (t : Bool) → within x n ≡ t → walk left n nx a x ≡ x ∷ cond t (walk (left - 1) n nx a (get_or nx x 0)) []
            go true e = on left x h d e
            go false e = stray left x h d e

        test : (shows low m x && known low m behind) ≡ known low m (line_of n nx a)
        unfolding known
        test = ap (known low m) (sym from_here) ∙ g

        pub known_wrong : shows low m x ≡ false → false ≡ known low m (line_of n nx a)
        known_wrong e = ap (λ t. t && known low m behind) (sym e) ∙ test

        module _ (s : shows low m x ≡ true) where
          rest : known low m behind ≡ known low m (line_of n nx a)
          rest = ap (λ t. t && known low m behind) (sym s) ∙ test

          pub known_stray : within x n ≡ false → true ≡ known low m (line_of n nx a)
          unfolding known behind
          known_stray e = rw e at rest

          pub known_on : within x n ≡ true → {y : ℕ} → y ≡ get_or nx x 0 → Deciding (left - 1) y
          unfolding behind
          known_on e f = rw f (rw e at rest)

  -- ---- how often i stands there

  module _ (i : ℕ) where
    -- found so far, and in what is left of the walk
    abbrev pub Counting : ℕ → ℕ → ℕ → Type 0
    Counting found left x = (found + times i (walk left n nx a x) ≡ times i (line_of n nx a)) × (found + left ≤ n + 1)

    pub counting_starts : {x : ℕ} → x ≡ get_or nx a 0 → Counting 0 (n + 1) x
    unfolding line_of
    counting_starts e = (rw (e, add-one, zero-add), omega arith)

    module _ (found left x : ℕ) (g : Counting found left x) where
      pub count_spent : left ≤ 0 → found ≡ times i (line_of n nx a)
      unfolding times
      count_spent h = let e : times i (walk left n nx a x) ≡ 0 = ap (times i) (spent left x h) in omega (arith, g.0)

      pub count_back : x ≡ a → found ≡ times i (line_of n nx a)
      unfolding times
      count_back r = let e : times i (walk left n nx a x) ≡ 0 = ap (times i) (back left x r) in omega (arith, g.0)

      module _ (h : 0 < left) (d : x ≢ a) {k : ℕ} (ek : k ≡ once (eqb x i)) where
        pub count_stray : within x n ≡ false → found + k ≡ times i (line_of n nx a)
        unfolding times
        count_stray w = let e : times i (walk left n nx a x) ≡ once (eqb x i) + 0 = ap (times i) (stray left x h d w) in omega (arith, g.0, ek)

        pub count_on : within x n ≡ true → {y : ℕ} → y ≡ get_or nx x 0 → Counting (found + k) (left - 1) y
        unfolding times
        count_on w {y} f =
            let e : times i (walk left n nx a x) ≡ once (eqb x i) + times i (walk (left - 1) n nx a (get_or nx x 0)) = ap (times i) (on left x h d w) in
            let o : once (eqb x i) ≤ 1 = once_one (eqb x i) in
            (rw f (omega (arith, g.0, ek)), omega (arith, g.1, ek))
          where
            once_one : (t : Bool) → once t ≤ 1
            once_one true = omega arith
            once_one false = omega arith

-- ---- at most once in several lines

module _ (n : ℕ) (nx : List ℕ) (i before count : ℕ) where
  -- the lines that are left decide as all of them do
  abbrev pub Summing : ℕ → ℕ → Type 0
  Summing found o = (o ≤ count) × (found ≤ 1) × (at_most_once n nx i before found (o + 1) (count - o) ≡ at_most_once n nx i before 0 1 count)

  module _ (found o : ℕ) (g : Summing found o) where
    pub sum_done : count ≤ o → true ≡ at_most_once n nx i before 0 1 count
    unfolding at_most_once
    sum_done h = let z : count - o ≡ 0 = omega (arith, h) in rw z at g.2

    module _ (h : o < count) {k : ℕ} (d : k ≡ times i (line_of n nx (before + o + 1))) where
      e : k ≡ times i (line_of n nx (before + (o + 1)))
      e = d ∙ ap (λ (x : ℕ). times i (line_of n nx x)) (omega arith)

      one : at_most_once n nx i before found (o + 1) (suc (count - (o + 1))) ≡ at_most_once n nx i before 0 1 count
      one = let z : count - o ≡ suc (count - (o + 1)) = omega (arith, h) in rw z at g.2

      pub sum_fails : 1 < found + k → false ≡ at_most_once n nx i before 0 1 count
      unfolding at_most_once
      sum_fails m = rw (← e, lt-leb (found + k) 1 m) at one

      pub sum_on : found + k ≤ 1 → Summing (found + k) (o + 1)
      unfolding at_most_once
      sum_on m = (omega (arith, h), m, rw add-one (rw (← e, le-leb (found + k) 1 m) at one))
