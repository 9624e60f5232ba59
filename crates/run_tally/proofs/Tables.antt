-- Tables row by row, from a place on; the place of a code. Assumes nothing.
use mathlib.Core.List.{List, [], ◌∷◌}
use mathlib.Core.Path.{◌≡◌, refl, sym, ap, ◌∙◌}
use Prim.Native.Nat.{ℕ, zero, suc, ◌+◌, ◌-◌, ◌≤◌, ◌<◌}
use native.Mathlib.Omega.{arith}
use lib.IntN.{ℤ}
use lib.ListN.{length, get_or, set, take}
use borrow.Author.Tests.{lt-ltb, le-ltb}
use native.Mathlib.Numerals.{add-one}
use borrow.Rule.Slice.PartMut.{put_mid}
use Rattle.std.proofs.lemmas.List.{get_or-take, length-take-le, get_or-append_right}
use Rattle.std.proofs.Math.ListN.{get_or-append}
use Rattle.run_tally.specs.Tables.{more, raised, states, table_counted, place_in}
use Rattle.rules.proofs.Numbers.{same_true, same_false}

pub raised_in : (size : ℕ) (l : List ℕ) (i : ℕ) → i < size → raised size l i ≡ set l i (more (get_or l i 0))
unfolding raised
raised_in size l i h = rw (lt-ltb i size h)

pub raised_out : (size : ℕ) (l : List ℕ) (i : ℕ) → size ≤ i → raised size l i ≡ l
unfolding raised
raised_out size l i h = rw (le-ltb i size h)

-- ---- rows: those before i are counted

unfoldable pub onward : ℕ → ℕ → (ℕ → ℕ) → List (List ℕ) → List (List ℕ)
onward zero n f t = table_counted n f t
onward (suc i) zero f t = t
onward (suc i) (suc n) f [] = []
onward (suc i) (suc n) f (r ∷ t) = r ∷ onward i n (λ k. f (suc k)) t

pub onward_start : (n : ℕ) (f : ℕ → ℕ) (t : List (List ℕ)) → onward 0 n f t ≡ table_counted n f t
unfolding onward
onward_start n f t = refl

next : (i n : ℕ) (f : ℕ → ℕ) (t : List (List ℕ)) → i < n → onward (suc i) n f (set t i (raised states (get_or t i []) (f i))) ≡ onward i n f t
unfolding onward table_counted
next i zero f t h = absurd (omega (arith, h))
next zero (suc n) f [] h = refl
next (suc i) (suc n) f [] h = refl
next zero (suc n) f (r ∷ t) h = refl
next (suc i) (suc n) f (r ∷ t) h = ap (λ (x : List (List ℕ)). r ∷ x) (next i n (λ k. f (suc k)) t (omega (arith, h)))

pub onward_end : (i n : ℕ) (f : ℕ → ℕ) (t : List (List ℕ)) → n ≤ i → onward i n f t ≡ t
unfolding onward table_counted
onward_end zero zero f t h = refl
onward_end zero (suc n) f t h = absurd (omega (arith, h))
onward_end (suc i) zero f t h = refl
onward_end (suc i) (suc n) f [] h = refl
onward_end (suc i) (suc n) f (r ∷ t) h = ap (λ (x : List (List ℕ)). r ∷ x) (onward_end i n (λ k. f (suc k)) t (omega (arith, h)))

set_own : {A : Type 0} (l : List A) (i : ℕ) (d : A) → set l i (get_or l i d) ≡ l
set_own [] i d = refl
set_own (y ∷ l) zero d = refl
set_own {A} (y ∷ l) (suc i) d = ap (λ (m : List A). y ∷ m) (set_own l i d)

module _ (i n : ℕ) (f : ℕ → ℕ) (t : List (List ℕ)) (h : i < n) {s : ℕ} (e : s ≡ f i) where
  pub onward_next : s < states → onward (i + 1) n f (set t i (set (get_or t i []) s (more (get_or (get_or t i []) s 0)))) ≡ onward i n f t
  onward_next k =
      rw (add-one i, ← (raised_in states (get_or t i []) s k), e) (next i n f t h)

  -- a state that no row has
  pub onward_skip : states ≤ s → onward (i + 1) n f t ≡ onward i n f t
  onward_skip k =
      let u : set t i (raised states (get_or t i []) (f i)) ≡ t = ap (set t i) (raised_out states (get_or t i []) (f i) (rw e at k)) ∙ set_own t i [] in
      ap (λ (j : ℕ). onward j n f t) (add-one i) ∙ ap (onward (suc i) n f) (sym u) ∙ next i n f t h

-- ---- codes

module _ (c : ℤ) where
  pub place_none : place_in [] c ≡ 0
  unfolding place_in
  place_none = refl

  pub place_here : (x : ℤ) (l : List ℤ) → x ≡ c → place_in (x ∷ l) c ≡ 0
  unfolding place_in
  place_here x l e = rw (same_true x c e)

  pub place_next : (x : ℤ) (l : List ℤ) → (x ≡ c → ⊥) → place_in (x ∷ l) c ≡ place_in l c + 1
  unfolding place_in
  place_next x l e = rw (same_false x c e) (sym (add-one _))

-- ---- what is written behind the first a

module _ (a k : ℕ) (xs ys : List ℕ) (h : a ≤ length xs) where
  pub put_before : (j : ℕ) → j < a → get_or (put_mid a k xs ys) j 0 ≡ get_or xs j 0
  put_before j l =
      let n : length (take a xs) ≡ a = length-take-le a xs h in
      get_or-append (take a xs) _ 0 j (omega (arith, n, l)) ∙ get_or-take a xs j 0 l

  pub put_behind : (j : ℕ) → j < length ys → get_or (put_mid a k xs ys) (a + j) 0 ≡ get_or ys j 0
  put_behind j l =
      let n : length (take a xs) ≡ a = length-take-le a xs h in
      let e : a + j - a ≡ j = omega arith in
      get_or-append_right (take a xs) _ a (a + j) 0 n (omega arith) ∙ rw e (get_or-append ys _ 0 j l)
