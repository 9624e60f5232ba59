-- Counting ids: a list of distinct ids that pass a test is at most as long as the count of those that pass it, and holds each of them just where
-- it is as long. Assumes nothing.
use Rattle.std.proofs.Common.{◌≡◌, ℕ, zero, suc, ◌+◌, ◌≤◌, Bool, true, false, not, ◌&&◌, eqb, ◌≢◌, List, [], ◌∷◌, length, sym, refl, ap, ◌∙◌, inl, inr, true≢false, arith, eq-eqb, ne_eqb}
use mathlib.Core.Bool.{and-true}
use native.Mathlib.Decide.{ℕ_discrete}
use Rattle.rules.specs.Ids.{once}
use Rattle.memory_rings.specs.Rings.{IsId, All, Stands, Distinct}
use Rattle.check_links.specs.Survey.{counted}
use Rattle.memory_rings.proofs.Lists.{and_of, all_at, all_of, stands_or_out}

pub counted_same : (n : ℕ) (f g : ℕ → Bool) → ((i : ℕ) → IsId n i → f i ≡ g i) → counted n f ≡ counted n g
unfolding counted
counted_same zero f g h = refl
counted_same (suc n) f g h = λ z. counted_same n f g (λ i k. h i (k.0, omega arith)) z + once (h (suc n) (omega arith, omega arith) z)

counted_none : (n : ℕ) (f : ℕ → Bool) → ((i : ℕ) → IsId n i → f i ≡ false) → counted n f ≡ 0
unfolding counted
counted_none zero f h = refl
counted_none (suc n) f h = rw (counted_none n f (λ i k. h i (k.0, omega arith)), h (suc n) (omega arith, omega arith))

pub counted_few : (n : ℕ) (f : ℕ → Bool) → counted n f ≤ n
unfolding counted
counted_few zero f = omega arith
counted_few (suc n) f = omega (arith, counted_few n f, at_most_one (f (suc n)))
  where
    at_most_one : (t : Bool) → once t ≤ 1
    at_most_one true = omega arith
    at_most_one false = omega arith

-- the test, and it is not x
abbrev but : ℕ → (ℕ → Bool) → ℕ → Bool
but x f i = f i && not (eqb x i)

but_other : (x : ℕ) (f : ℕ → Bool) (i : ℕ) → x ≢ i → f i ≡ but x f i
but_other x f i ne = rw (ne_eqb x i ne) (sym (and-true (f i)))

-- one less
counted_less : (n : ℕ) (f : ℕ → Bool) (x : ℕ) → IsId n x → f x ≡ true → suc (counted n (but x f)) ≤ counted n f
unfolding counted
counted_less zero f x k e = absurd (omega arith)
counted_less (suc n) f x k e = elim (ℕ_discrete x (suc n)) [
  | yes q ↦ let s = counted_same n f (but x f) (λ i j. but_other x f i (λ z. omega (arith, j.1))) in
      rw (← q, e, eq-eqb x x refl) (omega (arith, s))
  | no ne ↦ let s = counted_less n f x (k.0, omega (arith, ne)) e in
      rw (← but_other x f (suc n) ne) (omega (arith, s))
]

counted_most : (n : ℕ) (f : ℕ → Bool) (x : ℕ) → counted n f ≤ suc (counted n (but x f))
unfolding counted
counted_most zero f x = omega arith
counted_most (suc n) f x = elim (ℕ_discrete x (suc n)) [
  | yes q ↦ let s = counted_same n f (but x f) (λ i j. but_other x f i (λ z. omega (arith, j.1))) in omega (arith, s, at_most_one (f (suc n)))
  | no ne ↦ rw (← but_other x f (suc n) ne) (omega (arith, counted_most n f x))
]
  where
    at_most_one : (t : Bool) → once t ≤ 1
    at_most_one true = omega arith
    at_most_one false = omega arith

module _ (n : ℕ) where
  pub at_most_lem : (f : ℕ → Bool) (xs : List ℕ) → Distinct xs → All (λ i. IsId n i × (f i ≡ true)) xs → length xs ≤ counted n f
  at_most_lem f [] d k = omega arith
  at_most_lem f (x ∷ xs) d k =
      let h = at_most_lem (but x f) xs d.1 (all_of _ xs (λ i s. let q = all_at _ xs i s k.1 in (q.0, sym (but_other x f i (λ e. all_at (λ z. z ≢ x) xs i s d.0 (sym e))) ∙ q.1))) in
      omega (arith, h, counted_less n f x k.0.0 k.0.1)

  pub at_least : (f : ℕ → Bool) (xs : List ℕ) → ((i : ℕ) → IsId n i → f i ≡ true → Stands i xs) → counted n f ≤ length xs
  at_least f [] h = omega (arith, counted_none n f (λ i k. none (f i) (h i k)))
    where
      none : (t : Bool) → (t ≡ true → ⊥) → t ≡ false
      none true g = absurd (g refl)
      none false g = refl
  at_least f (x ∷ xs) h = omega (arith, counted_most n f x, at_least (but x f) xs rest)
    where
      rest : (i : ℕ) → IsId n i → but x f i ≡ true → Stands i xs
      rest i k e = let p = and_of (f i) (not (eqb x i)) e in elim (h i k p.0) [ inl q ↦ absurd (true≢false (sym p.1 ∙ ap not (eq-eqb x i q))) | inr s ↦ s ]

  -- as long as the count: all that pass are there
  pub all_there : (f : ℕ → Bool) (xs : List ℕ) → Distinct xs → All (λ i. IsId n i × (f i ≡ true)) xs → length xs ≡ counted n f → (i : ℕ) → IsId n i → f i ≡ true → Stands i xs
  all_there f xs d k e i h t = elim (stands_or_out i xs) [ inl s ↦ s | inr o ↦ absurd (omega (arith, at_most_lem f (i ∷ xs) (o, d) ((h, t), k))) ]

  pub as_many : (f : ℕ → Bool) (xs : List ℕ) → Distinct xs → All (λ i. IsId n i × (f i ≡ true)) xs → ((i : ℕ) → IsId n i → f i ≡ true → Stands i xs) → counted n f ≡ length xs
  as_many f xs d k h = omega (arith, at_most_lem f xs d k, at_least f xs h)
