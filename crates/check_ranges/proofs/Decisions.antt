-- Tests decide statements: how `&&`, `||`, `cond`, `every` and the tests of numbers do. Assumes nothing.
use mathlib.Core.Bool.{Bool, true, false, cond, not, ◌&&◌, ◌||◌, true≢false, false≢true}
use mathlib.Core.Logic.{◌↔◌, ◌⊎◌, inl, inr, ◌≢◌}
use mathlib.Core.Path.{◌≡◌, refl, sym, ◌∙◌}
use Prim.Native.Nat.{ℕ, zero, suc, ◌≤◌, ◌<◌, ◌+◌}
use native.Mathlib.Decide.{ℕ_discrete}
use native.Mathlib.Omega.{arith}
use lib.Dec.{eqb, leb, ltb}
use borrow.Author.Tests.{eqb-true, eqb-false, leb-true, ltb-true, eq-eqb, ne_eqb, le-leb, lt-ltb}
use Rattle.rules.specs.Ids.{In}
use Rattle.check_ranges.specs.Ranges.{every, within}

-- the test says whether A holds
abbrev pub Decides : Bool → Type 0 → Type 0
Decides t A = (t ≡ true) ↔ A

-- the same statement in other words
pub decides_as : {t : Bool} {A B : Type 0} → Decides t A → (A → B) → (B → A) → Decides t B
decides_as d f g = ((λ e. f (d.0 e)), (λ x. d.1 (g x)))

pub decides_no : {A : Type 0} → (A → ⊥) → Decides false A
decides_no f = ((λ e. absurd (false≢true e)), (λ x. absurd (f x)))

pub decides_yes : {A : Type 0} → A → Decides true A
decides_yes x = ((λ e. x), (λ y. refl))

-- the second test may rest on what the first has said
pub decides_and : {s t : Bool} {A B : Type 0} → Decides s A → (A → Decides t B) → Decides (s && t) (A × B)
decides_and {s} {t} {A} {B} d f = go s refl
  where
    go : (r : Bool) → s ≡ r → Decides (r && t) (A × B)
    go true e = let x : A = d.0 e in ((λ q. (x, (f x).0 q)), (λ y. (f x).1 y.1))
    go false e = decides_no (λ y. true≢false (sym (d.1 y.0) ∙ e))

pub decides_or : {s t : Bool} {A B : Type 0} → Decides s A → Decides t B → Decides (s || t) (A ⊎ B)
decides_or {s} {t} {A} {B} d f = go s refl
  where
    go : (r : Bool) → s ≡ r → Decides (r || t) (A ⊎ B)
    go true e = decides_yes (inl (d.0 e))
    go false e = ((λ q. inr (f.0 q)), back)
      where
        back : A ⊎ B → t ≡ true
        back (inl x) = absurd (true≢false (sym (d.1 x) ∙ e))
        back (inr y) = f.1 y

-- a choice on both sides by the same test
pub decides_cond : {A : Type 0} (P : A → Type 0) (t : Bool) {s r : Bool} {a c : A} → Decides s (P a) → Decides r (P c) → Decides (cond t s r) (P (cond t a c))
decides_cond P true d e = d
decides_cond P false d e = e

pub decides_not : (t : Bool) → Decides (not t) (t ≡ false)
decides_not true = ((λ e. sym e), (λ e. sym e))
decides_not false = ((λ e. refl), (λ e. refl))

-- ---- numbers

pub decides_eq : (a b : ℕ) → Decides (eqb a b) (a ≡ b)
decides_eq a b = (eqb-true a b, eq-eqb a b)

pub decides_ne : (a b : ℕ) → Decides (not (eqb a b)) (a ≢ b)
decides_ne a b = decides_as (decides_not (eqb a b)) (eqb-false a b) (ne_eqb a b)

pub decides_le : (a b : ℕ) → Decides (leb a b) (a ≤ b)
decides_le a b = (leb-true a b, le-leb a b)

pub decides_lt : (a b : ℕ) → Decides (ltb a b) (a < b)
decides_lt a b = (ltb-true a b, lt-ltb a b)

pub decides_in : (i n : ℕ) → Decides (within i n) (In i n)
decides_in i n = decides_and (decides_le 1 i) (λ h. decides_le i n)

-- ---- all of the ids 1 to n

every_from : (n k : ℕ) (f : ℕ → Bool) → Decides (every n k f) ((i : ℕ) → k ≤ i → i < k + n → f i ≡ true)
unfolding every
every_from zero k f = decides_yes (λ i a b. absurd (omega arith))
every_from (suc n) k f = decides_as (decides_and {A = f k ≡ true} ((λ e. e), (λ e. e)) (λ e. every_from n (suc k) f))
    (λ h i a b. elim (ℕ_discrete k i) [ yes e ↦ rw (← e) h.0 | no e ↦ h.1 i (omega arith) (omega arith) ])
    (λ h. (h k (omega arith) (omega arith), λ i a b. h i (omega arith) (omega arith)))

pub decides_every : (n : ℕ) (f : ℕ → Bool) {P : ℕ → Type 0} → ((i : ℕ) → In i n → Decides (f i) (P i)) → Decides (every n 1 f) ((i : ℕ) → In i n → P i)
decides_every n f d = decides_as (every_from n 1 f) (λ h i k. (d i k).0 (h i k.0 (omega (arith, k.1)))) (λ h i a b. (d i (a, omega arith)).1 (h i (a, omega arith)))
