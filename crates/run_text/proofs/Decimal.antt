-- The digits of a number: the last one, and those before it; how many there are; that they are digits and name the number. Assumes nothing.
use mathlib.Core.Bool.{Bool, true, false, cond}
use mathlib.Core.List.{List, [], ◌∷◌, ◌++◌}
use mathlib.Core.Path.{◌≡◌, refl, sym, ap, ◌∙◌}
use Prim.Native.Nat.{ℕ, zero, suc, ◌+◌, ◌-◌, ◌*◌, ◌/◌, ◌%◌, ◌^◌, ◌≤◌, ◌<◌}
use native.Mathlib.Omega.{arith}
use lib.Dec.{ltb}
use lib.ListN.{length, length-append}
use borrow.Author.Tests.{lt-ltb, le-ltb, ltb-true, ltb-false}
use Rattle.rules.proofs.Ids.{Each}
use Rattle.run_text.specs.Lines.{digits, decimal, Digit, value_from}

few : (k n : ℕ) → n < 10 → digits k n ≡ (48 + n) ∷ []
unfolding digits
few zero n h = refl
few (suc k) n h = rw (lt-ltb n 10 h)

more : (k n : ℕ) → 10 ≤ n → digits (suc k) n ≡ digits k (n / 10) ++ ((48 + n % 10) ∷ [])
unfolding digits
more k n h = rw (le-ltb n 10 h)

-- as many as are needed are enough
enough : (k m n : ℕ) → n ≤ k → n ≤ m → digits k n ≡ digits m n
enough zero m n p q = few 0 n (omega (arith, p)) ∙ sym (few m n (omega (arith, p)))
enough (suc k) zero n p q = few (suc k) n (omega (arith, q)) ∙ sym (few 0 n (omega (arith, q)))
enough (suc k) (suc m) n p q = go (ltb n 10) refl (enough k m (n / 10))
  where
    go : (t : Bool) → ltb n 10 ≡ t → (n / 10 ≤ k → n / 10 ≤ m → digits k (n / 10) ≡ digits m (n / 10)) → digits (suc k) n ≡ digits (suc m) n
    go true e f = let h = ltb-true n 10 e in few (suc k) n h ∙ sym (few (suc m) n h)
    go false e f =
        let h = ltb-false n 10 e in
        more k n h ∙ ap (λ (l : List ℕ). l ++ ((48 + n % 10) ∷ [])) (f (omega (arith, p, h)) (omega (arith, q, h))) ∙ sym (more m n h)

pub decimal_one : (n : ℕ) → n < 10 → decimal n ≡ (48 + n) ∷ []
unfolding decimal
decimal_one n h = few n n h

pub decimal_more : (n : ℕ) → 10 ≤ n → decimal n ≡ decimal (n / 10) ++ ((48 + n % 10) ∷ [])
unfolding decimal
decimal_more zero h = absurd (omega (arith, h))
decimal_more (suc k) h = more k (suc k) h ∙ ap (λ (l : List ℕ). l ++ ((48 + suc k % 10) ∷ [])) (enough k (suc k / 10) (suc k / 10) (omega (arith, h)) (omega arith))

pub decimal_length : (d n : ℕ) → n < 10 ^ suc d → length (decimal n) ≤ suc d
decimal_length zero n h = rw (decimal_one n (omega (arith, h))) (omega arith)
decimal_length (suc d) n h = go (ltb n 10) refl (decimal_length d (n / 10))
  where
    go : (t : Bool) → ltb n 10 ≡ t → (n / 10 < 10 ^ suc d → length (decimal (n / 10)) ≤ suc d) → length (decimal n) ≤ suc (suc d)
    go true e f = rw (decimal_one n (ltb-true n 10 e)) (omega arith)
    go false e f = rw (decimal_more n (ltb-false n 10 e)) (let g = f (omega (arith, h)) in omega (arith, g, length-append (decimal (n / 10)) ((48 + n % 10) ∷ [])))

-- ---- read back

value_append : (m : ℕ) (a b : List ℕ) → value_from m (a ++ b) ≡ value_from (value_from m a) b
unfolding value_from
value_append m [] b = refl
value_append m (d ∷ a) b = value_append (10 * m + (d - 48)) a b

digits_value : (k n : ℕ) → value_from 0 (digits k n) ≡ n
unfolding digits value_from
digits_value zero n = omega arith
digits_value (suc k) n = go (ltb n 10) (digits_value k (n / 10))
  where
    go : (t : Bool) → value_from 0 (digits k (n / 10)) ≡ n / 10 → value_from 0 (cond t ((48 + n) ∷ []) (digits k (n / 10) ++ ((48 + n % 10) ∷ []))) ≡ n
    go true e = omega arith
    go false e = value_append 0 (digits k (n / 10)) ((48 + n % 10) ∷ []) ∙ rw e (omega arith)

pub decimal_value : (n : ℕ) → value_from 0 (decimal n) ≡ n
unfolding decimal
decimal_value n = digits_value n n

each_append : (P : ℕ → Type 0) (a b : List ℕ) → Each P a → Each P b → Each P (a ++ b)
each_append P [] b g h = h
each_append P (x ∷ a) b g h = (g.0, each_append P a b g.1 h)

digits_digits : (k n : ℕ) → n ≤ k → Each Digit (digits k n)
unfolding digits
digits_digits zero n h = ((omega arith, omega (arith, h)), tt)
digits_digits (suc k) n h = go (ltb n 10) refl (digits_digits k (n / 10))
  where
    go : (t : Bool) → ltb n 10 ≡ t → (n / 10 ≤ k → Each Digit (digits k (n / 10))) → Each Digit (cond t ((48 + n) ∷ []) (digits k (n / 10) ++ ((48 + n % 10) ∷ [])))
    go true e f = ((omega arith, omega (arith, ltb-true n 10 e)), tt)
    go false e f = each_append Digit (digits k (n / 10)) _ (f (omega (arith, h, ltb-false n 10 e))) ((omega arith, omega arith), tt)

pub decimal_digits : (n : ℕ) → Each Digit (decimal n)
unfolding decimal
decimal_digits n = digits_digits n n (omega arith)
