-- The set bits of masks, counted mask by mask, are the ids that the masks mark. Assumes nothing.
use Rattle.std.proofs.Common.{◌≡◌, ℕ, zero, suc, pred, ◌+◌, ◌*◌, ◌/◌, ◌%◌, ◌^◌, ◌<◌, ◌≤◌, Bool, eqb, List, get_or, length, take, refl, sym, ap, ◌∙◌, subst, div-one, add-one, arith, shr-shr, shr_lt, eq-eqb, ne_eqb}
use Rattle.std.proofs.lemmas.List.Sums.{sum_by_more}
use Rattle.std.proofs.lemmas.List.{take_all}
use Rattle.std.specs.List.{sum_by}
use native.Mathlib.Decide.{ℕ_discrete}
use lib.Count.{ones, ones_step, ones-le}
use Rattle.rules.specs.Ids.{once}
use Rattle.memory_rings.specs.Rings.{IsId}
use Rattle.check_links.specs.declared.Table.TheVariants.{Masks}
use Rattle.check_links.specs.Survey.{counted, bits, is_set, housed}
use Rattle.check_links.proofs.Counts.{counted_same}

-- all of the ids 1 to n, and then k more
counted_more : (n k : ℕ) (f : ℕ → Bool) → counted (n + k) f ≡ counted n f + counted k (λ i. f (n + i))
unfolding counted
counted_more n zero f = let e : n + 0 ≡ n = omega arith in rw e (omega arith)
counted_more n (suc k) f = let e : n + suc k ≡ suc (n + k) = omega arith in rw e (omega (arith, counted_more n k f))

-- the first of the ids 1 to k + 1, and the others
counted_first : (k : ℕ) (f : ℕ → Bool) → counted (suc k) f ≡ once (f 1) + counted k (λ i. f (suc i))
unfolding counted
counted_first zero f = omega arith
counted_first (suc k) f = omega (arith, counted_first k f)

low_bit : (m : ℕ) → m % 2 ≡ once (is_set m 0)
low_bit m = rw div-one (elim (ℕ_discrete (m % 2) 1) [ yes e ↦ rw (eq-eqb (m % 2) 1 e) e | no ne ↦ rw (ne_eqb (m % 2) 1 ne) (omega arith) ])

next_bit : (m i : ℕ) → is_set m (suc i) ≡ is_set (m / 2) i
next_bit m i = let e : 1 + i ≡ suc i = omega arith in ap (λ (x : ℕ). eqb (x % 2) 1) (sym (shr-shr m 1 i ∙ ap (λ (j : ℕ). m / 2 ^ j) e))

later_bits : (k m : ℕ) → counted k (λ i. is_set (m / 2) (pred i)) ≡ counted k (λ i. is_set m i)
later_bits k m = counted_same k _ _ at
  where
    at : (i : ℕ) → IsId k i → is_set (m / 2) (pred i) ≡ is_set m i
    at zero j = absurd (omega (arith, j.0))
    at (suc i) j = sym (next_bit m i)

-- of a number of k bits
ones_counted : (k m : ℕ) → m < 2 ^ k → ones m ≡ counted k (λ i. is_set m (pred i))
unfolding counted ones
ones_counted zero m h = let z : m ≡ 0 = omega arith in rw z
ones_counted (suc k) m h =
    let r = ones_counted k (m / 2) (shr_lt k 1 (subst (λ (j : ℕ). m < 2 ^ j) (sym (add-one k)) h)) ∙ later_bits k m in
    ones_step m ∙ (λ z. low_bit m z + r z) ∙ sym (counted_first k (λ i. is_set m (pred i)))

-- one mask more
pub ones_on : (l : List ℕ) (i : ℕ) {n : ℕ} → get_or l i 0 < 2 ^ 32 → n ≡ counted (bits * i) (housed Masks l) → n + ones (get_or l i 0) ≡ counted (bits * (i + 1)) (housed Masks l)
ones_on l i h e =
    let z : bits * (i + 1) ≡ bits * i + bits = omega arith in
    (λ y. e y + (ones_counted bits (get_or l i 0) h ∙ counted_same bits _ _ at) y) ∙ sym (ap (λ (k : ℕ). counted k (housed Masks l)) z ∙ counted_more (bits * i) bits (housed Masks l))
  where
    at : (k : ℕ) → IsId bits k → is_set (get_or l i 0) (pred k) ≡ housed Masks l (bits * i + k)
    at zero j = absurd (omega (arith, j.0))
    at (suc k) j =
        let e : bits * i + suc k ≡ suc (bits * i + k) = omega arith in
        let d : (bits * i + k) / bits ≡ i = omega (arith, j.1) in
        let m : (bits * i + k) % bits ≡ k = omega (arith, j.1) in
        rw (e, d, m)

pub ones_few : (m : ℕ) → m < 2 ^ 32 → ones m ≤ bits
ones_few m h = ones-le 32 m h

ones_upto : (l : List ℕ) → ((i : ℕ) → get_or l i 0 < 2 ^ 32) → (i : ℕ) → i ≤ length l → sum_by ones (take i l) ≡ counted (bits * i) (housed Masks l)
unfolding counted
ones_upto l f zero h = refl
ones_upto l f (suc i) h =
    let r : sum_by ones (take (i + 1) l) ≡ counted (bits * (i + 1)) (housed Masks l) = rw (sum_by_more ones l i 0 h) (ones_on l i (f i) (ones_upto l f i (omega arith))) in
    rw add-one at r

-- the set bits of all masks
pub ones_are : (l : List ℕ) → ((i : ℕ) → get_or l i 0 < 2 ^ 32) → sum_by ones l ≡ counted (bits * length l) (housed Masks l)
ones_are l f = rw (take_all (length l) l (omega arith)) at (ones_upto l f (length l) (omega arith))
