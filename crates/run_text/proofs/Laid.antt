-- Entries laid into an output from a place on: one text behind the other, and from the front where there is place. Assumes nothing.
use borrow.Rule.Slice.PartMut.{put_mid}
use mathlib.Core.Bool.{true, false, false≢true}
use mathlib.Core.List.{List, [], ◌∷◌, ◌++◌}
use mathlib.Core.Path.{◌≡◌, refl, sym, ap, ◌∙◌}
use Prim.Native.Nat.{ℕ, zero, suc, ◌+◌, ◌-◌, ◌/◌, ◌%◌, ◌^◌, ◌≤◌, ◌<◌, min}
use native.Mathlib.Decide.{dec_le}
use native.Mathlib.Omega.{arith}
use lib.IntN.{ℤ, pos, negsuc, nat_abs}
use lib.Signed.{le_z}
use lib.ListN.{length, take, drop, set, length-set, length-append, length-take}
use Rattle.std.proofs.Math.Dec.{leb-zero}
use Rattle.std.proofs.lemmas.List.{take_all}
use Rattle.run_text.specs.Lines.{decimal, signed}
use Rattle.run_text.specs.Output.{laid, Wrote}
use Rattle.run_text.proofs.Decimal.{decimal_one, decimal_more, decimal_length}

module _ {A : Type 0} where
  pub laid_append : (a b : List A) (i : ℕ) (t : List A) → laid (a ++ b) i t ≡ laid b (i + length a) (laid a i t)
  unfolding laid
  laid_append [] b i t = ap (λ (n : ℕ). laid b n t) (omega arith)
  laid_append (x ∷ a) b i t = laid_append a b (suc i) (set t i x) ∙ ap (λ (n : ℕ). laid b n (laid a (suc i) (set t i x))) (omega arith)

  pub laid_length : (a : List A) (i : ℕ) (t : List A) → length (laid a i t) ≡ length t
  unfolding laid
  laid_length [] i t = refl
  laid_length (x ∷ a) i t = laid_length a (suc i) (set t i x) ∙ length-set t i x

  laid_behind : (a : List A) (i : ℕ) (y : A) (t : List A) → laid a (suc i) (y ∷ t) ≡ y ∷ laid a i t
  unfolding laid
  laid_behind [] i y t = refl
  laid_behind (x ∷ a) i y t = laid_behind a (suc i) y (set t i x)

  pub laid_over : (a t : List A) → length a ≤ length t → laid a 0 t ≡ a ++ drop (length a) t
  unfolding laid
  laid_over [] t h = refl
  laid_over (x ∷ a) [] h = absurd (omega (arith, h))
  laid_over (x ∷ a) (y ∷ t) h = laid_behind a 0 x t ∙ ap (λ (l : List A). x ∷ l) (laid_over a t (omega (arith, h)))

  pub set_behind : (l : List A) (i : ℕ) (x : A) → length l ≤ i → set l i x ≡ l
  set_behind [] i x h = refl
  set_behind (y ∷ l) zero x h = absurd (omega (arith, h))
  set_behind (y ∷ l) (suc i) x h = ap (λ (k : List A). y ∷ k) (set_behind l i x (omega (arith, h)))

  -- behind the end nothing is laid
  pub laid_past : (l : List A) (i : ℕ) (t : List A) → length t ≤ i → laid l i t ≡ t
  unfolding laid
  laid_past [] i t h = refl
  laid_past (x ∷ l) i t h = rw (set_behind t i x h) (laid_past l (suc i) t (omega (arith, h)))

  -- so many entries as there are, or as there is room for
  laid_cut : (n : ℕ) (l : List A) (i : ℕ) (t : List A) → length t ≤ i + n → laid l i t ≡ laid (take n l) i t
  unfolding laid
  laid_cut n [] i t h = ap (λ (k : List A). laid k i t) (sym (take_all n [] (omega arith)))
  laid_cut zero (x ∷ l) i t h = laid_past (x ∷ l) i t (omega (arith, h))
  laid_cut (suc n) (x ∷ l) i t h = laid_cut n l (suc i) (set t i x) (omega (arith, h, length-set t i x))

  -- entries that have room stand in their places
  laid_within : (l : List A) (i : ℕ) (t : List A) → i + length l ≤ length t → laid l i t ≡ put_mid i (length l) t l
  laid_within l zero t h = laid_over l t (omega (arith, h))
  laid_within l (suc i) [] h = absurd (omega (arith, h))
  laid_within l (suc i) (y ∷ t) h = laid_behind l i y t ∙ ap (λ (k : List A). y ∷ k) (laid_within l i t (omega (arith, h)))

  pub laid_placed : (l : List A) (i : ℕ) (t : List A) {n k : ℕ} {m : List A} → i < length t → n ≡ min (length l) (length t - i) → m ≡ take n l → k ≡ n → put_mid i k t m ≡ laid l i t
  laid_placed l i t {n} {k} {m} h e q r =
      let f : n ≡ length (take n l) = omega (arith, e, length-take n l) in
      rw (q, r) (ap (λ (j : ℕ). put_mid i j t (take n l)) f ∙ sym (laid_within (take n l) i t (omega (arith, e, f, h))) ∙ sym cut)
    where
      cut : laid l i t ≡ laid (take n l) i t
      cut = elim (dec_le (length l) n) [ yes a ↦ ap (λ (k : List A). laid k i t) (sym (take_all n l a)) | no a ↦ laid_cut n l i t (omega (arith, e, a)) ]

-- ---- what was written

-- a byte
pub wrote_byte : (b i : ℕ) (t : List ℕ) {t' : List ℕ} → t' ≡ set t i b → Wrote (b ∷ []) i t t' (i + 1)
unfolding laid
wrote_byte b i t e = record { holds = e; next = omega arith }

-- one text behind the other
pub wrote_then : {a b : List ℕ} {i j k : ℕ} {t t' t'' : List ℕ} → Wrote a i t t' j → Wrote b j t' t'' k → Wrote (a ++ b) i t t'' k
wrote_then {a} {b} {i} {t = t} w v = record {
  holds = v.holds ∙ rw (w.holds, w.next) (sym (laid_append a b i t));
  next = omega (arith, v.next, w.next, length-append a b);
}

-- in decimal
module _ (n : ℕ) {i : ℕ} {t : List ℕ} where
  pub wrote_one : n < 10 → {t' : List ℕ} → t' ≡ set t i (48 + n) → Wrote (decimal n) i t t' (i + 1)
  wrote_one h e = rw (decimal_one n h) (wrote_byte (48 + n) i t e)

  pub wrote_more : 10 ≤ n → {j : ℕ} {t' t'' : List ℕ} → Wrote (decimal (n / 10)) i t t' j → t'' ≡ set t' j (48 + n % 10) → Wrote (decimal n) i t t'' (j + 1)
  wrote_more h {j} {t'} w e = rw (decimal_more n h) (wrote_then w (wrote_byte (48 + n % 10) j t' e))

module _ {n i j : ℕ} {t t' : List ℕ} (d : ℕ) (h : n < 10 ^ suc d) where
  pub number_short : Wrote (decimal n) i t t' j → j ≤ i + suc d
  number_short w = omega (arith, w.next, decimal_length d n h)

  pub field_short : Wrote (32 ∷ decimal n) i t t' j → j ≤ i + suc (suc d)
  field_short w = omega (arith, w.next, decimal_length d n h)

-- a code, by its sign and its size
module _ (z : ℤ) {n : ℕ} (e : n ≡ nat_abs z) (h : n ≤ 2 ^ 31) where
  pub plain_code : le_z (pos 0) z ≡ true → {i j : ℕ} {t t' : List ℕ} → Wrote (32 ∷ decimal n) i t t' j → Wrote (32 ∷ signed z) i t t' j × (j ≤ i + 12)
  unfolding signed
  plain_code s {i} {j} {t} {t'} w = (go z e s, omega (arith, field_short 9 (omega (arith, h)) w))
    where
      go : (x : ℤ) → n ≡ nat_abs x → le_z (pos 0) x ≡ true → Wrote (32 ∷ signed x) i t t' j
      go (pos k) e s = rw e at w
      go (negsuc k) e s = absurd (false≢true s)

  pub minus_code : le_z (pos 0) z ≡ false → {i j : ℕ} {t t₁ t₂ t₃ : List ℕ} → t₁ ≡ set t i 32 → t₂ ≡ set t₁ (i + 1) 45 → Wrote (decimal n) (i + 2) t₂ t₃ j
      → Wrote (32 ∷ signed z) i t t₃ j × (j ≤ i + 12)
  unfolding signed
  minus_code s {i} {j} {t} {t₁} {t₂} {t₃} p q w =
      let m : i + 1 + 1 ≡ i + 2 = omega arith in
      let v = wrote_then (wrote_byte 32 i t p) (wrote_then (wrote_byte 45 (i + 1) t₁ q) (rw m w)) in
      (go z e s v, omega (arith, number_short 9 (omega (arith, h)) w))
    where
      go : (x : ℤ) → n ≡ nat_abs x → le_z (pos 0) x ≡ false → Wrote (32 ∷ 45 ∷ decimal n) i t t₃ j → Wrote (32 ∷ signed x) i t t₃ j
      go (pos k) e s v = absurd (false≢true (sym s ∙ leb-zero k))
      go (negsuc k) e s v = rw e at v
