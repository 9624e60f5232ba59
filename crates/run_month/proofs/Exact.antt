-- A sum as the code keeps it is the exact sum, or 2^32 where that is beyond a word: so which sums fit, and the sums where all do, are those of `totals`.
-- Assumes nothing.
use mathlib.Core.Bool.{Bool, true, false, cond, ◌&&◌}
use mathlib.Core.List.{List, [], ◌∷◌, map}
use mathlib.Core.Path.{◌≡◌, refl, sym, ap, ◌∙◌}
use Prim.Native.Nat.{ℕ, zero, suc, ◌+◌, ◌≤◌, ◌<◌, ◌^◌, min}
use native.Mathlib.Omega.{arith}
use lib.Dec.{ltb, eqb}
use lib.ListN.{length, get_or, length-replicate, get_or-replicate, length-map}
use lib.Seq.{ext_get_or}
use borrow.Author.Tests.{lt-ltb, le-ltb, ltb-true, ltb-false}
use Rattle.run_month.specs.declared.Record.{Record}
use Rattle.run_month.specs.declared.Sum.{Sum}
use Rattle.run_month.specs.Monthly.{sum_at, sums_from, counts, totals, fits, refusal, report_of, Reported}
use Rattle.run_month.specs.Capped.{capped_all, none, plus_of, total_from, total_of}

-- ---- the exact sums by their number

from_at : (k n i : ℕ) (l : List Record) → i < n → get_or (sums_from k n l) i 0 ≡ sum_at (k + i) l
unfolding sums_from
from_at k zero i l h = absurd (omega (arith, h))
from_at k (suc n) zero l h = ap (λ (j : ℕ). sum_at j l) (omega arith)
from_at k (suc n) (suc i) l h = from_at (suc k) n i l (omega (arith, h)) ∙ ap (λ (j : ℕ). sum_at j l) (omega arith)

-- each total is the exact sum
pub totals_at : (l : List Record) (k : ℕ) → k < counts → get_or (totals l) k 0 ≡ sum_at k l
totals_at l k h = from_at 0 counts k l h ∙ ap (λ (j : ℕ). sum_at j l) (omega arith)

from_length : (k n : ℕ) (l : List Record) → length (sums_from k n l) ≡ n
unfolding sums_from
from_length k zero l = refl
from_length k (suc n) l = ap suc (from_length (suc k) n l)

pub totals_length : (l : List Record) → length (totals l) ≡ counts
totals_length l = from_length 0 counts l

-- ---- the code's sums

capped_at : (s c : List ℕ) (k : ℕ) → k < length s → get_or s k 0 ≤ 2 ^ 32 → get_or (capped_all s c) k 0 ≡ min (get_or s k 0 + get_or c k 0) (2 ^ 32)
unfolding capped_all
capped_at [] c k h b = absurd (omega (arith, h))
capped_at (a ∷ s) [] k h b = omega (arith, b)
capped_at (a ∷ s) (x ∷ c) zero h b = refl
capped_at (a ∷ s) (x ∷ c) (suc k) h b = capped_at s c k (omega (arith, h)) b

capped_length : (s c : List ℕ) → length (capped_all s c) ≡ length s
unfolding capped_all
capped_length [] c = refl
capped_length (a ∷ s) [] = refl
capped_length (a ∷ s) (x ∷ c) = ap suc (capped_length s c)

-- so many sums, none above 2^32
pub record Kept (t : Sum) : Type 0 where
  pub size : length t.sums ≡ counts
  pub least : (k : ℕ) → k < counts → get_or t.sums k 0 ≤ 2 ^ 32

plus_at : (t : Sum) (r : Record) → Kept t → (k : ℕ) → k < counts → get_or (plus_of t r).sums k 0 ≡ min (get_or t.sums k 0 + get_or r.counts k 0) (2 ^ 32)
unfolding plus_of
plus_at t r w k h = capped_at t.sums r.counts k (omega (arith, h, w.size)) (w.least k h)

plus_kept : (t : Sum) (r : Record) → Kept t → Kept (plus_of t r)
unfolding plus_of
plus_kept t r w = record { size = capped_length t.sums r.counts ∙ w.size; least = λ k h. omega (arith, plus_at t r w k h) }

none_kept : Kept none
unfolding none
none_kept = record { size = length-replicate {A = ℕ} counts 0; least = λ k h. omega (arith, get_or-replicate {A = ℕ} counts k 0 0 h) }

none_at : (k : ℕ) → k < counts → get_or none.sums k 0 ≡ 0
unfolding none
none_at k h = get_or-replicate counts k 0 0 h

-- sums that stop stay stopped
onward_at : (t : Sum) (l : List Record) → Kept t → (k : ℕ) → k < counts → get_or (total_from t l).sums k 0 ≡ min (get_or t.sums k 0 + sum_at k l) (2 ^ 32)
unfolding total_from sum_at
onward_at t [] w k h = omega (arith, w.least k h)
onward_at t (r ∷ l) w k h = omega (arith, onward_at (plus_of t r) l (plus_kept t r w) k h, plus_at t r w k h)

onward_kept : (t : Sum) (l : List Record) → Kept t → Kept (total_from t l)
unfolding total_from
onward_kept t [] w = w
onward_kept t (r ∷ l) w = onward_kept (plus_of t r) l (plus_kept t r w)

-- ---- both

abbrev cap : ℕ → ℕ
cap a = min a (2 ^ 32)

map_at : (l : List ℕ) (k : ℕ) → k < length l → get_or (map cap l) k 0 ≡ cap (get_or l k 0)
map_at [] k h = absurd (omega (arith, h))
map_at (a ∷ l) zero h = refl
map_at (a ∷ l) (suc k) h = map_at l k (omega (arith, h))

total_capped : (l : List Record) → (total_of l).sums ≡ map cap (totals l)
unfolding total_of
total_capped l =
    let w = onward_kept none l none_kept in
    let n = totals_length l in
    ext_get_or 0 (total_from none l).sums (map cap (totals l)) (w.size ∙ sym (length-map (totals l) cap ∙ n))
    (λ k b.
    let h : k < counts = omega (arith, b, w.size) in
    let s = totals_at l k h in
    let m = map_at (totals l) k (omega (arith, h, n)) in
    omega (arith, onward_at none l none_kept k h, none_at k h, s, m))

fits_capped : (l : List ℕ) → fits (map cap l) ≡ fits l
unfolding fits
fits_capped [] = refl
fits_capped (a ∷ l) = ap (λ (t : Bool). t && fits (map cap l)) (go (ltb a (2 ^ 32)) refl) ∙ ap (λ (t : Bool). ltb a (2 ^ 32) && t) (fits_capped l)
  where
    go : (t : Bool) → ltb a (2 ^ 32) ≡ t → ltb (cap a) (2 ^ 32) ≡ ltb a (2 ^ 32)
    go true e = lt-ltb (cap a) (2 ^ 32) (omega (arith, ltb-true a (2 ^ 32) e)) ∙ sym e
    go false e = le-ltb (cap a) (2 ^ 32) (omega (arith, ltb-false a (2 ^ 32) e)) ∙ sym e

-- where all fit, nothing was stopped
cap_none : (l : List ℕ) → fits l ≡ true → map cap l ≡ l
unfolding fits
cap_none [] e = refl
cap_none (a ∷ l) e = go (ltb a (2 ^ 32)) refl e (cap_none l)
  where
    go : (t : Bool) → ltb a (2 ^ 32) ≡ t → t && fits l ≡ true → (fits l ≡ true → map cap l ≡ l) → cap a ∷ map cap l ≡ a ∷ l
    go true f e rest =
        let h : cap a ≡ a = omega (arith, ltb-true a (2 ^ 32) f) in
        rw (h, rest e)
    go false f e rest = absurd (let z : ◌≡◌ {A = ℕ} 0 1 = cc in omega arith)

-- ---- the report

done_fits : (n size : ℕ) (s : List ℕ) → refusal n size s ≡ 0 → fits s ≡ true
unfolding refusal
done_fits n size s e = go (ltb 64 n) (eqb size 253) (fits s) e
  where
    go : (a b c : Bool) → ◌≡◌ {A = ℕ} (cond a 1 (cond b (cond c 0 3) 2)) 0 → c ≡ true
    go true b c e = absurd (omega (arith, e))
    go false false c e = absurd (omega (arith, e))
    go false true true e = refl
    go false true false e = absurd (omega (arith, e))

module _ (l : List Record) (t : Sum) (e : t ≡ total_of l) (n : ℕ) (old : List ℕ) where
  same_refusal : refusal n (length old) t.sums ≡ refusal n (length old) (totals l)
  unfolding refusal
  same_refusal = ap (λ (u : Sum). refusal n (length old) u.sums) e ∙ ap (refusal n (length old)) (total_capped l) ∙ ap (λ (c : Bool). cond (ltb 64 n) 1 (cond (eqb (length old) 253) (cond c 0 3) 2)) (fits_capped (totals l))

  same_report : (d : ℕ) → d ≡ refusal n (length old) t.sums → report_of d t.sums old ≡ report_of d (totals l) old
  same_report zero h = ap (λ (u : Sum). u.sums) e ∙ total_capped l ∙ cap_none (totals l) (done_fits n (length old) (totals l) (sym (h ∙ same_refusal)))
  same_report (suc d) h = refl

-- what is said of the code's sums holds of the exact ones
pub reported : (l : List Record) (t : Sum) → t ≡ total_of l → (d : ℕ) (old new : List ℕ) → d ≡ refusal (length l) (length old) t.sums → new ≡ report_of d t.sums old → Reported l d old new
reported l t e d old new f g = record {
  says = f ∙ same_refusal l t e (length l) old;
  holds = g ∙ same_report l t e (length l) old d f;
}
