-- The functions' promises put together: a run that is begun, counted from zeros in any parts and put in a row is that run's record; and a report over records of runs
-- adds up to the events that ran. Assumes nothing.
use mathlib.Core.List.{List}
use mathlib.Core.Path.{◌≡◌, refl, ap, ◌∙◌, subst}
use Prim.Native.Nat.{ℕ, zero, suc, ◌+◌, ◌*◌, ◌<◌}
use native.Mathlib.Omega.{arith}
use lib.ListN.{get_or}
use Rattle.rules.specs.Writing.{joined}
use Rattle.memory_picture.specs.Picture.{Memory}
use Rattle.run_month.specs.declared.Record.{Record}
use Rattle.run_month.specs.Monthly.{sum_at, counts, Reported}
use Rattle.run_month.proofs.Exact.{totals_at}
use Rattle.run_tally.specs.Tables.{Flat}
use Rattle.run_reading.specs.Recorder.{begun}
use Rattle.run_stream.specs.Lent.{Is}
use Rattle.run_figures.specs.Figures.{Figures, none, figures_of}
use Rattle.run_figures.specs.Counting.{Lent, lent, Taken}
use Rattle.run_figures.proofs.Division.{any_division}
use Rattle.run_totals.specs.Adding.{part, ran, ran_with, RecordsOf, over}
use Rattle.run_totals.proofs.Sums.{month_rows, month_codes}

-- `begin`, then `count` of each part, then `flat`
pub record_of : (l : List (List ℕ)) (n h : List ℕ) (m : Memory) (new : Lent) (row : List ℕ) → Is n begun → Taken l (lent n h m none) new → Flat new.figures.table new.figures.codes row
    → Flat (figures_of (joined l)).table (figures_of (joined l)).codes row
record_of l n h m new row B T F = subst (λ (f : Figures). Flat f.table f.codes row) (any_division l (lent n h m none) new (B h) refl T) F

part_alike : (f g : ℕ → ℕ) (k n : ℕ) → ((j : ℕ) → j < k + n → f j ≡ g j) → part f k n ≡ part g k n
unfolding part
part_alike f g k zero e = refl
part_alike f g k (suc n) e = let r = part_alike f g (suc k) n (λ j h. e j (omega (arith, h))) in omega (arith, e k (omega arith), r)

-- `month` has said 0
module _ (l : List Record) (k : List (List ℕ)) (R : RecordsOf l k) (old new : List ℕ) (P : Reported l 0 old new) where
  at_number : (j : ℕ) → j < counts → get_or new j 0 ≡ sum_at j l
  at_number j h = ap (λ (s : List ℕ). get_or s j 0) P.holds ∙ totals_at l j h

  pub report_rows : (i : ℕ) → i < 32 → part (λ j. get_or new j 0) (7 * i) 7 ≡ over (ran_with i) k
  report_rows i h = part_alike (λ j. get_or new j 0) (λ j. sum_at j l) (7 * i) 7 (λ j b. at_number j (omega (arith, b, h))) ∙ month_rows l k R i h

  pub report_codes : part (λ j. get_or new j 0) 224 29 ≡ over ran k
  report_codes = part_alike (λ j. get_or new j 0) (λ j. sum_at j l) 224 29 (λ j b. at_number j (omega (arith, b))) ∙ month_codes l k R
