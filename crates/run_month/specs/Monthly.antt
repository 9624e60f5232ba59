-- The figures of a month: the records of its runs, summed number by number, none left out or doubled.
use Rattle.std.specs.Prelude.{Bool, true, cond, ◌&&◌, List, [], ◌∷◌, ◌≡◌, ℕ, zero, suc, ◌+◌, ◌^◌, ltb, eqb, length, get_or, Result, Ok, Err}
use Rattle.run_month.specs.declared.Record.{Record}
use Rattle.run_month.specs.declared.Unreported.{Unreported}
use Rattle.run_month.specs.declared.Unreported.TheVariants.{Many, Size, Beyond}

-- ---- the totals

-- number k of all records together
unfoldable pub sum_at : ℕ → List Record → ℕ
sum_at k [] = 0
sum_at k (r ∷ l) = get_or r.counts k 0 + sum_at k l

-- so many of these sums, from number k on
unfoldable pub sums_from : ℕ → ℕ → List Record → List ℕ
sums_from k zero l = []
sums_from k (suc n) l = sum_at k l ∷ sums_from (suc k) n l

-- 32 tasks by seven states, and 29 codes
abbrev pub counts : ℕ
counts = 253

abbrev pub totals : List Record → List ℕ
totals l = sums_from 0 counts l

-- none is beyond 2^32 - 1
unfoldable pub fits : List ℕ → Bool
fits [] = true
fits (a ∷ l) = ltb a (2 ^ 32) && fits l

-- ---- the report

abbrev pub most_records : ℕ
most_records = 64

-- From the number of records, the length of the output and the totals: T1, then T2, then T3 by its digit; 0 where nothing is refused.
unfoldable pub refusal : ℕ → ℕ → List ℕ → ℕ
refusal records size sums = cond (ltb most_records records) 1 (cond (eqb size counts) (cond (fits sums) 0 3) 2)

-- the digit of an answer
abbrev pub digit : Result (Unit {0}) Unreported → ℕ
digit (Ok u) = 0
digit (Err Many) = 1
digit (Err Size) = 2
digit (Err Beyond) = 3

-- what the output holds then: a refusal leaves it as it was
abbrev pub report_of : ℕ → List ℕ → List ℕ → List ℕ
report_of zero sums old = sums
report_of (suc d) sums old = old

-- an answer by its digit, and the output before and after
pub record Reported (records : List Record) (d : ℕ) (old new : List ℕ) : Type 0 where
  pub says : d ≡ refusal (length records) (length old) (totals records)
  pub holds : new ≡ report_of d (totals records) old
