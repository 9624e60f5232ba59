-- Sums as the code keeps them: each stops at 2^32, where it is beyond a word.
use Rattle.std.specs.Prelude.{List, [], ◌∷◌, ℕ, ◌+◌, ◌^◌, min, replicate}
use Rattle.run_month.specs.declared.Record.{Record}
use Rattle.run_month.specs.declared.Sum.{Sum}
use Rattle.run_month.specs.Monthly.{counts}

abbrev pub capped : ℕ → ℕ → ℕ
capped a c = min (a + c) (2 ^ 32)

-- number by number
unfoldable pub capped_all : List ℕ → List ℕ → List ℕ
capped_all [] cs = []
capped_all (a ∷ l) [] = a ∷ l
capped_all (a ∷ l) (c ∷ cs) = capped a c ∷ capped_all l cs

unfoldable pub none : Sum
none = record { sums = replicate counts 0 }

unfoldable pub plus_of : Sum → Record → Sum
plus_of t r = record { sums = capped_all t.sums r.counts }

-- one record after the other
unfoldable pub total_from : Sum → List Record → Sum
total_from t [] = t
total_from t (r ∷ l) = total_from (plus_of t r) l

unfoldable pub total_of : List Record → Sum
total_of l = total_from none l
