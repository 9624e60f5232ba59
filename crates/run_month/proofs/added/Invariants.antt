-- What the records from the next on add to the total so far is what all of them add to the first.
use Rattle.std.proofs.Common.{◌≡◌, drop}
use Rattle.run_month.specs.Capped.{total_from}
use Rattle.run_month.proofs.added.Given as goal

abbrev pub invariant-loop-r : goal.invariant-loop-r
invariant-loop-r l = total_from l.t (drop l.r-index l.records) ≡ total_from l.initial.t l.records
