use Prim.Native.Nat.{◌+◌, ◌-◌}
use mathlib.Core.Path.{◌≡◌}
use Rattle.memory_time.specs.Elapsing.{aged_from}
use Rattle.memory_time.proofs.age_all.Given as goal

abbrev pub invariant-loop-t : goal.invariant-loop-t
invariant-loop-t l = aged_from (l.n + 1 - l.t) l.t l.words ≡ aged_from l.n 1 l.initial.words
