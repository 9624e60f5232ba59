use mathlib.Core.List.{map, ◌++◌}
use mathlib.Core.Path.{◌≡◌}
use lib.ListN.{drop}
use Rattle.run_reading.specs.Recorded.{signed_word}
use Rattle.run_compare_reading.specs.Compared.{words_from}
use Rattle.run_compare.proofs.decode.Given as goal

abbrev pub invariant-loop-i : goal.invariant-loop-i
invariant-loop-i l = l.events ≡ map signed_word (words_from l.bytes l.i l.from) ++ drop l.i l.initial.events
