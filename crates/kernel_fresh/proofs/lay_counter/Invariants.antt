use Prim.Native.Nat.{◌+◌, ◌-◌}
use mathlib.Core.Path.{◌≡◌}
use Rattle.memory_columns.specs.Layout.{max_alarms}
use Rattle.kernel_fresh.specs.Laying.{in_turn, laid_alarm}
use Rattle.kernel_fresh.proofs.lay_counter.Given as goal

abbrev pub invariant-loop-k : goal.invariant-loop-k
invariant-loop-k l = in_turn (laid_alarm l.bytes l.at) (max_alarms + 1 - l.k) l.k l.words ≡ in_turn (laid_alarm l.bytes l.at) max_alarms 1 l.initial.words
