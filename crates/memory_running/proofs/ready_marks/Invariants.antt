use mathlib.Core.Path.{◌≡◌}
use Prim.Native.Nat.{◌+◌, ◌-◌}
use Rattle.memory_running.specs.Running.{marks_of}
use Rattle.memory_running.proofs.ready_marks.Given as goal

abbrev pub invariant-loop-p : goal.invariant-loop-p
invariant-loop-p l = marks_of (l.n + 1 - l.p) l.p l.marks l.words ≡ marks_of l.n 1 0 l.words
