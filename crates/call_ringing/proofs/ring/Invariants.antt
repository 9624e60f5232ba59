use Prim.Native.Nat.{◌-◌, ◌<◌}
use Rattle.call_ringing.proofs.Ringing.{AllLeft}
use Rattle.call_ringing.proofs.ring.Given as goal

abbrev pub invariant-loop-k : goal.invariant-loop-k
invariant-loop-k l = AllLeft l.initial.words l.count (9 - l.k) l.k l.words × (l.count < l.k)
