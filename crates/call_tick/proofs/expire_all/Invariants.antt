use Prim.Native.Nat.{◌+◌, ◌-◌, ◌<◌}
use Rattle.call_tick.specs.Ticking.{expired, expiries}
use Rattle.call_tick.proofs.Ticks.{Along}
use Rattle.call_tick.proofs.expire_all.Given as goal

abbrev pub invariant-loop-i : goal.invariant-loop-i
invariant-loop-i l = Along l.count (l.n + 1 - l.i) l.i l.words (expired l.n 1 l.initial.words) (expiries l.n 1 l.initial.words) × (l.count < l.i)
