use mathlib.Core.Bool.{false}
use Prim.Native.Nat.{◌-◌, ◌≤◌}
use mathlib.Core.Path.{◌≡◌}
use Rattle.call_flag_walk.specs.Serving.{made, walked, served}
use Rattle.call_flag_walk.proofs.serve.Given as goal

abbrev pub invariant-loop : goal.invariant-loop
invariant-loop l =
    (walked (l.n - l.counter) l.n l.pattern l.x (made l.words l.w.released l.w.looked l.w.cleared) ≡ served l.i l.pattern l.initial.words)
    × (l.w.cleared ≡ false) × (l.w.released ≤ l.counter) × (l.w.looked ≤ l.counter) × (l.n ≤ 32)
