-- `count_line`: the number, then the line's end. Assumes nothing.
use Prim.Native.Nat.{◌≤◌}
use native.Mathlib.Omega.{arith}
use Rattle.run_text.specs.Lines.{fields, count_line}
use Rattle.run_text.proofs.Laid.{wrote_then, number_short}
use Rattle.run_text.proofs.count_line.Goals as goal
use Rattle.run_text.proofs.count_line.Goals.{After-number-at}

after_number : (c : After-number-at) → c.number-at.result ≤ 10
after_number c = let h = c.ranges.n.fits in number_short 9 (omega (arith, h)) c.number-at.ensures

pub end_line-requires : goal.end_line-requires
end_line-requires c = omega (arith, after_number (goal.at.end_line-requires c).After-number-at)

pub returns : goal.returns
unfolding count_line fields
returns c =
    (wrote_then c.number-at.ensures c.end_line.ensures, omega (arith, after_number (goal.at.returns c).After-number-at, c.end_line.ensures.next))
