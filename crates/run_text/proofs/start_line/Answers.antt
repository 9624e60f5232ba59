-- `start_line`: one part after the other. Assumes nothing.
use Prim.Native.Nat.{◌≤◌}
use native.Mathlib.Omega.{arith}
use Rattle.run_text.specs.Lines.{signed, fields, start_line}
use Rattle.run_text.proofs.Laid.{wrote_then, field_short}
use Rattle.run_text.proofs.start_line.Goals as goal
use Rattle.run_text.proofs.start_line.Goals.{After-field-at}

-- where it stands then, at most
after_runs : (c : After-field-at) → c.field-at.result ≤ 16
after_runs c =
    let h = c.ranges.runs.fits in
    omega (arith, c.letters-at.ensures.next, field_short 9 (omega (arith, h)) c.field-at.ensures)

pub end_line-requires : goal.end_line-requires
end_line-requires c = omega (arith, after_runs (goal.at.end_line-requires c).After-field-at)

pub returns : goal.returns
unfolding start_line fields signed
returns c =
    (wrote_then c.letters-at.ensures (wrote_then c.field-at.ensures c.end_line.ensures), omega (arith, after_runs (goal.at.returns c).After-field-at, c.end_line.ensures.next))
