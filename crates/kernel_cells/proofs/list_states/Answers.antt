-- `kernel_cells::list_states` meets its contract. The tasks before i are listed. Assumes nothing.
use native.Mathlib.Omega.{arith}
use Rattle.kernel_cells.proofs.Listing.{none_listed, one_listed, all_listed}
use Rattle.kernel_cells.proofs.list_states.Goals as goal

pub loop-i-init : goal.loop-i-init
loop-i-init c = none_listed _ _

pub loop-i-preserved : goal.loop-i-preserved
loop-i-preserved c = one_listed _ c.loop-i.i c.loop-i.invariant (omega (arith, c.loop-i-test.true, c.requires)) c.state_number.ensures

pub returns : goal.returns
returns c = all_listed c.loop-i.invariant (omega arith)
