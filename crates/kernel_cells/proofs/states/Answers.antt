-- `kernel_cells::states` meets its contract. By the verdict on the memory. Assumes nothing.
use native.Mathlib.Omega.{arith}
use Rattle.rules.specs.Codes.{number}
use Rattle.kernel_cells.proofs.Promised.{few, listed}
use Rattle.kernel_cells.proofs.states.Goals as goal

pub list_states-requires : goal.list_states-requires
list_states-requires c = omega (arith, few c.in-Ok.ensures c.get-n.ensures)

pub returns-in-Ok : goal.returns-in-Ok
unfolding number
returns-in-Ok c = listed c.in-Ok.ensures c.get-n.ensures c.list_states.ensures
