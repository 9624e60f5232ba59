use Rattle.call_reading.specs.Reading.{number_at}
use Rattle.kernel_cells.specs.Promises.{Listed}
use Rattle.kernel_cells.proofs.list_states.Given as goal

abbrev pub invariant-loop-i : goal.invariant-loop-i
invariant-loop-i l = Listed (number_at l.words) l.i l.initial.out l.out
