-- `run_outcome` meets its contract. A fault's number fits. Assumes nothing.
use native.Mathlib.Omega.{arith}
use Rattle.okrozumba.proofs.Outcomes.{digit_small}
use Rattle.okrozumba.proofs.run_outcome.Goals as goal

pub overflow_add-result : goal.overflow_add-result
overflow_add-result c = omega (arith, c.from.ensures, digit_small c.in-Err-Refused.refusal.fault)
