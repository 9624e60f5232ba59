-- `number`: the last digit, behind those of a tenth. Assumes nothing.
use native.Mathlib.Omega.{arith}
use Rattle.run_text.proofs.Laid.{wrote_one, wrote_more, number_short}
use Rattle.run_text.proofs.+number.Goals as goal

pub overflow_add-result-2 : goal.overflow_add-result-2
overflow_add-result-2 t c = record { fits = omega (arith, c.requires, number_short 19 (omega arith) c.number-last.ensures) }

pub returns-then-n-lt10 : goal.returns-then-n-lt10
returns-then-n-lt10 t c = wrote_one _ c.if-n-lt10.true c.put.ensures

pub returns : goal.returns
returns t c = wrote_more _ c.if-n-lt10.false c.number-last.ensures c.put-2.ensures
