-- `call_judging::on_nothing` meets its contract. What is common is all. Assumes nothing.
use Rattle.call_judging.proofs.on_nothing.Goals as goal

pub returns : goal.returns
returns c = λ m A. c.common.ensures
