-- `run`: a batch from a setup by itself. Assumes nothing.
use native.Mathlib.Omega.{arith}
use Rattle.memory_picture.specs.Picture.{memory}
use Rattle.kernel_batches.specs.Batches.{lent}
use Rattle.run_compare.proofs.Answers.{ran_law}
use Rattle.run_compare.proofs.run.Goals as goal

pub returns : goal.returns
returns c =
    let a = c.args in
    let p = c.requires in
    λ u e. ran_law a.input.now a.from a.to p.1 a.events.now a.n p.2 u e (lent (memory a.words.now a.messages.now) a.out.now.codes a.out.now.answers) (omega arith) (omega arith) _ _ c.run.ensures
