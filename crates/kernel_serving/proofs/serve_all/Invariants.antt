use Rattle.memory_picture.specs.Picture.{memory}
use Rattle.kernel_steps.specs.Written.{lent}
use Rattle.kernel_serving.proofs.Written.{Turning}
use Rattle.kernel_serving.proofs.serve_all.Given as goal

abbrev pub invariant-loop-i : goal.invariant-loop-i
invariant-loop-i l = Turning l.events l.fn.known l.now l.i (lent (memory l.initial.words l.initial.messages) l.initial.codes l.initial.answers) (lent (memory l.words l.messages) l.codes l.answers)
