use Rattle.memory_picture.specs.Picture.{memory}
use Rattle.run_recorder.specs.Recording.{lent}
use Rattle.run_recorder.proofs.Going.{Going}
use Rattle.run_recorder.proofs.take_part.Given as goal

abbrev pub invariant-loop-i : goal.invariant-loop-i
invariant-loop-i l =
    Going l.bytes (lent l.initial.numbers l.initial.held (memory l.initial.words l.initial.messages)) l.initial.text l.known l.i l.at (lent l.numbers l.held (memory l.words l.messages)) l.text
