use lib.ListN.{length, take}
use Rattle.memory_picture.specs.Picture.{memory}
use Rattle.run_stream.specs.Lent.{recorder_of, said}
use Rattle.run_figures.specs.Figures.{figures}
use Rattle.run_figures.specs.Counting.{lent, first_said}
use Rattle.run_figures.proofs.Going.{Reached}
use Rattle.run_figures.proofs.count.Given as goal

abbrev pub invariant-loop-b : goal.invariant-loop-b
invariant-loop-b l =
    Reached (lent l.initial.numbers l.initial.held (memory l.initial.words l.initial.messages) (figures l.initial.table l.initial.codes)) (first_said (recorder_of l.initial.numbers l.initial.held) (length l.bytes)) (take l.b-index l.bytes) (recorder_of l.numbers l.held) (memory l.words l.messages) (figures l.table l.codes) l.known (said l.said.number l.said.place)
