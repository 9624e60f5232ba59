-- `occurs`: an event is served and counted. Assumes nothing.
use mir.Syntax.{w32}
use mir.Facts.{to_z-of_z}
use Rattle.kernel_steps.specs.Steps.{reply_of}
use Rattle.run_figures.proofs.Going.{told_occurs}
use Rattle.run_figures.proofs.occurs.Goals as goal

pub returns : goal.returns
returns c =
    let r = reply_of c.serve_held-r.result in
    rw c.and.ensures (λ i. told_occurs _ _ _ c.args.held.now i {r = r} c.serve_held-r.ensures (rw (to_z-of_z {w = w32} (record { sfits = c.struct_told-1.given.0.1 })) at c.count_event.ensures))
