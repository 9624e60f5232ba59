-- `occurs`: a step, and its line. Assumes nothing.
use Rattle.call_words.proofs.Signed.{signed}
use Rattle.kernel_steps.specs.Steps.{reply_of}
use Rattle.run_recorder.proofs.Items.{plays_occurs}
use Rattle.run_recorder.proofs.occurs.Goals as goal

pub returns : goal.returns
returns c =
    let r = reply_of c.serve_held-r.result in
    let W = rw (signed _ c.struct_told-1.given.0.1) at c.event_line-written.ensures in
    rw c.and.ensures (plays_occurs c.args.held.now _ _ _ _ {r = r} c.serve_held-r.ensures W)
