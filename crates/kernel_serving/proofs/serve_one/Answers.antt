-- `kernel_serving::serve_one` meets its contract: a step, and its answer's code and words. Assumes nothing.
use mathlib.Core.Path.{refl}
use Prim.Native.Nat.{ℕ, ◌+◌, ◌*◌}
use lib.IntN.{pos}
use lib.ListN.{get_or}
use borrow.Author.Rules.{rules}
use Rattle.call_words.proofs.Signed.{signed}
use Rattle.kernel_steps.specs.Steps.{reply_of}
use Rattle.kernel_serving.proofs.serve_one.Goals as goal

pub returns : goal.returns
returns c =
    let g = c.args.events.now in
    let i : ℕ = 5 * c.args.i in
    let S =
    rw (signed (get_or g i (pos 0)) (search rules), signed (get_or g (i + 1) (pos 0)) (search rules), signed (get_or g (i + 2) (pos 0)) (search rules), signed (get_or g (i + 3) (pos 0)) (search rules), signed (get_or g (i + 4) (pos 0)) (search rules))
    at c.serve_event-r.ensures in
    λ K. record {
      reply = reply_of c.serve_event-r.result;
      step = S K;
      codes = rw (signed c.serve_event-r.result.code (search rules)) at c.write_code.ensures;
      answers = c.write_words.ensures;
      runs = refl;
    }
