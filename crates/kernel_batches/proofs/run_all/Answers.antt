-- `kernel_batches::run_all` meets its contract: by what is known of the memory, whatever hands it on. Assumes nothing.
use borrow.Author.Rules.{rules}
use Rattle.memory_picture.specs.Picture.{memory}
use Rattle.kernel_batches.specs.Batches.{lent}
use Rattle.kernel_batches.proofs.Batches.{fit_room}
use Rattle.kernel_batches.proofs.run_all.Goals as goal

pub returns : goal.returns
returns c =
    c.serve_all.ensures (search rules) (fit_room _ (lent (memory c.args.words.now c.args.messages.now) c.args.codes.now c.args.answers.now) c.requires)
