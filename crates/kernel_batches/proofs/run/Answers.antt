-- `kernel_batches::run` meets its contract: by whether the batch fits, and the start. Assumes nothing.
use mathlib.Core.Path.{sym, ◌∙◌}
use Rattle.memory_picture.specs.Picture.{memory}
use Rattle.setup_sections.proofs.Judging.{passed}
use Rattle.kernel_batches.specs.Batches.{lent}
use Rattle.kernel_batches.proofs.Batches.{run_done, run_refused, run_none}
use Rattle.kernel_batches.proofs.run.Goals as goal

pub run_all-requires : goal.run_all-requires
run_all-requires c = sym c.fit.ensures ∙ c.in_ok-fit.was

pub returns-in_err-fit : goal.returns-in_err-fit
returns-in_err-fit c = rw (passed _ _ c.from_residual.ensures.1) (run_none _ _ c.fit.ensures _ _ c.in_err-fit.was)

pub returns-in_err-start : goal.returns-in_err-start
returns-in_err-start c =
    rw (passed _ _ c.from_residual-in_err-start.ensures.1)
    (run_refused c.args.events.now (lent (memory c.args.words.now c.args.messages.now) c.args.codes.now c.args.answers.now) c.fit.ensures c.in_ok-fit.was c.args.setup.now _ _ c.start.ensures _ c.in_err-start.was)

pub returns : goal.returns
returns c =
    run_done c.args.events.now (lent (memory c.args.words.now c.args.messages.now) c.args.codes.now c.args.answers.now) c.fit.ensures c.in_ok-fit.was c.args.setup.now _ _ c.start.ensures _ c.in_ok-start.was c.run_all.ensures
