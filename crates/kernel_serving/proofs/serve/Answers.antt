-- `kernel_serving::serve` meets its contract: as a batch of one. Assumes nothing.
use mathlib.Core.Path.{refl}
use mir.Facts.{to_z-of_z}
use mir.Syntax.{w32}
use mir.Val.{SFits}
use Rattle.call_words.proofs.Signed.{signed}
use native.Mathlib.Omega.{arith}
use borrow.Author.Rules.{rules}
use Rattle.kernel_serving.proofs.Written.{one_ran}
use Rattle.kernel_serving.proofs.serve.Goals as goal

pub returns : goal.returns
returns c =
    let e = c.args.event in
    let fk : SFits w32 e.kind = record { sfits = search rules } in
    let fn : SFits w32 e.number = record { sfits = search rules } in
    let fa : SFits w32 e.a = record { sfits = search rules } in
    let fb : SFits w32 e.b = record { sfits = search rules } in
    let fc : SFits w32 e.c = record { sfits = search rules } in
    λ K. rw (signed _ c.result-1.given)
    (one_ran (rw (to_z-of_z fk, to_z-of_z fn, to_z-of_z fa, to_z-of_z fb, to_z-of_z fc) at (c.serve_all.ensures K (record { whole = refl; codes = omega arith; answers = omega arith }))))
