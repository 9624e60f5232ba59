-- `decode`: the words so far stand in front. Assumes nothing.
use mathlib.Core.Path.{ap, ◌∙◌}
use native.Mathlib.Omega.{arith}
use mir.Syntax.{w32}
use mir.Facts.{to_z-of_z}
use Rattle.run_reading.specs.Recorded.{signed_word}
use Rattle.run_compare.proofs.Words.{decode_next, decode_none, decode_all}
use Rattle.run_compare.proofs.decode.Goals as goal

pub loop-i-init : goal.loop-i-init
loop-i-init c = decode_none _ _ _

pub loop-i-preserved : goal.loop-i-preserved
loop-i-preserved c =
    let l = c.loop-i in
    let e = c.signed.ensures ∙ ap signed_word c.word.ensures in
    rw (to_z-of_z {w = w32} (record { sfits = c.signed.type_inv }) ∙ e, l.invariant) (decode_next _ _ _ _ (omega arith))

pub returns : goal.returns
returns c =
    let l = c.loop-i in
    decode_all _ _ _ _ _ (omega arith) c.loop-i-test.false l.invariant
