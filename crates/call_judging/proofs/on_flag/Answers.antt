-- `call_judging::on_flag` meets its contract. The id, the pattern, the mode, then what is common. Assumes nothing.
use mathlib.Core.Path.{refl, sym}
use mir.Facts.{to_z-of_z}
use borrow.Author.Tests.{eq-eqb, ne_eqb}
use Rattle.rules.specs.State.{flag}
use Rattle.call_judging.proofs.Refused.{word_stops, word_passes}
use Rattle.call_judging.proofs.Judged.{object_is}
use Rattle.call_judging.proofs.on_flag.Goals as goal

pub returns-then-is_outside : goal.returns-then-is_outside
returns-then-is_outside c =
    λ m A. word_stops _ _ (object_is flag c.args.i _ m refl c.get.ensures c.is_outside.ensures) c.if-is_outside.true

pub returns-then-p-eq0 : goal.returns-then-p-eq0
returns-then-p-eq0 c =
    λ m A. word_passes _ _ (object_is flag c.args.i _ m refl c.get.ensures c.is_outside.ensures) c.if-is_outside.false (word_stops _ _ (sym (eq-eqb _ 0 c.if-p-eq0.true)) refl)

pub returns-then-is_above : goal.returns-then-is_above
returns-then-is_above c =
    λ m A. word_passes _ _ (object_is flag c.args.i _ m refl c.get.ensures c.is_outside.ensures) c.if-is_outside.false (word_passes _ _ (sym (ne_eqb _ 0 c.if-p-eq0.false)) refl (word_stops _ _ (rw (to_z-of_z c.ranges.c) at c.is_above.ensures) c.if-is_above.true))

pub returns : goal.returns
returns c =
    λ m A. word_passes _ _ (object_is flag c.args.i _ m refl c.get.ensures c.is_outside.ensures) c.if-is_outside.false (word_passes _ _ (sym (ne_eqb _ 0 c.if-p-eq0.false)) refl (word_passes _ _ (rw (to_z-of_z c.ranges.c) at c.is_above.ensures) c.if-is_above.false c.common.ensures))
