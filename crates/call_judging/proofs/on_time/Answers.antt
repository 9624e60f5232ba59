-- `call_judging::on_time` meets its contract. The time, then what is common. Assumes nothing.
use mir.Facts.{to_z-of_z}
use Rattle.call_judging.proofs.Tests.{time_low, time_fine}
use Rattle.call_judging.proofs.Refused.{word_stops, word_passes}
use mathlib.Core.Path.{refl, sym}
use Rattle.call_judging.proofs.on_time.Goals as goal

pub returns-then-a-lt-FOR_EVER : goal.returns-then-a-lt-FOR_EVER
returns-then-a-lt-FOR_EVER c =
    λ m A. word_stops _ _ (sym (time_low c.args.a (rw (to_z-of_z c.ranges.a) at c.if-a-lt-FOR_EVER.true))) refl

pub returns : goal.returns
returns c =
    λ m A. word_passes _ _ (sym (time_fine c.args.a (rw (to_z-of_z c.ranges.a) at c.if-a-lt-FOR_EVER.false))) refl c.common.ensures
