-- `call_ringing::fire` meets its contract. By its test; what it then does is what the rules say of the one alarm. Assumes nothing.
use native.Mathlib.Omega.{arith}
use Rattle.call_words.proofs.Signed.{signed}
use Rattle.call_ringing.proofs.Firing.{fire_not, fire_done}
use Rattle.std.proofs.lemmas.Bool.{not_from_false, not_from_true}
use Rattle.call_ringing.proofs.fire.Goals as goal

pub returns-then-not-is_due : goal.returns-then-not-is_due
returns-then-not-is_due c = record { performs_on_words = fire_not _ _ c.is_due.ensures (not_from_false _ c.if-not-is_due.true); upper_bound = omega arith }

pub returns : goal.returns
returns c =
    record { performs_on_words = fire_done _ _ c.is_due.ensures (not_from_true _ c.if-not-is_due.false) c.get-period.ensures c.due_again-due.ensures c.strike-s.ensures (rw (signed _ c.struct_told-1.given.0.1) at c.unsigned-kept.ensures) c.set_alarm.ensures c.at_most.ensures.0; upper_bound = c.at_most.ensures.1 }
