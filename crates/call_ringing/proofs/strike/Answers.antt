-- `call_ringing::strike` meets its contract. It is its rule. Assumes nothing.
use Rattle.rules.specs.Codes.{number}
use Rattle.call_ringing.proofs.Firing.{strike_absent, strike_starts, strike_dormant, strike_wakes}
use Rattle.call_ringing.proofs.strike.Goals as goal

pub returns-then-s-eq-ABSENT : goal.returns-then-s-eq-ABSENT
unfolding number
returns-then-s-eq-ABSENT c =
    strike_absent _ _ c.get-i.ensures c.get-s.ensures c.if-s-eq-ABSENT.true c.refuse.ensures

pub returns-then-get-eq-STARTS : goal.returns-then-get-eq-STARTS
returns-then-get-eq-STARTS c =
    strike_starts _ _ c.get-i.ensures c.get-s.ensures c.if-s-eq-ABSENT.false c.get.ensures c.if-get-eq-STARTS.true c.sta_tsk.ensures

pub returns-then-s-eq-DORMANT : goal.returns-then-s-eq-DORMANT
unfolding number
returns-then-s-eq-DORMANT c =
    strike_dormant _ _ c.get-i.ensures c.get-s.ensures c.if-s-eq-ABSENT.false c.get.ensures c.if-get-eq-STARTS.false c.if-s-eq-DORMANT.true c.refuse-then-s-eq-DORMANT.ensures

pub returns : goal.returns
returns c =
    strike_wakes _ _ c.get-i.ensures c.get-s.ensures c.if-s-eq-ABSENT.false c.get.ensures c.if-get-eq-STARTS.false c.if-s-eq-DORMANT.false c.wup_tsk.ensures
