-- `call_judging::common` meets its contract. The first test that holds decides. Assumes nothing.
use Rattle.call_judging.proofs.Refused.{none_left, word_stops, word_passes}
use Rattle.call_judging.proofs.common.Goals as goal

pub returns-then-misplaced : goal.returns-then-misplaced
returns-then-misplaced c =
    word_stops _ _ c.misplaced.ensures c.if-misplaced.true

pub returns-then-names_absent : goal.returns-then-names_absent
returns-then-names_absent c =
    word_passes _ _ c.misplaced.ensures c.if-misplaced.false (word_stops _ _ c.names_absent.ensures c.if-names_absent.true)

pub returns-then-names_self : goal.returns-then-names_self
returns-then-names_self c =
    word_passes _ _ c.misplaced.ensures c.if-misplaced.false
    (word_passes _ _ c.names_absent.ensures c.if-names_absent.false (word_stops _ _ c.names_self.ensures c.if-names_self.true))

pub returns-then-names_dormant : goal.returns-then-names_dormant
returns-then-names_dormant c =
    word_passes _ _ c.misplaced.ensures c.if-misplaced.false
    (word_passes _ _ c.names_absent.ensures c.if-names_absent.false
    (word_passes _ _ c.names_self.ensures c.if-names_self.false (word_stops _ _ c.names_dormant.ensures c.if-names_dormant.true)))

pub returns : goal.returns
returns c =
    word_passes _ _ c.misplaced.ensures c.if-misplaced.false
    (word_passes _ _ c.names_absent.ensures c.if-names_absent.false
    (word_passes _ _ c.names_self.ensures c.if-names_self.false (word_passes _ _ c.names_dormant.ensures c.if-names_dormant.false none_left)))
