-- `check_links::budget` meets its contract. By its tests. Assumes nothing.
use Rattle.std.proofs.Common.{arith, length-take}
use Rattle.check_links.proofs.Steps.{ids_few, budget_long, budget_short, budget_is, budget_none}
use Rattle.check_links.proofs.budget.Goals as goal

pub returns-then-words-gt-MOST : goal.returns-then-words-gt-MOST
returns-then-words-gt-MOST c = budget_long _ _ _ c.if-words-gt-MOST.true

pub returns-then-links-n : goal.returns-then-links-n
returns-then-links-n c = budget_short _ _ _ c.ids-n.ensures c.if-links-n.true

pub filled-requires : goal.filled-requires
filled-requires c =
    let a = c.args in
    simp length-take (omega (arith, c.ids-n.ensures, ids_few a.table a.words.now, c.if-words-gt-MOST.false))

pub returns-then-filled-all : goal.returns-then-filled-all
returns-then-filled-all c =
    budget_is _ _ _ c.if-words-gt-MOST.false c.ids-n.ensures c.if-links-n.false c.held-all.ensures.0 c.filled.ensures.0 c.if-filled-all.true

pub returns-else-filled-all : goal.returns-else-filled-all
returns-else-filled-all c =
    budget_none _ _ _ c.if-words-gt-MOST.false c.ids-n.ensures c.if-links-n.false c.held-all.ensures.0 c.filled.ensures.0 c.if-filled-all.false
