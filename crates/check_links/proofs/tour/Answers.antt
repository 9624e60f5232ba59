-- `check_links::tour` meets its contract. The invariant: what is left of the tour from here is the whole tour. Assumes nothing.
use Rattle.std.proofs.Common.{refl, ◌∙◌, rules}
use Rattle.check_links.proofs.Steps.{node, tour_strays, tour_open, tour_closed, tour_turned, tour_on, tour_spent}
use Rattle.check_links.proofs.tour.Goals as goal

pub loop-k-init : goal.loop-k-init
loop-k-init c = (refl, c.requires.2)

pub prev-requires : goal.prev-requires
prev-requires c = c.requires.2

pub returns-then-prev-x : goal.returns-then-prev-x
returns-then-prev-x c =
    tour_open _ _ _ _ _ _ c.loop-k-test.true c.next-y.ensures c.if-y-a.true c.prev.ensures c.if-prev-x.true ∙ c.loop-k.invariant.0

pub returns-then-y-a : goal.returns-then-y-a
returns-then-y-a c =
    tour_closed _ _ _ _ _ _ c.loop-k-test.true c.next-y.ensures c.if-y-a.true c.prev.ensures c.if-prev-x.false ∙ c.loop-k.invariant.0

pub is_own-requires : goal.is_own-requires
is_own-requires c = let p = c.requires in (p.0, p.3)

pub returns-then-not-is_own : goal.returns-then-not-is_own
returns-then-not-is_own c =
    tour_strays _ _ _ _ _ _ c.loop-k-test.true c.next-y.ensures c.if-y-a.false c.is_own.ensures (search rules) ∙ c.loop-k.invariant.0

pub prev-requires-in-loop-k : goal.prev-requires-in-loop-k
prev-requires-in-loop-k c =
    let a = c.args in
    node a.table a.words.now a.first a.a c.next-y.result c.is_own.ensures (search rules) c.requires.1

pub returns-then-prev-x-2 : goal.returns-then-prev-x-2
returns-then-prev-x-2 c =
    tour_turned _ _ _ _ _ _ c.loop-k-test.true c.next-y.ensures c.if-y-a.false c.is_own.ensures (search rules) c.prev-in-loop-k.ensures c.if-prev-x-2.true ∙ c.loop-k.invariant.0

pub loop-k-preserved : goal.loop-k-preserved
loop-k-preserved c =
    let a = c.args in (
      tour_on _ _ _ _ _ _ c.loop-k-test.true c.next-y.ensures c.if-y-a.false c.is_own.ensures (search rules) c.prev-in-loop-k.ensures c.if-prev-x-2.false ∙ c.loop-k.invariant.0,
      node a.table a.words.now a.first a.a c.next-y.result c.is_own.ensures (search rules) c.requires.1,
    )

pub returns : goal.returns
returns c = tour_spent _ _ _ _ _ _ c.loop-k-test.false ∙ c.loop-k.invariant.0
