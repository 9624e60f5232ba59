-- `check_links::survey` meets its contract. The invariant: the rings from b on, from the budget as it is, are all the rings from the budget at the start. Assumes nothing.
use Rattle.std.proofs.Common.{refl, ◌∙◌, rules}
use Rattle.check_links.proofs.Steps.{survey_start, survey_left, anchor_node, anchor_covered, survey_next, survey_ends, ring_empty, ring_open, range_long, range_ids, range_over, range_bare}
use Rattle.check_links.proofs.survey.Goals as goal

pub returns-then-words-gt-MOST : goal.returns-then-words-gt-MOST
returns-then-words-gt-MOST c = range_long _ _ _ _ _ _ c.if-words-gt-MOST.true

pub returns-then-half-ids : goal.returns-then-half-ids
returns-then-half-ids c = range_ids _ _ _ _ _ _ c.ids.ensures c.if-half-ids.true

pub returns-then-half-e : goal.returns-then-half-e
returns-then-half-e c = range_over _ _ _ _ _ _ c.if-half-e.true

pub returns-then-not-is_covered : goal.returns-then-not-is_covered
returns-then-not-is_covered c = let g = c.args in range_bare _ g.table g.words.now _ _ _ c.is_covered.ensures (search rules)

pub loop-b-init : goal.loop-b-init
loop-b-init c =
    let g = c.args in
    survey_start _ g.table g.words.now _ _ _ c.if-words-gt-MOST.false c.ids.ensures c.if-half-ids.false c.if-half-e.false c.is_covered.ensures (search rules)

pub next-requires : goal.next-requires
next-requires c = anchor_node _ _ _ _ _ _ _ _ c.loop-b.invariant c.loop-b-test.true

pub prev-requires : goal.prev-requires
prev-requires c = anchor_node _ _ _ _ _ _ _ _ c.loop-b.invariant c.loop-b-test.true

pub returns-then-prev-b : goal.returns-then-prev-b
returns-then-prev-b c =
    survey_ends _ _ _ _ _ _ _ _ c.loop-b.invariant c.loop-b-test.true (ring_open _ _ _ _ _ c.next.ensures c.if-next-b.true c.prev.ensures c.if-prev-b.true) refl

pub tour-k-requires : goal.tour-k-requires
tour-k-requires c =
    let S = c.loop-b.invariant in
    (S.few, S.room, anchor_node _ _ _ _ _ _ _ _ S c.loop-b-test.true, anchor_covered _ _ _ _ _ _ _ _ S c.loop-b-test.true)

pub returns-then-k-eq0 : goal.returns-then-k-eq0
returns-then-k-eq0 c =
    survey_ends _ _ _ _ _ _ _ _ c.loop-b.invariant c.loop-b-test.true c.tour-k.ensures c.if-k-eq0.true

pub loop-b-preserved : goal.loop-b-preserved
loop-b-preserved c =
    survey_next _ _ _ _ _ _ _ _ c.loop-b.invariant c.loop-b-test.true (elim c.if-next-b.branch [
      | goal.then-next-b+else-prev-b w ↦ w.k-is ∙ ring_empty _ _ _ _ _ c.next.ensures w.if-next-b.true w.prev.ensures w.if-prev-b.false
      | goal.else-next-b+else-k-eq0 w ↦ w.k-is ∙ w.tour-k.ensures
    ])

pub returns : goal.returns
returns c = survey_left _ _ _ _ _ _ _ _ c.loop-b.invariant c.loop-b-test.false
