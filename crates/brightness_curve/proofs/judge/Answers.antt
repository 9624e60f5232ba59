-- `judge`: what the points left give is what the whole gives. Assumes nothing.
use mathlib.Core.Path.{sym, ◌∙◌}
use borrow.Author.Tests.{le-leb, lt-leb}
use Rattle.brightness_curve.proofs.Good.{bad_count, first_good, first_bad_lem, next_good, next_bad, judge_last}
use Rattle.brightness_curve.proofs.judge.Goals as goal
use Rattle.brightness_curve.proofs.judge.Goals.{then-count-lt1-via-then-count-lt1, then-count-lt1-via-else-count-lt1+then-count-gt-MAX_POINTS}

pub returns-then-count-lt1 : goal.returns-then-count-lt1
returns-then-count-lt1 c = elim c.then-count-lt1.branch [
  | then-count-lt1-via-then-count-lt1 w ↦ sym (bad_count _ (rw (lt-leb _ _ w.if-count-lt1.true)))
  | then-count-lt1-via-else-count-lt1+then-count-gt-MAX_POINTS w ↦
      sym (bad_count _ (rw (le-leb _ _ w.if-count-lt1.false, lt-leb _ _ w.if-count-gt-MAX_POINTS.true)))
]

pub returns-then-not-in_range : goal.returns-then-not-in_range
returns-then-not-in_range c =
    let e = c.point_at-last.ensures in
    sym (first_bad_lem _ c.if-count-lt1.false c.if-count-gt-MAX_POINTS.false (rw e at c.in_range.ensures) c.if-not-in_range.true)

pub loop-k-init : goal.loop-k-init
loop-k-init c =
    let l = c.if-count-lt1.false in
    let m = c.if-count-gt-MAX_POINTS.false in
    let e = c.point_at-last.ensures in
    (l, m, rw e (sym (first_good _ l m (rw e at c.in_range.ensures) c.if-not-in_range.false)))

pub returns-then-not-goes_on : goal.returns-then-not-goes_on
returns-then-not-goes_on c =
    let e = c.point_at-next.ensures in
    sym (sym c.loop-k.invariant.2 ∙ next_bad _ _ c.loop-k-test.true (rw e at c.goes_on.ensures) c.if-not-goes_on.true)

pub loop-k-preserved : goal.loop-k-preserved
loop-k-preserved c =
    let inv = c.loop-k.invariant in
    let e = c.point_at-next.ensures in
    (inv.0, inv.1, rw e (sym (next_good _ _ c.loop-k-test.true (rw e at c.goes_on.ensures) c.if-not-goes_on.false) ∙ inv.2))

pub returns : goal.returns
returns c = sym (judge_last _ _ c.loop-k-test.false) ∙ c.loop-k.invariant.2
