-- `level_on`: what the points left give is what the whole gives; the lux passed is at most the one asked for, and the points left rise.
-- Assumes nothing.
use mathlib.Core.Path.{sym, ap, ◌∙◌}
use Rattle.brightness_curve.specs.declared.Point.{Point}
use Rattle.brightness_curve.proofs.Good.{rises_on, good_rising}
use Rattle.brightness_curve.proofs.Levels.{before_first, from_first, before_next, from_next, lies_between, behind_last}
use Rattle.brightness_curve.proofs.level_on.Goals as goal

pub returns-then-lux-p : goal.returns-then-lux-p
returns-then-lux-p c =
    let e = c.point_at-p.ensures in
    ap (λ (p : Point). p.level) e ∙ sym (before_first _ _ (good_rising _ c.requires).least (rw e at c.if-lux-p.true))

pub loop-k-init : goal.loop-k-init
loop-k-init c =
    let g = good_rising _ c.requires in
    let e = c.point_at-p.ensures in
    let f = rw e at c.if-lux-p.false in
    rw e (g.least, g.most, f, g.rises, sym (from_first _ _ g.least f))

pub step_up-requires : goal.step_up-requires
step_up-requires c =
    let inv = c.loop-k.invariant in
    let e = c.point_at-q.ensures in
    rw e (lies_between _ _ _ c.loop-k-test.true inv.3 inv.2 (rw e at c.if-lux-q.true))

pub returns-then-lux-q : goal.returns-then-lux-q
returns-then-lux-q c =
    let e = c.point_at-q.ensures in
    rw e at c.step_up.ensures ∙ sym (before_next _ _ _ c.loop-k-test.true (rw e at c.if-lux-q.true)) ∙ c.loop-k.invariant.4

pub loop-k-preserved : goal.loop-k-preserved
loop-k-preserved c =
    let inv = c.loop-k.invariant in
    let t = c.loop-k-test.true in
    let e = c.point_at-q.ensures in
    let f = rw e at c.if-lux-q.false in
    rw e (inv.0, inv.1, f, rises_on _ _ t inv.3, sym (from_next _ _ _ t f) ∙ inv.4)

pub returns : goal.returns
returns c = sym (behind_last _ _ _ c.loop-k-test.false) ∙ c.loop-k.invariant.4
