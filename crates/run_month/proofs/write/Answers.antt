-- `write`: the first i are copied. Assumes nothing.
use mathlib.Core.Path.{◌≡◌, sym, ◌∙◌}
use native.Mathlib.Omega.{arith}
use native.Mathlib.Numerals.{add-one}
use lib.ListN.{length, get_or, length-set}
use borrow.Author.Rules.{rules}
use Rattle.run_month.proofs.Fits.{fit_each, merged_start, merged_next, merged_end}
use Rattle.run_month.proofs.write.Goals as goal

pub loop-i-init : goal.loop-i-init
loop-i-init c = (merged_start _ _, c.requires.0)

pub overflow_cast-out : goal.overflow_cast-out
overflow_cast-out c =
    record { fits = fit_each c.args.t.sums c.loop-i.i (search rules) c.requires.1 }

pub loop-i-preserved : goal.loop-i-preserved
loop-i-preserved c =
    let n : length c.args.t.sums ≡ 253 = search rules in
    let h = c.loop-i-test.true in
    let w = c.loop-i.invariant in
    (rw (add-one c.loop-i.i) (merged_next c.loop-i.i c.loop-i.out c.args.t.sums (omega (arith, w.1)) (omega arith)) ∙ w.0, length-set c.loop-i.out c.loop-i.i (get_or c.args.t.sums c.loop-i.i 0) ∙ w.1)

pub returns : goal.returns
returns c =
    let n : length c.args.t.sums ≡ 253 = search rules in
    let w = c.loop-i.invariant in
    sym (merged_end c.loop-i.i c.loop-i.out c.args.t.sums (omega (arith, w.1, c.loop-i-test.false)) (omega (arith, n, c.loop-i-test.false)) (omega (arith, n, w.1))) ∙ w.0
