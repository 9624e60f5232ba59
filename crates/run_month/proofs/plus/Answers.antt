-- `plus`: those before i are done. Assumes nothing.
use mathlib.Core.List.{List}
use mathlib.Core.Path.{sym, ap, ◌∙◌}
use Prim.Native.Nat.{ℕ}
use native.Mathlib.Numerals.{add-one}
use native.Mathlib.Omega.{arith}
use lib.ListN.{length-set}
use borrow.Author.Rules.{rules}
use Rattle.run_month.specs.Capped.{plus_of}
use Rattle.run_month.proofs.Onward.{onward_next, onward_end, onward_start}
use Rattle.run_month.proofs.plus.Goals as goal

pub loop-i-init : goal.loop-i-init
loop-i-init c = (onward_start _ _, search rules)

pub loop-i-preserved : goal.loop-i-preserved
loop-i-preserved c =
    let A = c.args in
    let e = add-one c.loop-i.i in
    (rw (e, c.capped.ensures) (onward_next c.loop-i.i c.loop-i.sums A.r.counts (search rules) (search rules)) ∙ c.loop-i.invariant.0, length-set c.loop-i.sums c.loop-i.i c.capped.result ∙ c.loop-i.invariant.1)

pub returns : goal.returns
unfolding plus_of
returns c =
    ap (λ (l : List ℕ). record { sums = l }) (sym (onward_end c.loop-i.i c.loop-i.sums _ (omega (arith, c.loop-i.invariant.1))) ∙ c.loop-i.invariant.0)
