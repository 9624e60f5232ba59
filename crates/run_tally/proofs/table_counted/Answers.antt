-- `table_counted`: the rows before i are counted. Assumes nothing.
use mathlib.Core.Path.{refl, sym, ap, ◌∙◌}
use Prim.Native.Nat.{ℕ, ◌<◌}
use native.Mathlib.Omega.{arith}
use lib.ListN.{get_or}
use Rattle.run_tally.specs.Tables.{table_counted}
use Rattle.run_tally.proofs.Tables.{onward_start, onward_next, onward_skip, onward_end}
use Rattle.run_tally.proofs.table_counted.Goals as goal
use Rattle.run_tally.proofs.table_counted.Goals.{then-s-lt-STATES, else-s-lt-STATES}

pub loop-i-init : goal.loop-i-init
loop-i-init c = onward_start _ _ _

pub loop-i-preserved : goal.loop-i-preserved
loop-i-preserved c =
    let A = c.args in
    let f : ℕ → ℕ = λ k. get_or A.states.now k 0 in
    let m = c.min-m.result in
    let h : c.loop-i.i < m = c.loop-i-test.true in
    elim c.if-s-lt-STATES.branch [
      | then-s-lt-STATES w ↦ rw (w.t-is, w.more.ensures) (onward_next c.loop-i.i m f c.loop-i.t h refl w.if-s-lt-STATES.true)
      | else-s-lt-STATES w ↦ rw w.t-is (onward_skip c.loop-i.i m f c.loop-i.t h refl w.if-s-lt-STATES.false)
    ] ∙ c.loop-i.invariant

pub returns : goal.returns
returns c =
    let m = c.min-m in
    sym (onward_end c.loop-i.i m.result _ c.loop-i.t c.loop-i-test.false) ∙ c.loop-i.invariant ∙ ap (λ (k : ℕ). table_counted k (λ i. get_or c.args.states.now i 0) c.args.table) (omega (arith, m.ensures))
