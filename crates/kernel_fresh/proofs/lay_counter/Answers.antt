-- Invariant: what is left, from here, is the whole from the start.
use mathlib.Core.Path.{◌∙◌}
use borrow.Author.Tests.{eq-eqb, ne_eqb}
use Rattle.kernel_fresh.specs.Laying.{laid_counter}
use Rattle.kernel_fresh.proofs.Steps.{turn_none, turn_step}
use Rattle.kernel_fresh.proofs.lay_counter.Goals as goal

pub returns-then-n-eq0 : goal.returns-then-n-eq0
unfolding laid_counter
returns-then-n-eq0 c = simp (eq-eqb _ _ c.if-n-eq0.true)

pub loop-k-preserved : goal.loop-k-preserved
loop-k-preserved c = turn_step _ _ _ _ c.loop-k-test.true c.lay_alarm.ensures ∙ c.loop-k.invariant

pub returns : goal.returns
unfolding laid_counter
returns c =
    turn_none _ _ _ _ c.loop-k-test.false ∙ c.loop-k.invariant ∙ simp (ne_eqb _ _ c.if-n-eq0.false, c.set.ensures, c.word.ensures)
