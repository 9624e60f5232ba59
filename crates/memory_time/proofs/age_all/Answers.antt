use mathlib.Core.Path.{◌∙◌}
use native.Mathlib.Omega.{arith}
use Rattle.memory_time.specs.Elapsing.{aged_all}
use Rattle.memory_time.proofs.Steps.{age_none, age_next}
use Rattle.memory_time.proofs.age_all.Goals as goal

pub loop-t-preserved : goal.loop-t-preserved
loop-t-preserved c = age_next _ _ _ (omega arith) c.age.ensures ∙ c.loop-t.invariant

pub returns : goal.returns
unfolding aged_all
returns c = age_none _ _ _ (omega arith) ∙ c.loop-t.invariant ∙ rw (c.at_most-n.ensures.0, c.get.ensures)
