use Rattle.memory_time.proofs.Steps.{age_one}
use Rattle.memory_time.proofs.age.Goals as goal

pub returns : goal.returns
returns c = age_one _ _ c.get.ensures c.saturating_sub-n.ensures c.set.ensures
