use Rattle.check_links.proofs.Steps.{Surveying}
use Rattle.check_links.specs.Survey.{ranged}
use Rattle.check_links.proofs.survey.Given as goal

abbrev pub invariant-loop-b : goal.invariant-loop-b
invariant-loop-b l = Surveying l.links l.table l.words l.first l.n l.b l.k (ranged l.links l.table l.words l.a l.count l.budget)
