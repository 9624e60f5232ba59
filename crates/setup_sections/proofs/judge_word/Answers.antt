-- `judge_word`: its refusals are the errors for a word that is not whole and for one out of range. Assumes nothing.
use mathlib.Core.Path.{◌∙◌}
use Rattle.setup_sections.specs.Judging.{coded}
use Rattle.setup_sections.proofs.Judging.{told_so}
use Rattle.setup_sections.proofs.judge_word.Goals as goal

pub returns : goal.returns
returns g c =
    rw c.name.ensures at c.word_within.ensures ∙ told_so (λ f. g.F.FaultName.name (coded f)) c.args.bytes.now _ c.args.fault c.args.at
