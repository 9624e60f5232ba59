-- `check_state::all_unserved` meets its contract. Assumes nothing.
use Rattle.std.proofs.Common.{refl, rules, tests}
use Rattle.check_ranges.proofs.Loops.{all_is_every}
use Rattle.check_state.specs.Unserved.{unserved_ok}
use Rattle.check_state.proofs.all_unserved.Goals as goal

pub returns : goal.returns
returns c = all_is_every (unserved_ok c.args.words.now) c.args.n c.all.ensures.ran refl (λ x b q k. search (rules, tests))
