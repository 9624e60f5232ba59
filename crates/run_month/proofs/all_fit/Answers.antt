-- `all_fit`: the test of each is the definition's. Assumes nothing.
use mathlib.Core.Path.{◌∙◌}
use lib.Dec.{ltb}
use Rattle.std.proofs.Common.{rules, tests}
use Rattle.std.proofs.lemmas.Iterator.{YieldsList-from_slice}
use Rattle.std.proofs.lemmas.Iterator.Search.{all_from_yields_List}
use Rattle.run_month.proofs.Fits.{fits_listed}
use Rattle.run_month.proofs.all_fit.Goals as goal

pub returns : goal.returns
returns c =
    all_from_yields_List (λ a. ltb a 4294967296) _ _ _ c.all.ensures.ran (YieldsList-from_slice c.args.t.sums cc) (λ x b q k. search (rules, tests))
    ∙ fits_listed c.args.t.sums
