-- `check_links::ones` meets its contract. Assumes nothing.
use Rattle.std.proofs.Common.{◌≡◌, ◌*◌, length, ◌∙◌, rules, tests, arith}
use lib.Count.{ones}
use Rattle.std.proofs.lemmas.Iterator.{YieldsList-from_slice, YieldsList-from_map}
use Rattle.std.proofs.lemmas.Iterator.Consumers.{sum_by_from_yields_List}
use Rattle.check_links.specs.declared.Table.TheVariants.{Masks}
use Rattle.check_links.specs.Survey.{counted, bits, housed}
use Rattle.check_links.proofs.Bits.{ones_are}
use Rattle.check_links.proofs.Counts.{counted_few}
use Rattle.check_links.proofs.ones.Goals as goal

pub returns : goal.returns
returns c =
    let w = c.args.masks.now in
    let e : c.sum.result ≡ counted (bits * length w) (housed Masks w) =
    sum_by_from_yields_List ones w c.map.result _ c.sum.ensures.ran (YieldsList-from_map _ ones (YieldsList-from_slice w cc) c.map.ensures.closure (λ x r q k. search (rules, tests)))
    ∙ ones_are w (λ i. (c.type_inv.masks i).fits) in
    (e, omega (arith, e, counted_few (bits * length w) (housed Masks w)))
