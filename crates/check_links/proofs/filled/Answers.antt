-- `check_links::filled` meets its contract. The zeros and the words that are not are all of them. Assumes nothing.
use Rattle.std.proofs.Common.{◌≡◌, eqb, rules, tests, arith}
use Rattle.std.proofs.lemmas.Iterator.{YieldsList-from_slice, YieldsList-from_map}
use Rattle.std.proofs.lemmas.Iterator.Consumers.{sum_by_from_yields_List, fits_by_from_yields_list}
use Rattle.std.specs.List.{sum_by}
use Rattle.rules.specs.Ids.{once}
use Rattle.check_links.proofs.Steps.{zeros_are}
use Rattle.check_links.proofs.filled.Goals as goal

pub sum-zeros-requires-clause-fits : goal.sum-zeros-requires-clause-fits
sum-zeros-requires-clause-fits c =
    let z = zeros_are c.args.words.now in
    fits_by_from_yields_list _ _ c.map.result _ (YieldsList-from_map _ (λ x. once (eqb x 0)) (YieldsList-from_slice c.args.words.now cc) c.map.ensures.closure (λ x r q k. search (rules, tests))) (omega (arith, c.requires))

zeros : (c : goal.After-sum-zeros) → c.sum-zeros.result ≡ sum_by (λ x. once (eqb x 0)) c.args.words.now
zeros c =
    sum_by_from_yields_List _ _ c.map.result _ c.sum-zeros.ensures.ran (YieldsList-from_map _ (λ x. once (eqb x 0)) (YieldsList-from_slice c.args.words.now cc) c.map.ensures.closure (λ x r q k. search (rules, tests)))

pub overflow_sub-result : goal.overflow_sub-result
overflow_sub-result c = omega (arith, zeros c, zeros_are c.args.words.now)

pub returns : goal.returns
returns c = (omega (arith, zeros c, zeros_are c.args.words.now), omega arith)
