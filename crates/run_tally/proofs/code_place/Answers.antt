-- `code_place`: the first place at which the code stands. Assumes nothing.
use mathlib.Core.Path.{◌≡◌, sym, ◌∙◌}
use mir.Facts.{to_z-of_z}
use Rattle.std.proofs.Common.{rules, tests}
use Rattle.std.proofs.lemmas.Iterator.{YieldsList-from_slice, IsFirst-from_position, index_from_first}
use Rattle.run_tally.specs.Tables.{codes, place_in}
use Rattle.run_tally.proofs.Tables.{place_none, place_here, place_next}
use Rattle.run_tally.proofs.code_place.Goals as goal

pub returns : goal.returns
returns c =
    let code = c.args.code in
    let known = to_z-of_z c.ranges.code in
    let first = IsFirst-from_position _ _ _ (λ x. x ≡ code) (λ x. x ≡ code → ⊥) c.position.ensures.ran (YieldsList-from_slice codes c.iter.ensures.rest) (λ x q k. search (rules, tests, known)) (λ x q k. search (rules, tests, known)) in
    c.unwrap_or.ensures ∙ sym (index_from_first (λ l. place_in l code) (λ x. x ≡ code) (λ x. x ≡ code → ⊥) (place_none code) (place_here code) (place_next code) codes _ first)
