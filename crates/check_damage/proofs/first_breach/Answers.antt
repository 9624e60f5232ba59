-- `check_damage::first_breach` meets its contract. The naming tells what the rules tell of the view shown. Assumes nothing.
use mathlib.Core.Path.{sym, ap, ◌∙◌}
use Rattle.rules.specs.Codes.{number}
use Rattle.rules.specs.Breach.{Breach}
use Rattle.check_ranges.proofs.Steps.{failed, passed}
use Rattle.check_damage.specs.Damage.{Told}
use Rattle.check_damage.proofs.Steps.{told_breach, low_fits}
use Rattle.check_damage.proofs.Named.{number_told, rule_told}
use borrow.Author.Rules.{rules}
use Rattle.check_damage.proofs.first_breach.Goals as goal

pub returns-then-not-numbers_ok : goal.returns-then-not-numbers_ok
unfolding number
returns-then-not-numbers_ok c =
    let a = c.args in
    let e = number_told a.words.now a.messages.now (search rules) (low_fits a.words.now c.fits-words) (failed c.numbers_ok.ensures (search rules)) in
    record { code_value = ap (λ (x : Breach). number x.code) (sym e); id_value = ap (λ (x : Breach). x.id) (sym e) }

pub returns : goal.returns
returns c =
    let a = c.args in
    let e = rule_told a.words.now a.messages.now (search rules) (low_fits a.words.now c.fits-words) (passed c.numbers_ok.ensures (search rules)) in
    let t = told_breach c.first_broken.result c.err.ensures.value c.unwrap_or.ensures ∙ c.first_broken.ensures ∙ sym e in
    record { code_value = ap (λ (x : Told). x.code) t; id_value = ap (λ (x : Told). x.id) t }
