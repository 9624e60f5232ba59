-- `check_damage::first_broken` meets its contract: by the rules before, and the one that is broken. Assumes nothing.
use mathlib.Core.Path.{◌≡◌, ◌∙◌}
use Rattle.check_damage.specs.Damage.{told, told_by}
use Rattle.check_damage.proofs.Steps.{rule_kept, rule_broken, last_rule, from_served, from_twice, from_free, in_order}
use borrow.Author.Rules.{rules}
use Rattle.check_damage.proofs.first_broken.Goals as goal

pub returns-in_err-keeps : goal.returns-in_err-keeps
returns-in_err-keeps c =
    let b = c.args.words.now in
    let e : told_by c.from_residual.result ≡ told c.in_err-keeps.field-0.0.code c.in_err-keeps.field-0.0.id = search rules in
    e ∙ rule_broken _ _ (from_served b) c.in_err-keeps.ensures c.few.ensures.0 (λ i t g. search rules) ∙ in_order b

pub returns-in_err-keeps-2 : goal.returns-in_err-keeps-2
returns-in_err-keeps-2 c =
    let b = c.args.words.now in
    let e : told_by c.from_residual-in_err-keeps-2.result ≡ told c.in_err-keeps-2.field-0.0.code c.in_err-keeps-2.field-0.0.id = search rules in
    e ∙ rule_broken _ _ (from_twice b) c.in_err-keeps-2.ensures c.few-2.ensures.0 (λ i t g. search rules)
    ∙ rule_kept _ _ (from_served b) c.in_ok-keeps.ensures c.few.ensures.0 (λ i t g. search rules) ∙ in_order b

pub returns-in_err-keeps-3 : goal.returns-in_err-keeps-3
returns-in_err-keeps-3 c =
    let b = c.args.words.now in
    let e : told_by c.from_residual-in_err-keeps-3.result ≡ told c.in_err-keeps-3.field-0.0.code c.in_err-keeps-3.field-0.0.id = search rules in
    e ∙ rule_broken _ _ (from_free b) c.in_err-keeps-3.ensures c.few-3.ensures.0 (λ i t g. search rules)
    ∙ rule_kept _ _ (from_twice b) c.in_ok-keeps-2.ensures c.few-2.ensures.0 (λ i t g. search rules)
    ∙ rule_kept _ _ (from_served b) c.in_ok-keeps.ensures c.few.ensures.0 (λ i t g. search rules) ∙ in_order b

pub returns : goal.returns
returns c =
    let b = c.args.words.now in
    last_rule _ _ c.keeps-4.result c.keeps-4.ensures c.few-4.ensures.0 (λ i t g. search rules)
    ∙ rule_kept _ _ (from_free b) c.in_ok-keeps-3.ensures c.few-3.ensures.0 (λ i t g. search rules)
    ∙ rule_kept _ _ (from_twice b) c.in_ok-keeps-2.ensures c.few-2.ensures.0 (λ i t g. search rules)
    ∙ rule_kept _ _ (from_served b) c.in_ok-keeps.ensures c.few.ensures.0 (λ i t g. search rules) ∙ in_order b
