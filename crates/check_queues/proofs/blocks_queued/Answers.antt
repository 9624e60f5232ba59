-- `check_queues::blocks_queued` meets its contract. The masks laid are those of the definition. Assumes nothing.
use mathlib.Core.Path.{ap, ◌∙◌}
use mathlib.Core.List.{map}
use Prim.Native.Nat.{ℕ}
use Rattle.rules.specs.Ids.{ids}
use Rattle.memory_columns.specs.declared.Rings.TheVariants.{Blocks}
use Rattle.memory_columns.specs.Layout as Layout
use Rattle.memory_columns.specs.Layout.{max_pools, entry, at_most}
use Rattle.check_queues.specs.Queues.{settled, queued_in}
use Rattle.check_queues.proofs.Steps.{laid_by, laid_is}
use borrow.Author.Rules.{rules}
use Rattle.check_queues.proofs.blocks_queued.Goals as goal

pub returns : goal.returns
unfolding queued_in
returns c =
    let b = c.args.words.now in
    c.settled.ensures
    ∙ ap (settled b Blocks)
    (laid_is (entry Layout.free b) _ _ (search rules) (laid_by (entry Layout.free b) _ _ (λ j h. search (rules, c.lay.ensures j h)))
    ∙ ap (λ (k : ℕ). map (entry Layout.free b) (ids k)) (c.at_most-n.ensures.0 ∙ ap (λ (k : ℕ). at_most k max_pools) c.get.ensures))
