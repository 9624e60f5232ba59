-- `check_queues::tasks_queued` meets its contract. The homes laid are those of the definition. Assumes nothing.
use mathlib.Core.Path.{ap, ◌∙◌}
use mathlib.Core.List.{map}
use Prim.Native.Nat.{ℕ}
use Rattle.rules.specs.Ids.{ids}
use Rattle.memory_columns.specs.declared.Rings.TheVariants.{Tasks}
use Rattle.memory_columns.specs.Layout.{max_tasks, at_most}
use Rattle.check_queues.specs.Queues.{home, settled, queued_in}
use Rattle.check_queues.proofs.Steps.{laid_by, laid_is}
use borrow.Author.Rules.{rules}
use Rattle.check_queues.proofs.tasks_queued.Goals as goal

pub returns : goal.returns
unfolding queued_in
returns c =
    let b = c.args.words.now in
    c.settled.ensures
    ∙ ap (settled b Tasks)
    (laid_is (home b) _ _ (search rules) (laid_by (home b) _ _ (λ j h. search (rules, c.lay.ensures j h)))
    ∙ ap (λ (k : ℕ). map (home b) (ids k)) (c.at_most-n.ensures.0 ∙ ap (λ (k : ℕ). at_most k max_tasks) c.ids_in.ensures))
