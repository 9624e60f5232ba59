-- `check_queues::mail_queued` meets its contract. The mailbox of each message is its home. Assumes nothing.
use mathlib.Core.Path.{refl, ap, ◌∙◌}
use mathlib.Core.List.{map}
use Prim.Native.Nat.{ℕ}
use Rattle.rules.specs.Ids.{of, ids}
use Rattle.memory_columns.specs.declared.Rings.TheVariants.{Messages}
use Rattle.memory_columns.specs.Layout.{max_messages, at_most}
use Rattle.check_queues.specs.Queues.{settled, queued_in}
use Rattle.check_queues.proofs.Steps.{laid_is}
use borrow.Author.Rules.{rules}
use Rattle.check_queues.proofs.mail_queued.Goals as goal

pub returns : goal.returns
unfolding queued_in
returns c =
    let a = c.args in
    c.settled.ensures
    ∙ ap (settled a.words.now Messages)
    (laid_is (λ j. of a.messages.now j 0) _ _ (search rules) (record { home = λ j h. refl })
    ∙ ap (λ (k : ℕ). map (λ j. of a.messages.now j 0) (ids k)) (c.at_most-n.ensures.0 ∙ ap (λ (k : ℕ). at_most k max_messages) c.ids_in.ensures))
