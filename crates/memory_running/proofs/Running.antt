-- On an accepted memory the best task and the running task are the rules'; where the links are whole the word as the queues have it is the one
-- that a whole memory has. Assumes nothing.
use mathlib.Core.List.{List}
use mathlib.Core.Path.{◌≡◌, ap, ◌∙◌}
use Prim.Native.Nat.{ℕ, ◌≤◌}
use native.Mathlib.Omega.{arith}
use borrow.Author.Tests.{le-leb}
use Rattle.rules.specs.Ids.{ids, first}
use Rattle.rules.specs.Places.{ready_at, tabulate}
use Rattle.rules.specs.View.{best, reported, running}
use Rattle.memory_rings.specs.Links.{first_of}
use Rattle.memory_rings.proofs.Laws.{first_law}
use Rattle.memory_columns.specs.declared.Rings.TheVariants.{Tasks}
use Rattle.memory_columns.specs.Layout as Layout
use Rattle.memory_columns.specs.Layout.{max_priorities, words, entry}
use Rattle.memory_queues.specs.Moves.{ready_anchor}
use Rattle.memory_picture.specs.Picture.{tasks_shown, store_shown, handlers_shown, body_shown, anchor, line_shown, view_shown, nonempty_shown, WholeRings, Accepted}
use Rattle.memory_picture.proofs.Done.{used_at}
use Rattle.memory_running.specs.Running.{head_at, ready_marks, best_of, running_of}
use Rattle.memory_running.proofs.Lowest.{HeadOf, head_of_lem, marks_mask, lowest_first}

-- the head of a ready queue, where the links are whole
module _ (b msgs : List ℕ) (W : WholeRings b msgs Tasks) (few : entry Layout.system b Layout.priorities ≤ max_priorities) where
  head : (p : ℕ) → 1 ≤ p → p ≤ entry Layout.system b Layout.priorities → HeadOf (head_at b p) (line_shown b (ready_at p))
  unfolding store_shown line_shown anchor
  head p h k = head_of_lem (tasks_shown b) (head_at b p) (line_shown b (ready_at p)) (ap (first_of (words Layout.next b)) at ∙ first_law W (anchor (ready_at p)) (used_at (ready_at p) (h, k))) (W.ring (anchor (ready_at p)) (used_at (ready_at p) (h, k))).ids
    where
      at : ready_anchor p ≡ anchor (ready_at p)
      at = rw (le-leb p max_priorities (omega (arith, few)))

  -- the word that the check compares
  pub marks_law : ready_marks b ≡ nonempty_shown b
  unfolding ready_marks nonempty_shown ids
  marks_law = rw (le-leb (entry Layout.system b Layout.priorities) max_priorities few) (marks_mask b (λ p. line_shown b (ready_at p)) (entry Layout.system b Layout.priorities) head)

pub best_law : (b msgs : List ℕ) → Accepted b msgs → best_of b ≡ first (best (view_shown b msgs))
unfolding best_of nonempty_shown view_shown tabulate ids store_shown body_shown
best_law b msgs A = rw A.whole.word (lowest_first b (λ p. line_shown b (ready_at p)) (entry Layout.system b Layout.priorities) few (head b msgs (A.whole.rings Tasks) few))
  where
    few : entry Layout.system b Layout.priorities ≤ max_priorities
    few = A.sound.body.sizes.priorities.1

pub running_law : (b msgs : List ℕ) → Accepted b msgs → running_of b ≡ running (view_shown b msgs)
unfolding running_of running view_shown body_shown
running_law b msgs A = ap (reported (handlers_shown b)) (best_law b msgs A)
