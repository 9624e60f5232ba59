-- The word of nonempty ready queues, kept by `push` and `leave`. Assumes nothing.
use mathlib.Core.Bool.{Bool, true, not}
use mathlib.Core.List.{List}
use mathlib.Core.Path.{◌≡◌, ap, ◌∙◌}
use Prim.Native.Nat.{ℕ, ◌-◌, ◌≤◌, ◌<◌}
use native.Mathlib.Omega.{arith}
use lib.Dec.{eqb}
use borrow.Author.Tests.{le-leb, lt-leb, lt-ltb}
use Rattle.memory_rings.specs.Links.{first_of}
use Rattle.memory_columns.specs.Layout.{max_priorities, ready_node, next, nonempty, words, entry, put}
use Rattle.memory_columns.specs.Bits.{remasked}
use Rattle.memory_columns.specs.declared.Rings.TheVariants.{Tasks}
use Rattle.memory_queues.specs.Moves.{annotated, linked, unlinked, queued, unqueued}

module _ (a : ℕ) (x : Bool) (b : List ℕ) where
  pub note_below : a < ready_node 1 → b ≡ annotated a x b
  unfolding annotated
  note_below h = rw (lt-leb (ready_node 1) a h)

  pub note_past : ready_node max_priorities < a → b ≡ annotated a x b
  unfolding annotated
  note_past h = rw (le-leb (ready_node 1) a (omega arith), lt-leb a (ready_node max_priorities) h)

  pub note_in : {m n : ℕ} {b' : List ℕ} → ready_node 1 ≤ a → a ≤ ready_node max_priorities → m ≡ entry nonempty b 0 → n ≡ remasked m (a - ready_node 1) x → b' ≡ put nonempty 0 n b → b' ≡ annotated a x b
  unfolding annotated
  note_in h k em en eb = eb ∙ rw (le-leb (ready_node 1) a h, le-leb a (ready_node max_priorities) k, en, em, lt-ltb (a - ready_node 1) 32 (omega arith))

pub push_steps : (a t : ℕ) (b : List ℕ) {b₁ b₂ : List ℕ} → b₁ ≡ linked Tasks a t b → b₂ ≡ annotated a true b₁ → b₂ ≡ queued a t b
unfolding queued
push_steps a t b e f = f ∙ ap (annotated a true) e

pub leave_steps : (t : ℕ) (b : List ℕ) {n f : ℕ} {b₁ b₂ : List ℕ} → n ≡ entry next b t → b₁ ≡ unlinked Tasks t b → f ≡ first_of (words next b₁) n → b₂ ≡ annotated n (not (eqb f 0)) b₁ → b₂ ≡ unqueued t b
unfolding unqueued
leave_steps t b en e ef g = g ∙ rw (ef, e, en)
