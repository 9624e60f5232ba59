-- The start: what the bytes of a setup make of the lent memory, and the words that each function of src/lib.rt writes.
use Rattle.std.specs.Prelude.{true, cond, List, ◌≡◌, ℕ, ◌+◌, ◌-◌, ◌*◌, eqb, Result, Ok, Err}
use Rattle.rules.specs.Setup.{Read, got, refused, word_at, Setup, setup}
use Rattle.rules.specs.View.{View}
use Rattle.rules.specs.Kernel.{fresh}
use Rattle.setup_plan.specs.Layout.{plan_of}
use Rattle.memory_columns.specs.Layout.{max_blocks, at_most}
use Rattle.memory_tasks.specs.Moves.{started}
use Rattle.memory_objects.specs.Moves.{marked}
use Rattle.memory_picture.specs.Picture.{Memory, view_in, SoundIn}
use Rattle.setup_sections.specs.Judging.{Refusal, refusal}
use Rattle.kernel_fresh.specs.Laying.{in_turn, word_of_id, laid}

-- ---- the contract

-- A setup that is refused: its fault and place, and the memory as it was. One that is read: the memory shows the fresh state and is whole.
abbrev pub StartsAs : Read Setup → Result (Unit {0}) Refusal → Memory → Memory → Type 0
StartsAs (refused f place) r old new = (r ≡ Err (refusal f place)) × (new ≡ old)
StartsAs (got u end) r old new = (r ≡ Ok tt) × SoundIn new × (view_in new ≡ fresh u)

-- the bytes, the answer, and the memory before and after
unfoldable pub Starts : List ℕ → Result (Unit {0}) Refusal → Memory → Memory → Type 0
Starts s r old new = StartsAs (setup s) r old new

-- ---- for the contracts above

-- the memory is accepted and shows the view
pub record Holds (m : Memory) (v : View) : Type 0 where
  pub accepted : SoundIn m
  pub view : view_in m ≡ v

-- ---- what the functions write

-- block k of pool p
abbrev pub freed : ℕ → ℕ → List ℕ → List ℕ
freed p k b = marked p k true b

-- all blocks of pool p
unfoldable pub freed_pool : List ℕ → ℕ → ℕ → List ℕ → List ℕ
freed_pool s at p b = in_turn (freed p) (at_most (word_of_id s at 4 p) max_blocks) 1 b

unfoldable pub begun : List ℕ → ℕ → ℕ → List ℕ → List ℕ
begun s at i b = cond (eqb (word_at s (at + (8 * (i - 1) + 4))) 1) (started i b) b

unfoldable pub fresh_words : List ℕ → List ℕ
fresh_words s =
    in_turn (begun s (plan_of s 0).at.tasks) (plan_of s 0).tasks 1 (in_turn (freed_pool s (plan_of s 0).at.pools) (plan_of s 0).pools 1 (laid s (plan_of s 0)))
