-- The code's steps put together: each law takes what the calls of a function give, in order, and ends in what the function does.
-- Assumes nothing.
use Prim.Native.Nat.{ℕ, zero, suc, ◌-◌, ◌≤◌}
use mathlib.Core.Bool.{Bool, true, false}
use mathlib.Core.List.{List}
use mathlib.Core.Path.{◌≡◌, refl, sym, ◌∙◌}
use native.Mathlib.Numerals.{sub-one}
use native.Mathlib.Omega.{arith}
use lib.ListN.{set, length}
use lib.Seq.{set_out}
use borrow.Author.Tests.{le-leb, lt-ltb}
use Rattle.rules.specs.Ids.{put}
use Rattle.memory_columns.specs.Layout as Layout
use Rattle.memory_columns.specs.Layout.{max_blocks, entry}
use Rattle.memory_columns.specs.Bits.{remasked}
use Rattle.memory_columns.specs.declared.Rings.TheVariants.{Blocks}
use Rattle.memory_queues.specs.Moves.{free_anchor, node_of_block, linked, unlinked}
use Rattle.memory_objects.specs.Moves.{listed, marked}

-- ---- tables by id

pub put_at : (l : List ℕ) (i v : ℕ) → (i ≡ 0 → ⊥) → set l (i - 1) v ≡ put l i v
put_at l zero v ne = absurd (ne refl)
put_at l (suc i) v ne = rw sub-one

pub put_past : (l : List ℕ) (i v : ℕ) → (i ≡ 0 → ⊥) → length l ≤ i - 1 → l ≡ put l i v
put_past l zero v ne h = refl
put_past l (suc i) v ne h = sym (set_out l i v (omega arith))

-- ---- blocks

-- its place in the queue
module _ (p k : ℕ) (b : List ℕ) {n : ℕ} {b₁ : List ℕ} (e : n ≡ node_of_block p k) (f : b₁ ≡ unlinked Blocks n b) where
  pub block_last : {a : ℕ} {b₂ : List ℕ} → a ≡ free_anchor p → b₂ ≡ linked Blocks a n b₁ → b₂ ≡ listed p k true b
  unfolding listed
  block_last g h = h ∙ rw (g, f, e)

  pub block_off : b₁ ≡ listed p k false b
  unfolding listed
  block_off = f ∙ rw e

pub block_in : (p k : ℕ) (t : Bool) (b : List ℕ) {m n : ℕ} {b₁ b₂ : List ℕ} → (k ≡ 0 → ⊥) → k ≤ max_blocks → m ≡ entry Layout.free b p → n ≡ remasked m (k - 1) t
    → b₁ ≡ Layout.put Layout.free p n b → b₂ ≡ listed p k t b₁ → b₂ ≡ marked p k t b
unfolding marked
block_in p zero t b ne h e f g l = absurd (ne refl)
block_in p (suc k) t b ne h e f g l = l ∙ rw (le-leb 1 (suc k) (omega arith), le-leb (suc k) max_blocks h, g, f, e, sub-one, lt-ltb k 32 (omega arith))
