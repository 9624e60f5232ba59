-- What each act on blocks, handlers and alarms does to the words, for any words.
use Rattle.std.specs.Prelude.{Bool, cond, ◌&&◌, List, ℕ, pred, leb}
use Rattle.memory_columns.specs.Layout as Layout
use Rattle.memory_columns.specs.Layout.{max_blocks, free, handling, alarm_code, alarm_due, alarm_period, entry, put}
use Rattle.memory_columns.specs.Bits.{masked}
use Rattle.memory_columns.specs.declared.Rings.TheVariants.{Blocks}
use Rattle.memory_queues.specs.Moves.{free_anchor, node_of_block, linked, unlinked}

-- ---- blocks: bit k - 1 of the mask is block k's mark

-- block k of pool p goes last in the queue of free blocks, or stands in none
unfoldable pub listed : ℕ → ℕ → Bool → List ℕ → List ℕ
listed p k t b = cond t (linked Blocks (free_anchor p) (node_of_block p k) (unlinked Blocks (node_of_block p k) b)) (unlinked Blocks (node_of_block p k) b)

-- its mark, and its place in the queue; a number that is no block's changes nothing
unfoldable pub marked : ℕ → ℕ → Bool → List ℕ → List ℕ
marked p k t b = cond (leb 1 k && leb k max_blocks) (listed p k t (put free p (masked (entry free b p) (pred k) t) b)) b

-- ---- handlers

-- so many are open, and the outermost one interrupted task i
unfoldable pub nested : ℕ → ℕ → List ℕ → List ℕ
nested d i b = put handling Layout.interrupted i (put handling Layout.depth d b)

-- ---- alarms

-- alarm k keeps code c (without its sign), is due at d - 1 (0: idle) and has period p
unfoldable pub alarmed : ℕ → ℕ → ℕ → ℕ → List ℕ → List ℕ
alarmed k c d p b = put alarm_period k p (put alarm_due k d (put alarm_code k c b))
