-- What each function on queues does to the words, for any words.
use Rattle.std.specs.Prelude.{Bool, true, cond, not, ◌&&◌, List, ℕ, ◌-◌, eqb, leb}
use Rattle.memory_rings.specs.Columns.{splice}
use Rattle.memory_rings.specs.Links.{pushed, left, cleared, first_of}
use Rattle.memory_columns.specs.declared.Rings.{Rings}
use Rattle.memory_columns.specs.declared.Rings.TheVariants.{Tasks}
use Rattle.memory_columns.specs.Layout as Layout
use Rattle.memory_columns.specs.Layout.{max_priorities, max_objects, max_pools, max_blocks, ready_node, is_ready_node, wait_node, mail_node, free_node, block_node, next, links_of, nonempty, words, entry, put}
use Rattle.memory_columns.specs.Bits.{masked}

-- ---- nodes

-- the anchor of a ready queue, of the waiters on an object, of a mailbox's messages, of a pool's free blocks
abbrev pub ready_anchor : ℕ → ℕ
ready_anchor p = cond (leb p max_priorities) (ready_node p) 0

unfoldable pub wait_anchor : ℕ → ℕ → ℕ
wait_anchor k o = cond (leb k Layout.pools && leb o max_objects) (wait_node k o) 0

abbrev pub mail_anchor : ℕ → ℕ
mail_anchor m = cond (leb m max_objects) (mail_node m) 0

abbrev pub free_anchor : ℕ → ℕ
free_anchor p = cond (leb p max_pools) (free_node p) 0

-- the node of a block
abbrev pub node_of_block : ℕ → ℕ → ℕ
node_of_block p k = cond (leb 1 p && (leb p max_pools && leb k max_blocks)) (block_node p k) 0

-- ---- rings of any sort

-- id i goes last behind an anchor
unfoldable pub linked : Rings → ℕ → ℕ → List ℕ → List ℕ
linked r a i b = splice (links_of r).at (pushed a i (words (links_of r) b)) b

-- it leaves its queue
unfoldable pub unlinked : Rings → ℕ → List ℕ → List ℕ
unlinked r i b = splice (links_of r).at (left i (words (links_of r) b)) b

-- the queue of an anchor is made empty
unfoldable pub emptied : Rings → ℕ → List ℕ → List ℕ
emptied r a b = splice (links_of r).at (cleared a (words (links_of r) b)) b

-- ---- the queues of tasks

-- The word of nonempty ready queues with the mark of an anchor as x says; an anchor that is no ready queue's has none.
abbrev pub noted : ℕ → Bool → ℕ → ℕ
noted a x w = cond (is_ready_node a) (masked w (a - ready_node 1) x) w

unfoldable pub annotated : ℕ → Bool → List ℕ → List ℕ
annotated a x b = cond (is_ready_node a) (put nonempty 0 (masked (entry nonempty b 0) (a - ready_node 1) x) b) b

-- some task stands in the queue of an anchor
abbrev pub inhabited : List ℕ → ℕ → Bool
inhabited nx a = not (eqb (first_of nx a) 0)

-- task t goes last in the queue of an anchor, which has a task then
unfoldable pub queued : ℕ → ℕ → List ℕ → List ℕ
queued a t b = annotated a true (linked Tasks a t b)

-- it leaves its queue; if it was the last one there, the node behind it is the anchor, whose queue may be empty then
unfoldable pub unqueued : ℕ → List ℕ → List ℕ
unqueued t b = annotated (entry next b t) (inhabited (words next (unlinked Tasks t b)) (entry next b t)) (unlinked Tasks t b)
