-- The calls on pools: at each return of the code the rule's verdict is what was answered and done. Assumes nothing.
use mathlib.Core.Bool.{Bool, true, false}
use mathlib.Core.List.{List}
use mathlib.Core.Path.{◌≡◌, refl, sym, ◌∙◌}
use Prim.Native.Nat.{ℕ, ◌≤◌}
use native.Mathlib.Omega.{arith}
use lib.IntN.{pos}
use borrow.Author.Tests.{le-leb}
use Rattle.rules.specs.Acts.{mark}
use Rattle.rules.specs.Codes.{number, H-ILBLK}
use Rattle.rules.specs.State.{pool}
use Rattle.rules.specs.Places.{free_in}
use Rattle.rules.specs.View.{line}
use Rattle.rules.specs.Verdicts.{Verdict}
use Rattle.rules.specs.Objects.{take_blk, rel_blk}
use Rattle.memory_columns.specs.Layout.{max_pools, before_pool}
use Rattle.memory_queues.specs.Moves.{free_anchor, node_of_block}
use Rattle.memory_waits.specs.Waits.{released}
use Rattle.memory_objects.specs.Moves.{marked}
use Rattle.memory_picture.specs.Perform.{performed, performed_marks}
use Rattle.memory_picture.specs.Picture.{body_shown, anchor, view_shown, Accepted}
use Rattle.memory_running.proofs.Lowest.{HeadOf}
use Rattle.call_words.specs.declared.Outcome.{Outcome}
use Rattle.call_words.specs.Outcomes.{outcome}
use Rattle.call_words.specs.Doing.{Does, DoesOnWords}
use Rattle.call_words.specs.Naming.{NamesObject}
use Rattle.call_words.proofs.Verdicts.{check_stops, check_passes, first_none, first_some, gives_one}
use Rattle.call_objects.specs.Waiting.{first_waiter, first_block}
use Rattle.call_pools.specs.Blocks.{not_out}
use Rattle.call_objects.proofs.First.{first_at}
use Rattle.call_objects.proofs.Waiters.{to_nobody, to_waiter}
use Rattle.call_pools.proofs.Blocks.{out_read}

-- ---- the first free block

module _ (o : ℕ) (b m : List ℕ) (A : Accepted b m) (h : NamesObject pool o (view_shown b m)) where
  few : o ≤ max_pools
  few = omega (arith, h.1, A.sound.body.sizes.pools)

  anchor_is : free_anchor o ≡ anchor (free_in o)
  unfolding anchor
  anchor_is = rw (le-leb o max_pools few)

  before_is : node_of_block o 0 ≡ before_pool o
  before_is = rw (le-leb 1 o h.0, le-leb o max_pools few) (omega arith)

  -- it stands first in the pool's queue; in an empty one stands none
  block_law : HeadOf (first_block o b) (line (view_shown b m) (free_in o))
  unfolding first_block view_shown body_shown
  block_law = first_at b m A (free_in o) h (rw (anchor_is, before_is))

module _ (i : ℕ) {b : List ℕ} {s : Outcome} where
  -- ---- get_blk, pget_blk: the first free block is taken, or as r says

  module _ {n : ℕ} (en : n ≡ first_block i b) (r : Verdict) where
    pub none_taken : n ≡ 0 → {b' : List ℕ} → ((m : List ℕ) → Does r s b m b' m) → DoesOnWords (NamesObject pool i) (λ v. take_blk v (pos i) r) s b b'
    unfolding take_blk
    none_taken z d m A k = first_none _ r _ z (rw en (block_law i b m A k)) (d m)

    pub block_taken : (n ≡ 0 → ⊥) → {b' : List ℕ} → b' ≡ marked i n false b → s ≡ outcome (pos 0) n 0 0 → DoesOnWords (NamesObject pool i) (λ v. take_blk v (pos i) r) s b b'
    unfolding take_blk performed performed_marks
    block_taken z g e m A k = first_some _ r _ z (rw en (block_law i b m A k)) (gives_one (mark i n false) refl e g)

  -- ---- rel_blk

  module _ (n : ℕ) {t : Bool} (et : t ≡ not_out b i n) where
    pub rel_bad : t ≡ true → s ≡ outcome (number H-ILBLK) 0 0 0 → DoesOnWords (NamesObject pool i) (λ v. rel_blk v (pos i) (pos n)) s b b
    unfolding rel_blk
    rel_bad z e m A k = check_stops H-ILBLK _ (out_read i b m A k n ∙ sym et ∙ z) e

    module _ (z : t ≡ false) {x : ℕ} (ex : x ≡ first_waiter 5 i b) where
      pub rel_serves : (x ≡ 0 → ⊥) → {b' : List ℕ} → b' ≡ released x 0 n b → s ≡ outcome (pos 0) 0 0 1 → DoesOnWords (NamesObject pool i) (λ v. rel_blk v (pos i) (pos n)) s b b'
      unfolding rel_blk
      rel_serves y g e m A k = check_passes H-ILBLK _ (out_read i b m A k n ∙ sym et ∙ z) (to_waiter pool i b m A k ex y n _ g e)

      pub rel_frees : x ≡ 0 → {b' : List ℕ} → b' ≡ marked i n true b → s ≡ outcome (pos 0) 0 0 0 → DoesOnWords (NamesObject pool i) (λ v. rel_blk v (pos i) (pos n)) s b b'
      unfolding rel_blk performed performed_marks
      rel_frees y g e m A k = check_passes H-ILBLK _ (out_read i b m A k n ∙ sym et ∙ z) (to_nobody pool i b m A k ex y n _ (gives_one (mark i n true) refl e g))
