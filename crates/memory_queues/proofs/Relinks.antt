-- What a move in the rings makes of each column. Assumes nothing.
use mathlib.Core.Bool.{Bool, true, false, cond}
use mathlib.Core.List.{List, [], ◌∷◌}
use mathlib.Core.Path.{◌≡◌, refl, ap, ◌∙◌, subst}
use Prim.Native.Nat.{ℕ, ◌+◌, ◌-◌, ◌≤◌, ◌<◌}
use native.Mathlib.Nat.{add-zero}
use native.Mathlib.Omega.{arith}
use lib.Dec.{leb, lit<}
use lib.ListN.{length, get_or, set}
use lib.Seq.{get_or-set_same}
use borrow.Author.Tests.{leb-true}
use Rattle.memory_rings.specs.Columns.{col, splice}
use Rattle.memory_rings.specs.Links.{push_next, push_prev, left_next, left_prev, half, nexts, prevs, pushed, left, cleared}
use Rattle.memory_rings.proofs.Columns.{length_col, col_splice_inside}
use Rattle.memory_rings.proofs.Halves.{nexts_pushed, prevs_pushed, length_pushed, nexts_left, prevs_left, length_left, nexts_cleared, prevs_cleared, length_cleared}
use Rattle.memory_columns.specs.declared.Rings.{Rings}
use Rattle.memory_columns.specs.declared.Rings.TheVariants.{Tasks}
use Rattle.memory_columns.specs.Layout.{Column, state_words, fits, back, both, next, prev, next_of, prev_of, links_of, nonempty, is_ready_node, ready_node, words, entry, put, Only}
use Rattle.memory_columns.specs.Bits.{masked}
use Rattle.memory_columns.proofs.Frame.{Sized, fits_in, words_length, put_size, put_only, entry_put, nexts_both, prevs_both, splice_size, splice_only, only_both, only_none}
use Rattle.memory_queues.specs.Moves.{noted, annotated, inhabited, linked, unlinked, emptied, queued, unqueued}
use Rattle.memory_queues.proofs.Parts.{links_fit}

-- ---- rings: the links forth in column n, and the links back behind them, are others

pub record Relinked (n : Column) (b c nx pv : List ℕ) : Type 0 where
  pub size : Sized c
  pub only : Only (both n ∷ []) b c
  pub next : words n c ≡ nx
  pub prev : words (back n) c ≡ pv

module _ (b : List ℕ) (size : Sized b) where
  module _ (n : Column) (k : fits (both n) ≡ true) where
    relinked : (l : List ℕ) → length l ≡ (both n).width → Relinked n b (splice n.at l b) (nexts l) (prevs l)
    unfolding nexts prevs
    relinked l e = record {
      size = splice_size (both n) l b size k e;
      only = splice_only (both n) l b size k e;
      next = rw halved (subst (λ (j : ℕ). col j n.width (splice n.at l b) ≡ col 0 n.width l) (add-zero n.at) (col_splice_inside n.at l b room 0 n.width (omega arith)));
      prev = rw halved (col_splice_inside n.at l b room n.width n.width (omega arith));
    }
      where
        room : n.at + length l ≤ length b
        room = rw e (fits_in (both n) b size k)

        halved : half l ≡ n.width
        halved = omega arith

    long : length (words (both n) b) ≡ (both n).width
    long = words_length (both n) b size k

    push : (a t : ℕ) → Relinked n b (splice n.at (pushed a t (words (both n) b)) b) (push_next (words n b) (words (back n) b) a t) (push_prev (words (back n) b) a t)
    push a t = rw (← nexts_both n b size k, ← prevs_both n b size k, ← nexts_pushed, ← prevs_pushed) (relinked (pushed a t (words (both n) b)) (length_pushed a t (words (both n) b) ∙ long))

    take_out : (t : ℕ) → Relinked n b (splice n.at (left t (words (both n) b)) b) (left_next (words n b) (words (back n) b) t) (left_prev (words n b) (words (back n) b) t)
    take_out t = rw (← nexts_both n b size k, ← prevs_both n b size k, ← nexts_left, ← prevs_left) (relinked (left t (words (both n) b)) (length_left t (words (both n) b) ∙ long))

    clear : (a : ℕ) → Relinked n b (splice n.at (cleared a (words (both n) b)) b) (set (words n b) a a) (set (words (back n) b) a a)
    clear a = rw (← nexts_both n b size k, ← prevs_both n b size k, ← nexts_cleared, ← prevs_cleared) (relinked (cleared a (words (both n) b)) (length_cleared a (words (both n) b) ∙ long))

  -- rings of any sort
  module _ (r : Rings) where
    pub linked_law : (a i : ℕ) → Relinked (next_of r) b (linked r a i b) (push_next (words (next_of r) b) (words (prev_of r) b) a i) (push_prev (words (prev_of r) b) a i)
    unfolding linked
    linked_law = push (next_of r) (links_fit r)

    pub unlinked_law : (i : ℕ) → Relinked (next_of r) b (unlinked r i b) (left_next (words (next_of r) b) (words (prev_of r) b) i) (left_prev (words (next_of r) b) (words (prev_of r) b) i)
    unfolding unlinked
    unlinked_law = take_out (next_of r) (links_fit r)

    pub emptied_law : (a : ℕ) → Relinked (next_of r) b (emptied r a b) (set (words (next_of r) b) a a) (set (words (prev_of r) b) a a)
    unfolding emptied
    emptied_law = clear (next_of r) (links_fit r)

  -- a word that was just written: with numerals for p and q it computes
  pub put_at : (p q i v : ℕ) → i < q → get_or (set (col p q b) i v) i 0 ≡ cond (leb (p + q) state_words) v (get_or (set (col p q b) i v) i 0)
  put_at p q i v h = go (leb (p + q) state_words) refl
    where
      go : (t : Bool) → leb (p + q) state_words ≡ t → get_or (set (col p q b) i v) i 0 ≡ cond t v (get_or (set (col p q b) i v) i 0)
      go true e = get_or-set_same (col p q b) i v 0 (rw (length_col p q b (rw size (leb-true _ _ e))) h)
      go false e = refl

-- ---- the rings of tasks with the word of nonempty ready queues

pub record Requeued (b c nx pv : List ℕ) (w : ℕ) : Type 0 where
  pub size : Sized c
  pub only : Only (links_of Tasks ∷ nonempty ∷ []) b c
  pub next : words next c ≡ nx
  pub prev : words prev c ≡ pv
  pub word : entry nonempty c 0 ≡ w

module _ (a : ℕ) (x : Bool) (c : List ℕ) (h : Sized c) where
  annotated_size : Sized (annotated a x c)
  unfolding annotated
  annotated_size = go (is_ready_node a)
    where
      go : (t : Bool) → Sized (cond t (put nonempty 0 (masked (entry nonempty c 0) (a - ready_node 1) x) c) c)
      go true = put_size nonempty 0 _ c h
      go false = h

  annotated_only : Only (nonempty ∷ []) c (annotated a x c)
  unfolding annotated
  annotated_only = go (is_ready_node a)
    where
      go : (t : Bool) → Only (nonempty ∷ []) c (cond t (put nonempty 0 (masked (entry nonempty c 0) (a - ready_node 1) x) c) c)
      go true = put_only nonempty 0 _ c
      go false = only_none (nonempty ∷ []) c

  annotated_word : entry nonempty (annotated a x c) 0 ≡ noted a x (entry nonempty c 0)
  unfolding annotated
  annotated_word = go (is_ready_node a)
    where
      go : (t : Bool) → entry nonempty (cond t (put nonempty 0 (masked (entry nonempty c 0) (a - ready_node 1) x) c) c) 0 ≡ cond t (masked (entry nonempty c 0) (a - ready_node 1) x) (entry nonempty c 0)
      go true = entry_put nonempty 0 _ c h refl (lit< tt)
      go false = refl

-- others are the links, then the mark
requeued : {b c nx pv : List ℕ} (a : ℕ) (x : Bool) → Relinked next b c nx pv → Requeued b (annotated a x c) nx pv (noted a x (entry nonempty b 0))
requeued {b} {c} a x R = record {
  size = annotated_size a x c R.size;
  only = only_both R.only (annotated_only a x c R.size);
  next = (annotated_only a x c R.size).kept next refl ∙ R.next;
  prev = (annotated_only a x c R.size).kept prev refl ∙ R.prev;
  word = annotated_word a x c R.size ∙ ap (λ (l : List ℕ). noted a x (get_or l 0 0)) (R.only.kept nonempty refl);
}

module _ (b : List ℕ) (size : Sized b) where
  pub queued_law : (a t : ℕ) → Requeued b (queued a t b) (push_next (words next b) (words prev b) a t) (push_prev (words prev b) a t) (noted a true (entry nonempty b 0))
  unfolding queued
  queued_law a t = requeued a true (linked_law b size Tasks a t)

  pub unqueued_law : (t : ℕ) → Requeued b (unqueued t b) (left_next (words next b) (words prev b) t) (left_prev (words next b) (words prev b) t)
      (noted (entry next b t) (inhabited (left_next (words next b) (words prev b) t) (entry next b t)) (entry nonempty b 0))
  unfolding unqueued
  unqueued_law t =
      let R = unlinked_law b size Tasks t in
      let n : ℕ = entry next b t in
      subst (λ (l : List ℕ). Requeued b (annotated n (inhabited (words next (unlinked Tasks t b)) n) (unlinked Tasks t b)) (left_next (words next b) (words prev b) t) (left_prev (words next b) (words prev b) t)
      (noted n (inhabited l n) (entry nonempty b 0))) R.next (requeued n (inhabited (words next (unlinked Tasks t b)) n) R)
