-- The two tables in one list: what each operation on the list does to its halves. Assumes nothing.
use Prim.Native.Nat.{ℕ, ◌+◌, ◌≤◌, ◌<◌}
use mathlib.Core.Path.{◌≡◌, refl, sym, ap, ◌∙◌}
use mathlib.Core.Bool.{Bool, true, false, cond}
use mathlib.Core.List.{List}
use native.Mathlib.Nat.{zero-add}
use native.Mathlib.Omega.{arith}
use lib.Dec.{eqb}
use lib.ListN.{get_or, set, length}
use Rattle.memory_rings.specs.Columns.{col}
use Rattle.memory_rings.specs.Links.{push_next, push_prev, bridged, left_next, left_prev, half, nexts, prevs, next_of, prev_of, set_next, set_prev, pushed, pulled, left, cleared}
use Rattle.memory_rings.proofs.Columns.{col_same, col_above, col_below, store_at, store_past, length_store, length_col, col_at, col_past, col_col}

-- ---- where a link lies

module _ (l : List ℕ) (i : ℕ) where
  pub next_at : i < half l → get_or l i 0 ≡ next_of l i
  unfolding nexts
  next_at h = sym (col_at 0 (half l) l i h ∙ ap (λ (j : ℕ). get_or l j 0) (zero-add i))

  pub next_past : half l ≤ i → 0 ≡ next_of l i
  unfolding nexts
  next_past h = sym (col_past 0 (half l) l i h)

  pub prev_at : i < half l → get_or l (half l + i) 0 ≡ prev_of l i
  unfolding prevs
  prev_at h = sym (col_at (half l) (half l) l i h)

  pub prev_past : half l ≤ i → 0 ≡ prev_of l i
  unfolding prevs
  prev_past h = sym (col_past (half l) (half l) l i h)

-- ---- one link is set

module _ (i v : ℕ) (l : List ℕ) where
  pub set_next_at : i < half l → set l i v ≡ set_next i v l
  unfolding set_next
  set_next_at h = sym (store_at 0 (half l) i v l h ∙ ap (λ (j : ℕ). set l j v) (zero-add i))

  pub set_next_past : half l ≤ i → l ≡ set_next i v l
  unfolding set_next
  set_next_past h = sym (store_past 0 (half l) i v l h)

  pub set_prev_at : i < half l → set l (half l + i) v ≡ set_prev i v l
  unfolding set_prev
  set_prev_at h = sym (store_at (half l) (half l) i v l h)

  pub set_prev_past : half l ≤ i → l ≡ set_prev i v l
  unfolding set_prev
  set_prev_past h = sym (store_past (half l) (half l) i v l h)

  pub length_set_next : length (set_next i v l) ≡ length l
  unfolding set_next
  length_set_next = length_store 0 (half l) i v l

  pub length_set_prev : length (set_prev i v l) ≡ length l
  unfolding set_prev
  length_set_prev = length_store (half l) (half l) i v l

  pub nexts_set_next : nexts (set_next i v l) ≡ set (nexts l) i v
  unfolding nexts set_next
  nexts_set_next = simp length_store (col_same 0 (half l) i v l)

  pub prevs_set_next : prevs (set_next i v l) ≡ prevs l
  unfolding prevs set_next
  prevs_set_next = simp length_store (col_above 0 (half l) i v l (half l) (half l) (omega arith))

  pub nexts_set_prev : nexts (set_prev i v l) ≡ nexts l
  unfolding nexts set_prev
  nexts_set_prev = simp length_store (col_below (half l) (half l) i v l 0 (half l) (omega arith))

  pub prevs_set_prev : prevs (set_prev i v l) ≡ set (prevs l) i v
  unfolding prevs set_prev
  prevs_set_prev = simp length_store (col_same (half l) (half l) i v l)

ruleset halves = (length_set_next, length_set_prev, nexts_set_next, prevs_set_next, nexts_set_prev, prevs_set_prev)

-- ---- each operation

module _ (a id : ℕ) (l : List ℕ) where
  pub nexts_pushed : nexts (pushed a id l) ≡ push_next (nexts l) (prevs l) a id
  unfolding pushed push_next
  nexts_pushed = simp halves

  pub prevs_pushed : prevs (pushed a id l) ≡ push_prev (prevs l) a id
  unfolding pushed push_prev
  prevs_pushed = simp halves

  pub length_pushed : length (pushed a id l) ≡ length l
  unfolding pushed
  length_pushed = simp halves

module _ (id : ℕ) (l : List ℕ) where
  pub nexts_left : nexts (left id l) ≡ left_next (nexts l) (prevs l) id
  unfolding left left_next pulled bridged
  nexts_left = go (eqb (next_of l id) 0)
    where
      go : (t : Bool) → nexts (cond t l (pulled id l)) ≡ cond t (nexts l) (bridged (nexts l) (prevs l) id)
      go true = refl
      go false = simp halves

  pub prevs_left : prevs (left id l) ≡ left_prev (nexts l) (prevs l) id
  unfolding left left_prev pulled bridged
  prevs_left = go (eqb (next_of l id) 0)
    where
      go : (t : Bool) → prevs (cond t l (pulled id l)) ≡ cond t (prevs l) (bridged (prevs l) (nexts l) id)
      go true = refl
      go false = simp halves

  pub length_left : length (left id l) ≡ length l
  unfolding left pulled
  length_left = go (eqb (next_of l id) 0)
    where
      go : (t : Bool) → length (cond t l (pulled id l)) ≡ length l
      go true = refl
      go false = simp halves

module _ (a : ℕ) (l : List ℕ) where
  pub nexts_cleared : nexts (cleared a l) ≡ set (nexts l) a a
  unfolding cleared
  nexts_cleared = simp halves

  pub prevs_cleared : prevs (cleared a l) ≡ set (prevs l) a a
  unfolding cleared
  prevs_cleared = simp halves

  pub length_cleared : length (cleared a l) ≡ length l
  unfolding cleared
  length_cleared = simp halves

-- ---- the halves of a column

module _ (p q : ℕ) (b : List ℕ) (h : p + (q + q) ≤ length b) where
  long : half (col p (q + q) b) ≡ q
  long = let e : length (col p (q + q) b) ≡ q + q = length_col p (q + q) b h in omega arith

  pub nexts_col : nexts (col p (q + q) b) ≡ col p q b
  unfolding nexts
  nexts_col = rw long (col_col p (q + q) 0 q b (omega arith) ∙ ap (λ (j : ℕ). col j q b) (omega arith))

  pub prevs_col : prevs (col p (q + q) b) ≡ col (p + q) q b
  unfolding prevs
  prevs_col = rw long (col_col p (q + q) q q b (omega arith))
