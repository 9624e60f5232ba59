-- Columns: what a store into a column and a part in its place do to every column. Assumes nothing.
use Prim.Native.Nat.{ℕ, ◌+◌, ◌-◌, ◌≤◌, ◌<◌}
use mathlib.Core.Path.{◌≡◌, refl, sym, ap, ◌∙◌, subst}
use mathlib.Core.Bool.{Bool, true, false, cond, ◌&&◌, ◌||◌}
use mathlib.Core.Logic.{◌⊎◌, inl, inr}
use mathlib.Core.List.{List, ◌++◌, append_assoc}
use native.Mathlib.Nat.{zero-add}
use native.Mathlib.Omega.{arith}
use lib.Dec.{eqb, leb, ltb}
use lib.ListN.{get_or, set, length, take, drop, length-take, length-drop, length-append, length-set, get_or-eq_default}
use lib.Seq.{set_out, drop-set-add, drop-set-lt, take-set-lt, take-set-le, take-append-le, drop-append-le, drop-append-add, length-take-le, drop-drop, get_or-take, get_or-drop, ext_get_or}
use borrow.Rule.Slice.PartMut.{put_mid}
use borrow.Author.Tests.{eqb-true, leb-true, ltb-true, ltb-false, lt-ltb, le-ltb}
use Rattle.memory_rings.specs.Columns.{col, store, splice}

-- ---- a store

-- the columns have no word in common
abbrev pub clear_of : ℕ → ℕ → ℕ → ℕ → Bool
clear_of p q p' q' = leb (p + q) p' || leb (p' + q') p

module _ (p q i v : ℕ) (b : List ℕ) where
  pub col_same : col p q (store p q i v b) ≡ set (col p q b) i v
  unfolding col store
  col_same = go (ltb i q) refl
    where
      go : (t : Bool) → ltb i q ≡ t → take q (drop p (cond t (set b (p + i) v) b)) ≡ set (take q (drop p b)) i v
      go true e = rw drop-set-add (take-set-lt q (drop p b) i v (ltb-true i q e))
      go false e = sym (set_out (take q (drop p b)) i v (simp length-take (omega (arith, ltb-false i q e))))

  pub col_above : (p' q' : ℕ) → p + q ≤ p' → col p' q' (store p q i v b) ≡ col p' q' b
  unfolding col store
  col_above p' q' h = go (ltb i q) refl
    where
      go : (t : Bool) → ltb i q ≡ t → take q' (drop p' (cond t (set b (p + i) v) b)) ≡ take q' (drop p' b)
      go true e = ap (take q') (drop-set-lt p' b (p + i) v (omega (arith, ltb-true i q e)))
      go false e = refl

  pub col_below : (p' q' : ℕ) → p' + q' ≤ p → col p' q' (store p q i v b) ≡ col p' q' b
  unfolding col store
  col_below p' q' h = go (ltb i q)
    where
      at : p + i ≡ p' + (p - p' + i)
      at = omega arith

      go : (t : Bool) → take q' (drop p' (cond t (set b (p + i) v) b)) ≡ take q' (drop p' b)
      go true = rw (at, drop-set-add) (take-set-le q' (drop p' b) (p - p' + i) v (omega arith))
      go false = refl

  pub store_at : i < q → store p q i v b ≡ set b (p + i) v
  unfolding store
  store_at h = rw (lt-ltb i q h)

  pub store_past : q ≤ i → store p q i v b ≡ b
  unfolding store
  store_past h = rw (le-ltb i q h)

  pub length_store : length (store p q i v b) ≡ length b
  unfolding store
  length_store = go (ltb i q)
    where
      go : (t : Bool) → length (cond t (set b (p + i) v) b) ≡ length b
      go true = length-set b (p + i) v
      go false = refl

-- all cases in one: with numerals for p, q, p' and q' it computes, so that `simp col-store` decides any column after any stores
pub col_store : (p' q' p q i v : ℕ) (b : List ℕ)
    → col p' q' (store p q i v b) ≡ cond (eqb p' p && eqb q' q) (set (col p' q' b) i v) (cond (clear_of p q p' q') (col p' q' b) (col p' q' (store p q i v b)))
col_store p' q' p q i v b = go (eqb p' p) (eqb q' q) (leb (p + q) p') (leb (p' + q') p) refl refl refl refl
  where
    go : (s t u w : Bool) → eqb p' p ≡ s → eqb q' q ≡ t → leb (p + q) p' ≡ u → leb (p' + q') p ≡ w
        → col p' q' (store p q i v b) ≡ cond (s && t) (set (col p' q' b) i v) (cond (u || w) (col p' q' b) (col p' q' (store p q i v b)))
    go true true u w e f g h = rw (eqb-true p' p e, eqb-true q' q f) (col_same p q i v b)
    go true false true w e f g h = col_above p q i v b p' q' (leb-true _ _ g)
    go true false false true e f g h = col_below p q i v b p' q' (leb-true _ _ h)
    go true false false false e f g h = refl
    go false t true w e f g h = col_above p q i v b p' q' (leb-true _ _ g)
    go false t false true e f g h = col_below p q i v b p' q' (leb-true _ _ h)
    go false t false false e f g h = refl

-- ---- a column's words

pub length_col : (p q : ℕ) (b : List ℕ) → p + q ≤ length b → length (col p q b) ≡ q
unfolding col
length_col p q b h = length-take-le q (drop p b) (simp length-drop (omega arith))

pub col_at : (p q : ℕ) (b : List ℕ) (i : ℕ) → i < q → get_or (col p q b) i 0 ≡ get_or b (p + i) 0
unfolding col
col_at p q b i h = get_or-take q (drop p b) i 0 h ∙ get_or-drop p b i 0

pub col_past : (p q : ℕ) (b : List ℕ) (i : ℕ) → q ≤ i → get_or (col p q b) i 0 ≡ 0
unfolding col
col_past p q b i h = get_or-eq_default (take q (drop p b)) 0 (simp length-take (omega arith))

-- a column of a column
pub col_col : (p q r s : ℕ) (b : List ℕ) → r + s ≤ q → col r s (col p q b) ≡ col (p + r) s b
unfolding col
col_col p q r s b h =
    ext_get_or 0 _ _ (simp (length-take, length-drop) (omega arith)) (λ i k.
    let k' : i < s = omega (arith, simp length-take at k) in
    get_or-take s (drop r (take q (drop p b))) i 0 k' ∙ get_or-drop r (take q (drop p b)) i 0 ∙ get_or-take q (drop p b) (r + i) 0 (omega arith)
    ∙ get_or-drop p b (r + i) 0 ∙ sym (get_or-take s (drop (p + r) b) i 0 k' ∙ get_or-drop (p + r) b i 0 ∙ ap (λ (j : ℕ). get_or b j 0) (omega arith)))

-- ---- a part in place of a column

module _ (p : ℕ) (l b : List ℕ) (h : p + length l ≤ length b) where
  pub length_splice : length (splice p l b) ≡ length b
  unfolding splice
  length_splice = simp (length-append, length-take, length-drop) (omega arith)

  front : length (take p b) ≡ p
  front = length-take-le p b (omega arith)

  pub col_splice_inside : (r s : ℕ) → r + s ≤ length l → col (p + r) s (splice p l b) ≡ col r s l
  unfolding splice col
  col_splice_inside r s k =
      ap (take s) (drop-append-le (p + r) (take p b ++ l) (drop (p + length l) b) (simp (length-append, front) (omega arith)))
      ∙ take-append-le s (drop (p + r) (take p b ++ l)) (drop (p + length l) b) (simp (length-drop, length-append, front) (omega arith))
      ∙ ap (take s) (subst (λ (j : ℕ). drop (j + r) (take p b ++ l) ≡ drop r l) front (drop-append-add (take p b) l r))

  below : (p' q' : ℕ) → p' + q' ≤ p → col p' q' (splice p l b) ≡ col p' q' b
  unfolding splice col
  below p' q' k =
      ap (λ (x : List ℕ). take q' (drop p' x)) (append_assoc (take p b) l (drop (p + length l) b))
      ∙ ap (take q') (drop-append-le p' (take p b) (l ++ drop (p + length l) b) (simp front (omega arith)))
      ∙ take-append-le q' (drop p' (take p b)) (l ++ drop (p + length l) b) (simp (length-drop, front) (omega arith))
      ∙ (rw zero-add at (col_col 0 p p' q' b k))

  above : (p' q' : ℕ) → p + length l ≤ p' → col p' q' (splice p l b) ≡ col p' q' b
  unfolding splice col
  above p' q' k =
      let k' : p' ≡ p + length l + (p' - (p + length l)) = omega arith in
      let e : length (take p b ++ l) ≡ p + length l = simp (length-append, front) in
      ap (take q')
      (subst (λ (j : ℕ). drop j (take p b ++ l ++ drop (p + length l) b) ≡ drop j b) (sym k')
      (subst (λ (j : ℕ). drop (j + (p' - (p + length l))) (take p b ++ l ++ drop (p + length l) b) ≡ drop (p' - (p + length l)) (drop (p + length l) b)) e
      (drop-append-add (take p b ++ l) (drop (p + length l) b) (p' - (p + length l)))
      ∙ drop-drop (p' - (p + length l)) (p + length l) b))

  pub col_splice_outside : (p' q' : ℕ) → (p' + q' ≤ p) ⊎ (p + length l ≤ p') → col p' q' (splice p l b) ≡ col p' q' b
  col_splice_outside p' q' (inl k) = below p' q' k
  col_splice_outside p' q' (inr k) = above p' q' k

-- what a part of q words lent from p on leaves of the whole
pub put_back : (p q : ℕ) (l b : List ℕ) → length l ≡ q → put_mid p q b l ≡ splice p l b
unfolding splice
put_back p q l b e = rw (← e) (ap (λ (x : List ℕ). take p b ++ (l ++ x)) (drop-drop (length l) p b) ∙ sym (append_assoc (take p b) l (drop (p + length l) b)))
