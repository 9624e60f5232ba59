-- The frame: what a write into a column, or of a ring's links, leaves of every other column, each called by its name. Assumes nothing.
use mathlib.Core.Bool.{Bool, true, false, cond, ◌&&◌, ◌||◌, false≢true}
use mathlib.Core.List.{List, [], ◌∷◌, ◌++◌}
use mathlib.Core.Logic.{◌⊎◌, inl, inr, ◌≢◌}
use mathlib.Core.Path.{◌≡◌, refl, sym, ap, ◌∙◌, subst}
use Prim.Native.Nat.{ℕ, ◌+◌, ◌≤◌, ◌<◌}
use native.Mathlib.Omega.{arith}
use lib.Dec.{leb}
use lib.ListN.{length, get_or, set}
use lib.Seq.{get_or-set_same, get_or-set_other}
use borrow.Author.Tests.{leb-true}
use Rattle.memory_rings.specs.Columns.{splice}
use Rattle.memory_rings.specs.Links.{nexts, prevs}
use Rattle.memory_rings.proofs.Columns.{col_same, col_above, col_below, length_store, length_col, length_splice, col_splice_outside}
use Rattle.memory_rings.proofs.Halves.{nexts_col, prevs_col}
use Rattle.memory_rings.proofs.Lists.{and_of}
use Rattle.memory_columns.specs.Layout.{Column, next, prev, mail_next, mail_prev, system, handling, nonempty, block_next, block_prev, counter, task_columns, object_columns, alarm_columns, columns, state_words, apart, fits, same, among, clear, back, both, words, entry, put, Only}
use Rattle.memory_columns.proofs.Tiling.{either, either_right, same_is, same_itself, columns_apart}

-- the memory has its size
abbrev pub Sized : List ℕ → Type 0
Sized b = length b ≡ state_words

pub apart_either : (c d : Column) → apart c d ≡ true → (d.at + d.width ≤ c.at) ⊎ (c.at + c.width ≤ d.at)
apart_either c d e = go (either (leb (c.at + c.width) d.at) (leb (d.at + d.width) c.at) e)
  where
    go : (leb (c.at + c.width) d.at ≡ true) ⊎ (leb (d.at + d.width) c.at ≡ true) → (d.at + d.width ≤ c.at) ⊎ (c.at + c.width ≤ d.at)
    go (inl h) = inr (leb-true (c.at + c.width) d.at h)
    go (inr h) = inl (leb-true (d.at + d.width) c.at h)

pub fits_in : (c : Column) (b : List ℕ) → Sized b → fits c ≡ true → c.at + c.width ≤ length b
fits_in c b h f = omega (arith, leb-true (c.at + c.width) state_words f)

pub words_length : (c : Column) (b : List ℕ) → Sized b → fits c ≡ true → length (words c b) ≡ c.width
words_length c b h f = length_col c.at c.width b (fits_in c b h f)

-- ---- one write

module _ (c : Column) (i v : ℕ) (b : List ℕ) where
  pub put_size : Sized b → Sized (put c i v b)
  put_size h = length_store c.at c.width i v b ∙ h

  pub put_same : words c (put c i v b) ≡ set (words c b) i v
  put_same = col_same c.at c.width i v b

  pub put_apart : (d : Column) → apart c d ≡ true → words d (put c i v b) ≡ words d b
  put_apart d e = go (apart_either c d e)
    where
      go : (d.at + d.width ≤ c.at) ⊎ (c.at + c.width ≤ d.at) → words d (put c i v b) ≡ words d b
      go (inl h) = col_below c.at c.width i v b d.at d.width h
      go (inr h) = col_above c.at c.width i v b d.at d.width h

  pub put_only : Only (c ∷ []) b (put c i v b)
  put_only = record { kept = λ d e. put_apart d (and_of (apart c d) true e).0 }

  pub entry_put : Sized b → fits c ≡ true → i < c.width → entry c (put c i v b) i ≡ v
  entry_put h f r = ap (λ (l : List ℕ). get_or l i 0) put_same ∙ get_or-set_same (words c b) i v 0 (omega (arith, words_length c b h f))

  -- another id, in the same column or another
  pub entry_other : (d : Column) → among columns c ≡ true → among columns d ≡ true → (j : ℕ) → j ≢ i → entry d (put c i v b) j ≡ entry d b j
  entry_other d h k j ne = go (columns_apart c d h k)
    where
      go : (c ≡ d) ⊎ (apart c d ≡ true) → entry d (put c i v b) j ≡ entry d b j
      go (inl e) = subst (λ (x : Column). entry x (put c i v b) j ≡ entry x b j) e (ap (λ (l : List ℕ). get_or l j 0) put_same ∙ get_or-set_other (words c b) i j v 0 ne)
      go (inr e) = ap (λ (l : List ℕ). get_or l j 0) (put_apart d e)

  -- any column after the write
  pub words_put : (d : Column) → among columns c ≡ true → among columns d ≡ true → words d (put c i v b) ≡ cond (same c d) (words c (put c i v b)) (words d b)
  words_put d h k = go (same c d) refl (columns_apart c d h k)
    where
      go : (t : Bool) → same c d ≡ t → (c ≡ d) ⊎ (apart c d ≡ true) → words d (put c i v b) ≡ cond t (words c (put c i v b)) (words d b)
      go true e x = subst (λ (y : Column). words y (put c i v b) ≡ words c (put c i v b)) (same_is c d e) refl
      go false e (inl x) = absurd (false≢true (sym e ∙ subst (λ (y : Column). same c y ≡ true) x (same_itself c)))
      go false e (inr x) = put_apart d x

-- ---- the links of a ring

module _ (c : Column) (b : List ℕ) (h : Sized b) (f : fits (both c) ≡ true) where
  pub nexts_both : nexts (words (both c) b) ≡ words c b
  nexts_both = nexts_col c.at c.width b (fits_in (both c) b h f)

  pub prevs_both : prevs (words (both c) b) ≡ words (back c) b
  prevs_both = prevs_col c.at c.width b (fits_in (both c) b h f)

-- other words in place of a column's
module _ (c : Column) (l b : List ℕ) (h : Sized b) (f : fits c ≡ true) (e : length l ≡ c.width) where
  room : c.at + length l ≤ length b
  room = omega (arith, fits_in c b h f)

  pub splice_size : Sized (splice c.at l b)
  splice_size = length_splice c.at l b room ∙ h

  pub splice_only : Only (c ∷ []) b (splice c.at l b)
  splice_only = record { kept = λ d k. col_splice_outside c.at l b room d.at d.width (rw e (apart_either c d (and_of (apart c d) true k).0)) }

-- ---- several writes

pub only_none : (l : List Column) (b : List ℕ) → Only l b b
only_none l b = record { kept = λ d e. refl }

pub clear_parts : (l m : List Column) (d : Column) → clear (l ++ m) d ≡ true → (clear l d ≡ true) × (clear m d ≡ true)
clear_parts [] m d e = (refl, e)
clear_parts (c ∷ l) m d e =
    let r = and_of (apart c d) (clear (l ++ m) d) e in
    let s = clear_parts l m d r.1 in
    (rw r.0 s.0, s.1)

-- one act after the other writes in the columns of both
pub only_both : {l m : List Column} {a b c : List ℕ} → Only l a b → Only m b c → Only (l ++ m) a c
only_both {l} {m} F G = record { kept = λ d e. let r = clear_parts l m d e in G.kept d r.1 ∙ F.kept d r.0 }

-- more columns
pub only_first : (l m : List Column) {a b : List ℕ} → Only l a b → Only (l ++ m) a b
only_first l m F = record { kept = λ d e. F.kept d (clear_parts l m d e).0 }

pub only_on : {l : List Column} {a b c : List ℕ} → Only l a b → Only l b c → Only l a c
only_on F G = record { kept = λ d e. G.kept d e ∙ F.kept d e }

among_first : (l m : List Column) (d : Column) → among l d ≡ true → among (l ++ m) d ≡ true
among_first [] m d e = absurd (false≢true e)
among_first (c ∷ l) m d e = go (same c d) (among_first l m d) e
  where
    go : (t : Bool) → (among l d ≡ true → among (l ++ m) d ≡ true) → (t || among l d) ≡ true → (t || among (l ++ m) d) ≡ true
    go true f k = refl
    go false f k = f k

among_last : (l m : List Column) (d : Column) → among m d ≡ true → among (l ++ m) d ≡ true
among_last [] m d e = e
among_last (c ∷ l) m d e = either_right (same c d) (among (l ++ m) d) (among_last l m d e)

-- those between the columns of objects and of alarms
abbrev between : List Column
between = mail_next ∷ mail_prev ∷ system ∷ handling ∷ nonempty ∷ block_next ∷ block_prev ∷ counter ∷ []

pub object_column : (d : Column) → among object_columns d ≡ true → among columns d ≡ true
object_column d h = among_last (task_columns ++ (next ∷ prev ∷ [])) (object_columns ++ (between ++ alarm_columns)) d (among_first object_columns (between ++ alarm_columns) d h)

pub task_column : (d : Column) → among task_columns d ≡ true → among columns d ≡ true
task_column = among_first task_columns (next ∷ prev ∷ (object_columns ++ (between ++ alarm_columns)))

pub alarm_column : (d : Column) → among alarm_columns d ≡ true → among columns d ≡ true
alarm_column = among_last (task_columns ++ (next ∷ prev ∷ (object_columns ++ between))) alarm_columns

-- what is clear of a list is apart from each of it
pub clear_apart : (l : List Column) (c d : Column) → clear l d ≡ true → among l c ≡ true → apart c d ≡ true
clear_apart [] c d e k = absurd (false≢true k)
clear_apart (x ∷ l) c d e k =
    let r = and_of (apart x d) (clear l d) e in
    elim (either (same x c) (among l c) k) [ inl s ↦ subst (λ (y : Column). apart y d ≡ true) (same_is x c s) r.0 | inr s ↦ clear_apart l c d r.1 s ]

-- a write into one of them
pub put_among : (l : List Column) (c : Column) (i v : ℕ) (b : List ℕ) → among l c ≡ true → Only l b (put c i v b)
put_among l c i v b k = record { kept = λ d e. put_apart c i v b d (clear_apart l c d e k) }

-- every column of one list is clear of the other
abbrev pub all_clear : List Column → List Column → Bool
all_clear l [] = true
all_clear l (d ∷ m) = clear l d && all_clear l m

pub all_clear_lem : (l m : List Column) → all_clear l m ≡ true → (d : Column) → among m d ≡ true → clear l d ≡ true
all_clear_lem l [] e d k = absurd (false≢true k)
all_clear_lem l (x ∷ m) e d k =
    let r = and_of (clear l x) (all_clear l m) e in
    elim (either (same x d) (among m d) k) [ inl s ↦ subst (λ (y : Column). clear l y ≡ true) (same_is x d s) r.0 | inr s ↦ all_clear_lem l m r.1 d s ]
