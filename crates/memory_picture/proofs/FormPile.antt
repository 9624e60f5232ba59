-- The columns of a pile: each is found again at its place, and the whole has the words of all of them. Assumes nothing.
use mathlib.Core.Bool.{Bool, true, false, cond, false≢true}
use mathlib.Core.List.{List, [], ◌∷◌, ◌++◌, map, append_assoc}
use mathlib.Core.Logic.{inl, inr}
use mathlib.Core.Path.{◌≡◌, refl, sym, ap, ◌∙◌, subst}
use Prim.Native.Nat.{ℕ, zero, suc, ◌+◌, ◌<◌}
use native.Mathlib.Nat.{zero-add, add-zero}
use native.Mathlib.Omega.{arith}
use lib.Dec.{eqb}
use lib.ListN.{length, get_or, take, drop, length-append, length-map}
use lib.Seq.{take_at, drop_at, ext_get_or}
use borrow.Author.Tests.{eqb-true}
use Rattle.rules.specs.Ids.{of, from, ids, In}
use Rattle.rules.proofs.Ids.{length_from, of_ids, length_ids}
use Rattle.memory_rings.specs.Columns.{col}
use Rattle.memory_rings.specs.Rings.{All}
use Rattle.memory_rings.proofs.Lists.{all_join}
use Rattle.memory_rings.proofs.Lists.{and_of}
use Rattle.memory_columns.specs.Layout.{Column, columns, state_words, same, among, words, entry}
use Rattle.memory_columns.proofs.Tiling.{tiled, columns_tile, either, same_is}
use Rattle.memory_picture.specs.Form.{run, Part, entries, pile}

-- ---- a run of words

pub length_run : (w : ℕ) (f : ℕ → ℕ) → length (run w f) ≡ w
unfolding run
length_run w f = length-map (from 0 w) f ∙ length_from 0 w

from_at : (f : ℕ → ℕ) (k n i d : ℕ) → i < n → get_or (map f (from k n)) i d ≡ f (k + i)
from_at f k zero i d h = absurd (omega arith)
from_at f k (suc n) zero d h = ap f (sym (add-zero k))
from_at f k (suc n) (suc i) d h = from_at f (suc k) n i d (omega arith) ∙ ap f (omega arith)

pub run_at : (w : ℕ) (f : ℕ → ℕ) (i d : ℕ) → i < w → get_or (run w f) i d ≡ f i
unfolding run
run_at w f i d h = from_at f 0 w i d h ∙ ap f (zero-add i)

from_all : (P : ℕ → Type 0) (f : ℕ → ℕ) (k n : ℕ) → ((i : ℕ) → i < k + n → P (f i)) → All P (map f (from k n))
from_all P f k zero h = tt
from_all P f k (suc n) h = (h k (omega arith), from_all P f (suc k) n (λ i a. h i (omega arith)))

pub run_all : (P : ℕ → Type 0) (w : ℕ) (f : ℕ → ℕ) → ((i : ℕ) → i < w → P (f i)) → All P (run w f)
unfolding run
run_all P w f h = from_all P f 0 w (λ i a. h i (omega arith))

-- ---- a pile

module _ (f : Column → ℕ → ℕ) where
  pub length_pile : (p : ℕ) (l : List Column) (e : ℕ) → tiled p l e ≡ true → p + length (pile l f) ≡ e
  unfolding pile
  length_pile p [] e h = omega (arith, eqb-true p e h)
  length_pile p (c ∷ l) e h =
      let r = and_of (eqb c.at p) (tiled (p + c.width) l e) h in
      omega (arith, length-append (run c.width (f c)) (pile l f), length_run c.width (f c), length_pile (p + c.width) l e r.1)

  -- behind any words that end where the first column begins
  words_behind : (s : List ℕ) (p : ℕ) (l : List Column) (e : ℕ) → length s ≡ p → tiled p l e ≡ true → (c : Column) → among l c ≡ true → words c (s ++ pile l f) ≡ run c.width (f c)
  unfolding pile
  words_behind s p [] e k h c i = absurd (false≢true i)
  words_behind s p (x ∷ l) e k h c i =
      let r = and_of (eqb x.at p) (tiled (p + x.width) l e) h in
      elim (either (same x c) (among l c) i) [
        | inl t ↦ subst (λ (y : Column). words y (s ++ (run x.width (f x) ++ pile l f)) ≡ run y.width (f y)) (same_is x c t) (here (eqb-true x.at p r.0))
        | inr t ↦ rw (← append_assoc s (run x.width (f x)) (pile l f))
            (words_behind (s ++ run x.width (f x)) (p + x.width) l e (length-append s (run x.width (f x)) ∙ λ z. k z + length_run x.width (f x) z) r.1 c t)
      ]
    where
      here : x.at ≡ p → words x (s ++ (run x.width (f x) ++ pile l f)) ≡ run x.width (f x)
      here q = unfold col in
          ap (take x.width) (ap (λ (n : ℕ). drop n (s ++ (run x.width (f x) ++ pile l f))) (q ∙ sym k) ∙ drop_at s (run x.width (f x) ++ pile l f) (length s) refl)
          ∙ take_at (run x.width (f x)) (pile l f) x.width (length_run x.width (f x))

  pub pile_words : (c : Column) → among columns c ≡ true → words c (pile columns f) ≡ run c.width (f c)
  pile_words = words_behind [] 0 columns state_words refl columns_tile

  pub pile_at : (c : Column) → among columns c ≡ true → (i : ℕ) → i < c.width → entry c (pile columns f) i ≡ f c i
  pile_at c k i r = ap (λ (m : List ℕ). get_or m i 0) (pile_words c k) ∙ run_at c.width (f c) i 0 r

  pub pile_all : (P : ℕ → Type 0) (l : List Column) → ((c : Column) (i : ℕ) → i < c.width → P (f c i)) → All P (pile l f)
  unfolding pile
  pile_all P [] h = tt
  pile_all P (c ∷ l) h = all_join P (run c.width (f c)) (pile l f) (run_all P c.width (f c) (h c)) (pile_all P l h)

-- every entry of every part has P
abbrev pub Filled : (ℕ → Type 0) → List Part → Type 0
Filled P [] = Unit {0}
Filled P (x ∷ l) = ((i : ℕ) → i < x.column.width → P (x.entry i)) × Filled P l

pub entries_all : (P : ℕ → Type 0) → P 0 → (l : List Part) → Filled P l → (c : Column) (i : ℕ) → i < c.width → P (entries l c i)
entries_all P z [] h c i r = z
entries_all P z (x ∷ l) h c i r = go (same x.column c) refl (entries_all P z l h.1 c i r)
  where
    go : (t : Bool) → same x.column c ≡ t → P (entries l c i) → P (cond t (x.entry i) (entries l c i))
    go true e k = h.0 i (omega (arith, ap (λ (y : Column). y.width) (same_is x.column c e)))
    go false e k = k

-- ---- a table by id is made from its entries

pub table_is : {A : Type 0} (l : List A) (n : ℕ) (f : ℕ → A) (d : A) → n ≡ length l → ((i : ℕ) → In i (length l) → f i ≡ of l i d) → map f (ids n) ≡ l
table_is l n f d e h =
    ext_get_or d (map f (ids n)) l (length_ids f n ∙ e)
    (λ i r. let k : In (suc i) n = (omega arith, omega (arith, length_ids f n)) in of_ids f n (suc i) d k ∙ h (suc i) (omega arith, omega (arith, k.1)))
