-- The columns tile the memory, so that no two have a word in common. Assumes nothing.
use mathlib.Core.Bool.{Bool, true, false, ◌&&◌, ◌||◌, false≢true}
use mathlib.Core.List.{List, [], ◌∷◌}
use mathlib.Core.Logic.{◌⊎◌, inl, inr}
use mathlib.Core.Path.{◌≡◌, refl, sym, ap, ◌∙◌, subst}
use Prim.Native.Nat.{ℕ, ◌+◌, ◌≤◌}
use native.Mathlib.Omega.{arith}
use lib.Dec.{eqb, leb}
use borrow.Author.Tests.{eqb-true, eq-eqb, le-leb}
use Rattle.memory_rings.proofs.Lists.{and_of}
use Rattle.memory_columns.specs.Layout.{Column, column, columns, state_words, apart, fits, same, among}

-- each column begins where the one before ends, from p on, and the last ends at e
abbrev pub tiled : ℕ → List Column → ℕ → Bool
tiled p [] e = eqb p e
tiled p (c ∷ l) e = eqb c.at p && tiled (p + c.width) l e

pub columns_tile : tiled 0 columns state_words ≡ true
columns_tile = refl

-- ---- tests

pub either : (s t : Bool) → (s || t) ≡ true → (s ≡ true) ⊎ (t ≡ true)
either true t e = inl refl
either false t e = inr e

pub either_right : (s t : Bool) → t ≡ true → (s || t) ≡ true
either_right true t e = refl
either_right false t e = e

pub same_is : (c d : Column) → same c d ≡ true → c ≡ d
same_is c d e = let r = and_of (eqb c.at d.at) (eqb c.width d.width) e in λ z. column (eqb-true c.at d.at r.0 z) (eqb-true c.width d.width r.1 z)

pub same_itself : (c : Column) → same c c ≡ true
same_itself c = rw (eq-eqb c.at c.at refl, eq-eqb c.width c.width refl)

-- ---- a tiled list

upwards : (p : ℕ) (l : List Column) (e : ℕ) → tiled p l e ≡ true → p ≤ e
upwards p [] e h = omega (arith, eqb-true p e h)
upwards p (c ∷ l) e h = let r = and_of (eqb c.at p) (tiled (p + c.width) l e) h in omega (arith, upwards (p + c.width) l e r.1)

module _ (d : Column) where
  -- a column of such a list lies behind its beginning
  behind : (p : ℕ) (l : List Column) (e : ℕ) → tiled p l e ≡ true → among l d ≡ true → p ≤ d.at
  behind p [] e h k = absurd (false≢true k)
  behind p (c ∷ l) e h k =
      let r = and_of (eqb c.at p) (tiled (p + c.width) l e) h in
      elim (either (same c d) (among l d) k) [
        | inl s ↦ omega (arith, eqb-true c.at p r.0, ap (λ (x : Column). x.at) (same_is c d s))
        | inr s ↦ omega (arith, behind (p + c.width) l e r.1 s)
      ]

  -- and ends before its end
  ends : (p : ℕ) (l : List Column) (e : ℕ) → tiled p l e ≡ true → among l d ≡ true → d.at + d.width ≤ e
  ends p [] e h k = absurd (false≢true k)
  ends p (c ∷ l) e h k =
      let r = and_of (eqb c.at p) (tiled (p + c.width) l e) h in
      elim (either (same c d) (among l d) k) [
        | inl s ↦ omega (arith, eqb-true c.at p r.0, upwards (p + c.width) l e r.1, ap (λ (x : Column). x.at + x.width) (same_is c d s))
        | inr s ↦ ends (p + c.width) l e r.1 s
      ]

apart_before : (c d : Column) → c.at + c.width ≤ d.at → apart c d ≡ true
apart_before c d h = rw (le-leb (c.at + c.width) d.at h)

apart_behind : (c d : Column) → d.at + d.width ≤ c.at → apart c d ≡ true
apart_behind c d h = either_right (leb (c.at + c.width) d.at) (leb (d.at + d.width) c.at) (le-leb (d.at + d.width) c.at h)

tiles_apart : (p : ℕ) (l : List Column) (e : ℕ) → tiled p l e ≡ true → (c d : Column) → among l c ≡ true → among l d ≡ true → (c ≡ d) ⊎ (apart c d ≡ true)
tiles_apart p [] e h c d i j = absurd (false≢true i)
tiles_apart p (x ∷ l) e h c d i j =
    let r = and_of (eqb x.at p) (tiled (p + x.width) l e) h in
    go (either (same x c) (among l c) i) (either (same x d) (among l d) j) (tiles_apart (p + x.width) l e r.1 c d)
  where
    -- x ends before any other of them begins
    first : (y : Column) → among l y ≡ true → x.at + x.width ≤ y.at
    first y k =
        let r = and_of (eqb x.at p) (tiled (p + x.width) l e) h in
        omega (arith, eqb-true x.at p r.0, behind y (p + x.width) l e r.1 k)

    go : (same x c ≡ true) ⊎ (among l c ≡ true) → (same x d ≡ true) ⊎ (among l d ≡ true) → (among l c ≡ true → among l d ≡ true → (c ≡ d) ⊎ (apart c d ≡ true)) → (c ≡ d) ⊎ (apart c d ≡ true)
    go (inl s) (inl t) later = inl (sym (same_is x c s) ∙ same_is x d t)
    go (inl s) (inr t) later = inr (subst (λ (y : Column). apart y d ≡ true) (same_is x c s) (apart_before x d (first d t)))
    go (inr s) (inl t) later = inr (subst (λ (y : Column). apart c y ≡ true) (same_is x d t) (apart_behind c x (first c s)))
    go (inr s) (inr t) later = later s t

-- two columns of the table have no word in common
pub columns_apart : (c d : Column) → among columns c ≡ true → among columns d ≡ true → (c ≡ d) ⊎ (apart c d ≡ true)
columns_apart = tiles_apart 0 columns state_words columns_tile

pub column_fits : (c : Column) → among columns c ≡ true → fits c ≡ true
column_fits c h = le-leb (c.at + c.width) state_words (ends c 0 columns state_words columns_tile h)
