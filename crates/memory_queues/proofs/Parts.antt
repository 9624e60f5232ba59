-- The rings' parts of the memory: their two directions are columns, and the part that a ring's code is lent comes back in its place.
-- Assumes nothing.
use Prim.Native.Nat.{ℕ, ◌+◌, ◌-◌, ◌≤◌}
use mathlib.Core.Bool.{true}
use mathlib.Core.List.{List}
use mathlib.Core.Path.{◌≡◌, refl, ap, ◌∙◌}
use native.Mathlib.Omega.{arith}
use lib.ListN.{length}
use borrow.Rule.Slice.PartMut.{put_mid}
use Rattle.memory_rings.specs.Columns.{col, splice}
use Rattle.memory_rings.specs.Links.{nexts, prevs}
use Rattle.memory_rings.proofs.Columns.{length_col, put_back}
use Rattle.memory_columns.specs.declared.Rings.{Rings}
use Rattle.memory_columns.specs.declared.Rings.TheVariants.{Tasks, Messages, Blocks}
use Rattle.memory_columns.specs.Layout.{fits, next_of, prev_of, links_of, words}
use Rattle.memory_columns.proofs.Frame.{Sized, fits_in, nexts_both, prevs_both}

pub links_fit : (r : Rings) → fits (links_of r) ≡ true
links_fit Tasks = refl
links_fit Messages = refl
links_fit Blocks = refl

-- the words from p to e come back as m, as many as they were
pub part_back : (p e : ℕ) (b : List ℕ) {l m : List ℕ} → p ≤ e → e ≤ length b → length m ≡ length (col p (e - p) b) → l ≡ m → put_mid p (e - p) b l ≡ splice p m b
part_back p e b h k s f = rw f (put_back p (e - p) _ b (s ∙ length_col p (e - p) b (omega arith)))

module _ (b : List ℕ) (h : Sized b) (r : Rings) where
  pub nexts_links : nexts (words (links_of r) b) ≡ words (next_of r) b
  nexts_links = nexts_both (next_of r) b h (links_fit r)

  pub prevs_links : prevs (words (links_of r) b) ≡ words (prev_of r) b
  prevs_links = prevs_both (next_of r) b h (links_fit r)

  -- they begin at p and end at e, within the memory
  module _ {p e : ℕ} (x : p ≡ (links_of r).at) (y : e ≡ (links_of r).at + (links_of r).width) where
    pub links_within : (p ≤ e) × (e ≤ length b)
    links_within = (omega arith, rw y (fits_in (links_of r) b h (links_fit r)))

    pub links_part : col p (e - p) b ≡ words (links_of r) b
    links_part = let z : e - p ≡ (links_of r).width = omega arith in rw (z, x)

    -- what f makes of that part comes back in its place, as many words as they were
    pub links_back : (f : List ℕ → List ℕ) → ((l : List ℕ) → length (f l) ≡ length l) → {l : List ℕ} → l ≡ f (col p (e - p) b)
        → put_mid p (e - p) b l ≡ splice (links_of r).at (f (words (links_of r) b)) b
    links_back f s k =
        let w = links_within in
        part_back p e b w.0 w.1 (s _) k ∙ ap (λ (l : List ℕ). splice p (f l) b) links_part ∙ ap (λ (i : ℕ). splice i (f (words (links_of r) b)) b) x
