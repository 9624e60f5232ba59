-- What stands first at a place is what the anchor's link says; in an empty queue stands nothing. One law over the places. Assumes nothing.
use mathlib.Core.List.{List, [], ◌∷◌}
use mathlib.Core.Path.{◌≡◌, refl, sym, ap, ◌∙◌, subst}
use Prim.Native.Nat.{ℕ, ◌-◌}
use native.Mathlib.Omega.{arith}
use Rattle.rules.specs.Ids.{first}
use Rattle.rules.specs.Places.{Place, Sort, tasks, messages, blocks, sort_at, many, Exists}
use Rattle.rules.specs.View.{line}
use Rattle.rules.specs.Sound.{Known}
use Rattle.rules.proofs.Lines.{line_tabulate}
use Rattle.memory_rings.specs.Links.{first_of}
use Rattle.memory_rings.specs.Rings.{IsId, All, head_of}
use Rattle.memory_rings.proofs.Laws.{first_law}
use Rattle.memory_columns.specs.Layout.{before_pool, next_of, words}
use Rattle.memory_picture.specs.Picture.{store_shown, body_shown, anchor, rings_at, numbers_of, nodes_shown, line_shown, view_shown, Accepted}
use Rattle.memory_picture.proofs.Done.{used_at}
use Rattle.memory_running.proofs.Lowest.{HeadOf, head_of_lem}

pub head_first : (v : ℕ) (l : List ℕ) → HeadOf v l → v ≡ first l
head_first v [] h = h
head_first v (x ∷ l) h = h.0

-- what is taken off a node to get its number
abbrev pub before : Sort → ℕ
before tasks = 0
before messages = 0
before (blocks p) = before_pool p

head_number : (s : Sort) (l : List ℕ) → head_of (numbers_of s l) 0 ≡ head_of l 0 - before s
head_number tasks l = omega arith
head_number messages l = omega arith
head_number (blocks p) [] = omega arith
head_number (blocks p) (x ∷ l) = refl

ids_known : (n : ℕ) (l : List ℕ) → Known n l → All (IsId n) l
ids_known n [] h = tt
ids_known n (x ∷ l) h = (h.0, ids_known n l h.1)

module _ (b m : List ℕ) (A : Accepted b m) (q : Place) (h : Exists (store_shown b m) q) where
  pub line_at : line (view_shown b m) q ≡ line_shown b q
  unfolding view_shown
  line_at = line_tabulate (store_shown b m) (line_shown b) q h

  known : All (IsId (many (view_shown b m).body q)) (line_shown b q)
  unfolding view_shown body_shown
  known = ids_known _ (line_shown b q) (subst (Known (many (body_shown b m) q)) line_at (A.sound.queues q h).known)

  pub first_at : {x : ℕ} → x ≡ first_of (words (next_of (rings_at q)) b) (anchor q) - before (sort_at q) → HeadOf x (line (view_shown b m) q)
  unfolding line_shown
  first_at e = subst (HeadOf _) (sym line_at)
      (head_of_lem (many (view_shown b m).body q) _ (line_shown b q)
      (e ∙ ap (λ (x : ℕ). x - before (sort_at q)) (first_law (A.whole.rings (rings_at q)) (anchor q) (used_at q h)) ∙ sym (head_number (sort_at q) (nodes_shown b q))) known)
