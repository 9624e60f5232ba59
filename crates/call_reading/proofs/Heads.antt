-- The first of a ready queue, as the code reads it from the links, is the head of the line that the view shows. Assumes nothing.
use mathlib.Core.Bool.{cond}
use mathlib.Core.List.{List, [], ◌∷◌, map}
use mathlib.Core.Path.{◌≡◌, refl, sym, subst}
use Prim.Native.Nat.{ℕ, zero, suc, ◌+◌, ◌≤◌, ◌<◌}
use native.Mathlib.Omega.{arith}
use borrow.Author.Tests.{ne_eqb, le-leb}
use lib.Dec.{eqb}
use Rattle.rules.specs.Ids.{from, ids, first, In}
use Rattle.rules.specs.Places.{Place, ready_at, Exists, tabulate}
use Rattle.rules.specs.View.{line, nonempty, best}
use Rattle.rules.proofs.Lines.{line_tabulate}
use Rattle.memory_rings.specs.Rings.{IsId, All}
use Rattle.memory_rings.proofs.Laws.{first_law}
use Rattle.memory_columns.specs.declared.Rings.TheVariants.{Tasks}
use Rattle.memory_columns.specs.Layout as Layout
use Rattle.memory_columns.specs.Layout.{entry}
use Rattle.memory_picture.specs.Picture.{tasks_shown, store_shown, body_shown, anchor, line_shown, view_shown, Accepted}
use Rattle.memory_picture.proofs.Done.{used_at}
use Rattle.memory_running.specs.Running.{head_at, best_of}
use Rattle.memory_running.proofs.Lowest.{HeadOf, head_of_lem}
use Rattle.memory_running.proofs.Running.{best_law}
use Rattle.call_words.specs.Naming.{NamesQueue}
use Rattle.call_reading.specs.Reading.{turn_at}

-- of the first nonempty line
nonempty_head : (n : ℕ) (L : ℕ → List ℕ) (k c : ℕ) → ((q : ℕ) → k ≤ q → q < k + c → All (IsId n) (L q)) → HeadOf (first (nonempty (map L (from k c)))) (nonempty (map L (from k c)))
nonempty_head n L k zero f = refl
nonempty_head n L k (suc c) f = go (L k) (f k (omega arith) (omega arith)) (nonempty_head n L (suc k) c (λ q a z. f q (omega arith) (omega arith)))
  where
    go : (l : List ℕ) → All (IsId n) l → HeadOf (first (nonempty (map L (from (suc k) c)))) (nonempty (map L (from (suc k) c)))
        → HeadOf (first (nonempty (l ∷ map L (from (suc k) c)))) (nonempty (l ∷ map L (from (suc k) c)))
    go [] h r = r
    go (x ∷ l) h r = (refl, h.0.0)

module _ (b m : List ℕ) (A : Accepted b m) where
  line_is : (q : Place) → Exists (store_shown b m) q → line (view_shown b m) q ≡ line_shown b q
  unfolding view_shown
  line_is q h = line_tabulate (store_shown b m) (line_shown b) q h

  few : entry Layout.system b 0 ≤ 16
  unfolding view_shown body_shown store_shown
  few = A.sound.body.sizes.priorities.1

  there : (p : ℕ) → In p (entry Layout.system b 0) → Exists (store_shown b m) (ready_at p)
  unfolding store_shown
  there p h = h

  pub ready_head : (p : ℕ) → In p (entry Layout.system b 0) → HeadOf (head_at b p) (line (view_shown b m) (ready_at p))
  unfolding line_shown anchor
  ready_head p h = rw (line_is (ready_at p) (there p h), le-leb p 16 (omega (arith, few, h.1)))
      (head_of_lem (tasks_shown b) _ (line_shown b (ready_at p)) (first_law (A.whole.rings Tasks) _ (used_at (ready_at p) (there p h))) ((A.whole.rings Tasks).ring _ (used_at (ready_at p) (there p h))).ids)

  pub best_head : HeadOf (best_of b) (best (view_shown b m))
  best_head = subst (λ (x : ℕ). HeadOf x (best (view_shown b m))) (sym (best_law b m A)) go
    where
      go : HeadOf (first (best (view_shown b m))) (best (view_shown b m))
      go = unfold view_shown tabulate ids store_shown line_shown in nonempty_head (tasks_shown b) (λ p. line_shown b (ready_at p)) 1 (entry Layout.system b 0)
          (λ q h k. ((A.whole.rings Tasks).ring (anchor (ready_at q)) (used_at (ready_at q) (h, omega arith))).ids)

-- the queue that rot_rdq names
pub turn_head : (b m : List ℕ) → Accepted b m → (p : ℕ) → NamesQueue p (view_shown b m)
    → HeadOf (turn_at b p) (cond (eqb p 0) (best (view_shown b m)) (line (view_shown b m) (ready_at p)))
unfolding turn_at view_shown body_shown store_shown
turn_head b m A zero h = best_head b m A
turn_head b m A (suc p) h = rw (ne_eqb (suc p) 0 (λ z. omega arith)) (ready_head b m A (suc p) (omega arith, h))
