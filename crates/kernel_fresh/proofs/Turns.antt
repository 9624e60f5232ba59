-- A loop over ids, where each turn changes one part of the memory: what it leaves as it was, and what it writes. Assumes nothing.
use Prim.Native.Nat.{ℕ, zero, suc, ◌+◌, ◌≤◌, ◌<◌}
use mathlib.Core.List.{List, [], ◌∷◌}
use mathlib.Core.Path.{◌≡◌, refl, ap, ◌∙◌}
use native.Mathlib.Decide.{ℕ_discrete}
use native.Mathlib.Omega.{arith}
use lib.ListN.{length, get_or, set, length-set}
use lib.Seq.{get_or-set_same, get_or-set_other}
use Rattle.memory_columns.specs.Layout.{Column, links_of, Only}
use Rattle.memory_columns.proofs.Frame.{Sized, only_none, only_on}
use Rattle.memory_columns.specs.declared.Rings.{Rings}
use Rattle.memory_queues.specs.Moves.{emptied}
use Rattle.memory_queues.proofs.Relinks.{emptied_law}
use Rattle.kernel_fresh.specs.Laying.{in_turn}

-- ---- the turns

-- each turn writes in the columns w alone
pub record Within (w : List Column) (f : ℕ → List ℕ → List ℕ) : Type 0 where
  pub size : (i : ℕ) (b : List ℕ) → Sized b → Sized (f i b)
  pub only : (i : ℕ) (b : List ℕ) → Sized b → Only w b (f i b)

module _ {w : List Column} {f : ℕ → List ℕ → List ℕ} (W : Within w f) where
  pub turn_size : (n i : ℕ) (b : List ℕ) → Sized b → Sized (in_turn f n i b)
  unfolding in_turn
  turn_size zero i b h = h
  turn_size (suc n) i b h = turn_size n (suc i) (f i b) (W.size i b h)

  pub turn_only : (n i : ℕ) (b : List ℕ) → Sized b → Only w b (in_turn f n i b)
  unfolding in_turn
  turn_only zero i b h = only_none w b
  turn_only (suc n) i b h = only_on (W.only i b h) (turn_only n (suc i) (f i b) (W.size i b h))

  -- turn i writes g i at i
  module _ (R : List ℕ → List ℕ) (g : ℕ → ℕ) (writes : (i : ℕ) (b : List ℕ) → Sized b → R (f i b) ≡ set (R b) i (g i)) where
    pub turn_length : (n i : ℕ) (b : List ℕ) → Sized b → length (R (in_turn f n i b)) ≡ length (R b)
    unfolding in_turn
    turn_length zero i b h = refl
    turn_length (suc n) i b h = turn_length n (suc i) (f i b) (W.size i b h) ∙ ap length (writes i b h) ∙ length-set (R b) i (g i)

    pub turn_below : (n i : ℕ) (b : List ℕ) → Sized b → (j : ℕ) → j < i → get_or (R (in_turn f n i b)) j 0 ≡ get_or (R b) j 0
    unfolding in_turn
    turn_below zero i b h j l = refl
    turn_below (suc n) i b h j l =
        turn_below n (suc i) (f i b) (W.size i b h) j (omega arith) ∙ ap (λ (m : List ℕ). get_or m j 0) (writes i b h) ∙ get_or-set_other (R b) i j (g i) 0 (λ e. omega arith)

    written : (i : ℕ) (b : List ℕ) → Sized b → i < length (R b) → get_or (R (f i b)) i 0 ≡ g i
    written i b h r = ap (λ (m : List ℕ). get_or m i 0) (writes i b h) ∙ get_or-set_same (R b) i (g i) 0 r

    -- what was right already stays so
    pub turn_right : (n i : ℕ) (b : List ℕ) → Sized b → (j : ℕ) → j < length (R b) → get_or (R b) j 0 ≡ g j → get_or (R (in_turn f n i b)) j 0 ≡ g j
    unfolding in_turn
    turn_right zero i b h j r e = e
    turn_right (suc n) i b h j r e = turn_right n (suc i) (f i b) (W.size i b h) j (rw (writes i b h, length-set) r) (elim (ℕ_discrete j i) [
      | yes q ↦ rw q (written i b h (rw (← q) r))
      | no q ↦ ap (λ (m : List ℕ). get_or m j 0) (writes i b h) ∙ get_or-set_other (R b) i j (g i) 0 q ∙ e
    ])

    pub turn_at_lem : (n i : ℕ) (b : List ℕ) → Sized b → (j : ℕ) → i ≤ j → j < i + n → j < length (R b) → get_or (R (in_turn f n i b)) j 0 ≡ g j
    unfolding in_turn
    turn_at_lem zero i b h j l m r = absurd (omega arith)
    turn_at_lem (suc n) i b h j l m r = elim (ℕ_discrete j i) [
      | yes q ↦ rw q (turn_right n (suc i) (f i b) (W.size i b h) i (rw (writes i b h, length-set, ← q) r) (written i b h (rw (← q) r)))
      | no q ↦ turn_at_lem n (suc i) (f i b) (W.size i b h) j (omega arith) (omega arith) (rw (writes i b h, length-set) r)
    ]

-- ---- cleared anchors

pub queues_within : (r : Rings) → Within (links_of r ∷ []) (emptied r)
queues_within r = record { size = λ a b h. (emptied_law b h r a).size; only = λ a b h. (emptied_law b h r a).only }
