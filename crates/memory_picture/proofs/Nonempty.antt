-- The word of nonempty ready queues follows the rings: after a step it has a bit for each queue in which somebody stands. Assumes nothing.
use mathlib.Core.Bool.{Bool, true, false, cond, not, true≢false}
use mathlib.Core.List.{List, [], ◌∷◌, ◌++◌, map, append-nil}
use mathlib.Core.Logic.{◌⊎◌, inl, inr, ◌≢◌}
use mathlib.Core.Path.{◌≡◌, refl, sym, ap, ◌∙◌, subst}
use Prim.Native.Nat.{ℕ, zero, suc, ◌-◌, ◌/◌, ◌%◌, ◌^◌, ◌≤◌, ◌<◌}
use native.Mathlib.Nat.{pow-suc}
use native.Mathlib.Omega.{arith}
use lib.Dec.{eqb, leb}
use lib.ListN.{length, get_or, set}
use borrow.Author.Tests.{leb-true, le-leb, eq-eqb, ne_eqb}
use Rattle.rules.specs.Ids.{put, ids, In, once}
use Rattle.rules.specs.Places.{Place}
use Rattle.rules.proofs.Ids.{length_ids, map_ids}
use Rattle.memory_rings.specs.Links.{left_next, left_prev}
use Rattle.memory_rings.specs.Rings.{IsId, All, Stands, Out, Distinct, head_of, without, Linked}
use Rattle.memory_rings.proofs.Laws.{once_law, first_law, follow_law, leave_law}
use Rattle.memory_rings.proofs.Lists.{and_of, all_right, stands_or_out, stands_split, without_out, without_mid}
use Rattle.memory_columns.specs.Layout.{max_priorities, max_tasks, ready_node, is_ready_node}
use Rattle.memory_columns.specs.Bits.{masked}
use Rattle.memory_queues.specs.Moves.{noted, inhabited}
use Rattle.memory_picture.specs.Picture.{bits_of, mask_of, occupied, anchor}
use Rattle.memory_picture.proofs.Lines.{Step, rest, out, to, word_after, line_after, Fine}
use Rattle.memory_picture.proofs.Touched.{map_put_in}
use Rattle.memory_picture.proofs.PoolBits.{bits_masked, masked_lt}
use Rattle.memory_picture.proofs.FormWords.{back_bits, mask_below}

-- ---- one bit of a mask

last_bit : (d : ℕ) → d < 2 → once (eqb d 1) ≡ d
last_bit zero h = refl
last_bit (suc zero) h = refl
last_bit (suc (suc d)) h = absurd (omega arith)

mask_bits : (n x : ℕ) → x < 2 ^ n → mask_of (bits_of n x) ≡ x
unfolding mask_of bits_of
mask_bits zero x h = omega arith
mask_bits (suc n) x h = rw (mask_bits n (x / 2) (omega (arith, pow-suc 2 n)), last_bit (x % 2) (omega arith)) (omega arith)

masked_mask : (l : List Bool) (i : ℕ) (t : Bool) → i < length l → length l ≤ 32 → masked (mask_of l) i t ≡ mask_of (set l i t)
masked_mask l i t h k =
    sym (mask_bits (length l) (masked (mask_of l) i t) (masked_lt (length l) (mask_of l) i t h (mask_below l)))
    ∙ ap mask_of (bits_masked (length l) (mask_of l) i t h k (mask_below l) ∙ ap (λ (r : List Bool). set r i t) (back_bits l))

-- ---- the mark of an anchor

ready_node_lem : (p : ℕ) → In p max_priorities → is_ready_node (ready_node p) ≡ true
ready_node_lem p h = rw (le-leb (ready_node 1) (ready_node p) (omega (arith, h.0)), le-leb (ready_node p) (ready_node max_priorities) (omega (arith, h.1)))

-- f tells of each priority's queue whether somebody stands there before, g after: they differ at the anchor a alone, where g is x
module _ (a : ℕ) (x : Bool) (f g : ℕ → Bool) (P w : ℕ) (few : P ≤ max_priorities) (others : (p : ℕ) → In p P → ready_node p ≢ a → g p ≡ f p) (this : (p : ℕ) → In p P → ready_node p ≡ a → g p ≡ x)
    (there : is_ready_node a ≡ true → a ≤ ready_node P) (e : w ≡ mask_of (map f (ids P))) where
  noted_mask : noted a x w ≡ mask_of (map g (ids P))
  noted_mask = go (is_ready_node a) refl
    where
      go : (t : Bool) → is_ready_node a ≡ t → cond t (masked w (a - ready_node 1) x) w ≡ mask_of (map g (ids P))
      go true z =
          let low : ready_node 1 ≤ a = leb-true (ready_node 1) a (and_of (leb (ready_node 1) a) (leb a (ready_node max_priorities)) z).0 in
          let i : ℕ = a - ready_node 1 in
          let r : In (suc i) P = (omega arith, omega (arith, there z)) in
          let q : ready_node (suc i) ≡ a = omega arith in
          rw e (masked_mask (map f (ids P)) i x (omega (arith, length_ids f P, there z)) (omega (arith, length_ids f P)))
          ∙ ap (λ (y : Bool). mask_of (put (map f (ids P)) (suc i) y)) (sym (this (suc i) r q))
          ∙ ap mask_of (sym (map_put_in f g P (suc i) r (λ j k ne. others j k (λ m. ne (omega arith)))))
      go false z = e ∙ ap mask_of (map_ids f g P (λ p r. sym (others p r (λ m. true≢false (sym (ready_node_lem p (r.0, omega (arith, r.1))) ∙ ap is_ready_node m ∙ z)))))

-- ---- lines

occupied_mid : (l : List ℕ) (y : ℕ) (k : List ℕ) → occupied (l ++ y ∷ k) ≡ true
occupied_mid [] y k = refl
occupied_mid (x ∷ l) y k = refl

occupied_head : (n : ℕ) (l : List ℕ) → All (IsId n) l → occupied l ≡ not (eqb (head_of l 0) 0)
occupied_head n [] h = refl
occupied_head n (x ∷ l) h = rw (ne_eqb x 0 (λ e. omega (arith, h.0.0)))

-- ---- a step in the rings

module _ {n : ℕ} {U : ℕ → Type 0} {nx pv : List ℕ} {L : ℕ → List ℕ} (M : Linked n U nx pv L) (many : n ≤ max_tasks) (P : ℕ) (few : P ≤ max_priorities)
    (used : (p : ℕ) → In p P → U (ready_node p)) (known : (q : ℕ) → In q max_priorities → U (ready_node q) → q ≤ P) where
  -- an anchor of a ready queue that is in use is one of the P
  in_use_lem : (a : ℕ) → is_ready_node a ≡ true → U a → a ≤ ready_node P
  in_use_lem a z u =
      let low : ready_node 1 ≤ a = leb-true (ready_node 1) a (and_of (leb (ready_node 1) a) (leb a (ready_node max_priorities)) z).0 in
      let high : a ≤ ready_node max_priorities = leb-true a (ready_node max_priorities) (and_of (leb (ready_node 1) a) (leb a (ready_node max_priorities)) z).1 in
      let q : a ≡ ready_node (a - ready_node 0) = omega arith in
      omega (arith, known (a - ready_node 0) (omega arith, omega arith) (subst U q u))

  module _ (t : ℕ) (id : IsId n t) where
    -- if the node behind t is a ready queue's anchor, it is in use
    behind_used : is_ready_node (get_or nx t 0) ≡ true → U (get_or nx t 0)
    behind_used z = go (M.home t id (λ e. omega (arith, low, e)))
      where
        low : ready_node 1 ≤ get_or nx t 0
        low = leb-true (ready_node 1) (get_or nx t 0) (and_of (leb (ready_node 1) (get_or nx t 0)) (leb (get_or nx t 0) (ready_node max_priorities)) z).0

        last : (x : ℕ) → U x → (ys zs : List ℕ) → L x ≡ ys ++ t ∷ zs → get_or nx t 0 ≡ head_of zs x → U (get_or nx t 0)
        last x u ys [] q k = subst U (sym k) u
        last x u ys (y ∷ zs) q k =
            let s : All (IsId n) (ys ++ t ∷ y ∷ zs) = subst (All (IsId n)) q (M.ring x u).ids in
            absurd (omega (arith, low, k, (all_right (IsId n) ys (t ∷ y ∷ zs) s).1.0.1))

        go : (x : ℕ) × U x × Stands t (L x) → U (get_or nx t 0)
        go (x, u, s) = let k = stands_split t (L x) s in last x u k.0 k.1 k.2 (follow_law M x k.0 t k.1 u k.2)

    -- a queue whose anchor is not behind t is empty after t has left just if it was
    still : (p : ℕ) → In p P → ready_node p ≢ get_or nx t 0 → occupied (without t (L (ready_node p))) ≡ occupied (L (ready_node p))
    still p r ne = go (stands_or_out t (L (ready_node p)))
      where
        more : (ys zs : List ℕ) → L (ready_node p) ≡ ys ++ t ∷ zs → get_or nx t 0 ≡ head_of zs (ready_node p) → occupied (without t (L (ready_node p))) ≡ occupied (L (ready_node p))
        more ys [] q k = absurd (ne (sym k))
        more ys (z ∷ zs) q k =
            rw q (ap occupied (without_mid t ys (z ∷ zs) (subst Distinct q (once_law M (ready_node p) (used p r)))) ∙ occupied_mid ys z zs ∙ sym (occupied_mid ys t (z ∷ zs)))

        go : Stands t (L (ready_node p)) ⊎ Out t (L (ready_node p)) → occupied (without t (L (ready_node p))) ≡ occupied (L (ready_node p))
        go (inl s) = let k = stands_split t (L (ready_node p)) s in more k.0 k.1 k.2 (follow_law M (ready_node p) k.0 t k.1 (used p r) k.2)
        go (inr o) = ap occupied (without_out t (L (ready_node p)) o)

    leave_word : (w : ℕ) → w ≡ mask_of (map (λ p. occupied (L (ready_node p))) (ids P))
        → noted (get_or nx t 0) (inhabited (left_next nx pv t) (get_or nx t 0)) w ≡ mask_of (map (λ p. occupied (without t (L (ready_node p)))) (ids P))
    leave_word w e = noted_mask (get_or nx t 0) (inhabited (left_next nx pv t) (get_or nx t 0)) (λ p. occupied (L (ready_node p))) (λ p. occupied (without t (L (ready_node p)))) P w few still this (λ z. in_use_lem (get_or nx t 0) z (behind_used z)) e
      where
        K : Linked n U (left_next nx pv t) (left_prev nx pv t) (λ a. without t (L a))
        K = leave_law M t id

        this : (p : ℕ) → In p P → ready_node p ≡ get_or nx t 0 → occupied (without t (L (ready_node p))) ≡ inhabited (left_next nx pv t) (get_or nx t 0)
        this p r q = occupied_head n (without t (L (ready_node p))) (K.ring (ready_node p) (used p r)).ids ∙ ap (λ (y : ℕ). not (eqb y 0)) (sym (first_law K (ready_node p) (used p r))) ∙ ap (inhabited (left_next nx pv t)) q

    push_word : (q : Place) (w : ℕ) → U (anchor q) → w ≡ mask_of (map (λ p. occupied (without t (L (ready_node p)))) (ids P))
        → noted (anchor q) true w ≡ mask_of (map (λ p. occupied (line_after (to q t) (ready_node p) (L (ready_node p)))) (ids P))
    push_word q w u e = noted_mask (anchor q) true (λ p. occupied (without t (L (ready_node p)))) (λ p. occupied (line_after (to q t) (ready_node p) (L (ready_node p)))) P w few others this
        (λ z. in_use_lem (anchor q) z u) e
      where
        others : (p : ℕ) → In p P → ready_node p ≢ anchor q → occupied (line_after (to q t) (ready_node p) (L (ready_node p))) ≡ occupied (without t (L (ready_node p)))
        others p r ne = rw (ne_eqb (ready_node p) (anchor q) ne) (ap occupied (append-nil (without t (L (ready_node p)))))

        this : (p : ℕ) → In p P → ready_node p ≡ anchor q → occupied (line_after (to q t) (ready_node p) (L (ready_node p))) ≡ true
        this p r k = rw (eq-eqb (ready_node p) (anchor q) k) (occupied_mid (without t (L (ready_node p))) t [])

  pub word_law : (s : Step) → Fine n U s → (w : ℕ) → w ≡ mask_of (map (λ p. occupied (L (ready_node p))) (ids P))
      → word_after s nx pv w ≡ mask_of (map (λ p. occupied (line_after s (ready_node p) (L (ready_node p)))) (ids P))
  word_law rest h w e = e
  word_law (out t) h w e = leave_word t h w e
  word_law (to q t) h w e = push_word t h.0 q (noted (get_or nx t 0) (inhabited (left_next nx pv t) (get_or nx t 0)) w) h.1 (leave_word t h.0 w e)
