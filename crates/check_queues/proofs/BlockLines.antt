-- The line of a pool's free blocks, as nodes and as blocks: it holds the nodes of just those that belong to it where it holds just those. Assumes nothing.
use mathlib.Core.Bool.{Bool, true, false, ◌&&◌, false≢true}
use mathlib.Core.List.{List, [], ◌∷◌, map}
use mathlib.Core.Logic.{inl, inr}
use mathlib.Core.Path.{◌≡◌, refl, sym, ap, ◌∙◌}
use Prim.Native.Nat.{ℕ, zero, suc, ◌+◌, ◌-◌, ◌*◌, ◌/◌, ◌%◌, ◌≤◌}
use native.Mathlib.Decide.{ℕ_discrete, dec_le}
use native.Mathlib.Omega.{arith}
use lib.Dec.{eqb}
use borrow.Author.Tests.{eqb-true, eqb-false, eq-eqb, ne_eqb}
use Rattle.rules.specs.Ids.{In, once, times}
use Rattle.rules.specs.Sound.{Known}
use Rattle.memory_rings.specs.Rings.{Stands}
use Rattle.memory_rings.proofs.Lists.{and_of, stands_or_out}
use Rattle.memory_columns.specs.Layout.{max_blocks, before_pool, block_node}
use Rattle.memory_picture.proofs.Counts.{stands_times}
use Rattle.check_queues.proofs.Homes.{Keeps, times_none}

-- node x is that of a block of pool p that has f
abbrev pub node_has : ℕ → (ℕ → Bool) → ℕ → Bool
node_has p f zero = false
node_has p f (suc x) = eqb (suc (x / max_blocks)) p && f (suc (x % max_blocks))

abbrev numbers : ℕ → List ℕ → List ℕ
numbers p l = map (λ x. x - before_pool p) l

module _ (p : ℕ) (f : ℕ → Bool) (here : 1 ≤ p) where
  pub has_block : (k : ℕ) → In k max_blocks → node_has p f (block_node p k) ≡ f k
  has_block zero r = absurd (omega (arith, r.0))
  has_block (suc k) r =
      let y : block_node p (suc k) ≡ suc (before_pool p + k) = omega arith in
      let d : suc ((before_pool p + k) / max_blocks) ≡ p = omega (arith, r.1) in
      let m : (before_pool p + k) % max_blocks ≡ k = omega (arith, r.1) in
      rw (y, d, m, eq-eqb p p refl)

  pub block_has : (x : ℕ) → node_has p f x ≡ true → (k : ℕ) × In k max_blocks × (f k ≡ true) × (x ≡ block_node p k)
  block_has zero e = absurd (false≢true e)
  block_has (suc x) e =
      let r = and_of (eqb (suc (x / max_blocks)) p) (f (suc (x % max_blocks))) e in
      let d : suc (x / max_blocks) ≡ p = eqb-true (suc (x / max_blocks)) p r.0 in
      (suc (x % max_blocks), (omega arith, omega arith), r.1, omega arith)

  pub times_block : (k : ℕ) → 1 ≤ k → (l : List ℕ) → times k (numbers p l) ≡ times (block_node p k) l
  unfolding times
  times_block k h [] = refl
  times_block k h (x ∷ l) = elim (ℕ_discrete x (block_node p k)) [
    | yes e ↦ rw (eq-eqb x (block_node p k) e, eq-eqb (x - before_pool p) k (omega arith), times_block k h l)
    | no ne ↦ rw (ne_eqb x (block_node p k) ne, ne_eqb (x - before_pool p) k (λ e. ne (omega arith)), times_block k h l)
  ]

  known_at : (n x : ℕ) (l : List ℕ) → Known n (numbers p l) → Stands x l → In (x - before_pool p) n
  known_at n x [] h s = absurd s
  known_at n x (y ∷ l) h (inl e) = rw (← e) h.0
  known_at n x (y ∷ l) h (inr s) = known_at n x l h.1 s

  known_of : (n : ℕ) (l : List ℕ) → ((x : ℕ) → Stands x l → In (x - before_pool p) n) → Known n (numbers p l)
  known_of n [] h = tt
  known_of n (x ∷ l) h = (h x (inl refl), known_of n l (λ y s. h y (inr s)))

  ids_at : (n x : ℕ) (l : List ℕ) → Known n l → Stands x l → In x n
  ids_at n x [] h s = absurd s
  ids_at n x (y ∷ l) h (inl e) = rw (← e) h.0
  ids_at n x (y ∷ l) h (inr s) = ids_at n x l h.1 s

  ids_of_lem : (n : ℕ) (l : List ℕ) → ((x : ℕ) → Stands x l → In x n) → Known n l
  ids_of_lem n [] h = tt
  ids_of_lem n (x ∷ l) h = (h x (inl refl), ids_of_lem n l (λ y s. h y (inr s)))

  -- there are N pools, n blocks in this one, and none but these has f
  module _ (N n : ℕ) (there : p ≤ N) (few : n ≤ max_blocks) (only : (k : ℕ) → f k ≡ true → In k n) (l : List ℕ) where
    pub lines_numbers : Keeps (max_blocks * N) (node_has p f) l → Keeps n f (numbers p l)
    lines_numbers h = (known_of n l known, λ k r. times_block k r.0 l ∙ h.1 (block_node p k) (omega (arith, r.0), omega (arith, r.1)) ∙ ap once (has_block k (r.0, omega (arith, r.1))))
      where
        has : (x : ℕ) → Stands x l → (t : Bool) → node_has p f x ≡ t → t ≡ true
        has x s true e = refl
        has x s false e = absurd (stands_times x l s (h.1 x (ids_at (max_blocks * N) x l h.0 s) ∙ ap once e))

        known : (x : ℕ) → Stands x l → In (x - before_pool p) n
        known x s =
            let r = block_has x (has x s (node_has p f x) refl) in
            let k = only r.0 r.2 in
            (omega (arith, k.0, r.3), omega (arith, k.1, r.3))

    pub numbers_lines : Keeps n f (numbers p l) → Keeps (max_blocks * N) (node_has p f) l
    numbers_lines h = (ids_of_lem (max_blocks * N) l (λ x s. let k = known_at n x l h.0 s in (omega (arith, k.0), omega (arith, k.1))), counts)
      where
        none : (x : ℕ) → (In (x - before_pool p) n → ⊥) → times x l ≡ 0
        none x g = times_none x l (elim (stands_or_out x l) [ inl s ↦ absurd (g (known_at n x l h.0 s)) | inr o ↦ o ])

        no_f : (k : ℕ) → n ≤ k → (t : Bool) → f (suc k) ≡ t → t ≡ false
        no_f k g true e = absurd (omega (arith, (only (suc k) e).1))
        no_f k g false e = refl

        counts : (x : ℕ) → In x (max_blocks * N) → times x l ≡ once (node_has p f x)
        counts zero r = absurd (omega (arith, r.0))
        counts (suc x) r = go (eqb (suc (x / max_blocks)) p) refl
          where
            go : (t : Bool) → eqb (suc (x / max_blocks)) p ≡ t → times (suc x) l ≡ once (t && f (suc (x % max_blocks)))
            go false e = let ne = eqb-false (suc (x / max_blocks)) p e in none (suc x) (λ g. ne (omega (arith, g.0, g.1)))
            go true e =
                let d : suc (x / max_blocks) ≡ p = eqb-true (suc (x / max_blocks)) p e in
                let y : block_node p (suc (x % max_blocks)) ≡ suc x = omega arith in
                elim (dec_le (suc (x % max_blocks)) n) [
                  | yes k ↦ ap (λ (z : ℕ). times z l) (sym y) ∙ sym (times_block (suc (x % max_blocks)) (omega arith) l) ∙ h.1 (suc (x % max_blocks)) (omega arith, k)
                  | no k ↦ none (suc x) (λ g. k (omega (arith, g.1))) ∙ sym (ap once (no_f (x % max_blocks) (omega arith) (f (suc (x % max_blocks))) refl))
                ]
