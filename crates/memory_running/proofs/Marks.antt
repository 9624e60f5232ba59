-- The loop over priorities, the search in the word of one_bit marks, the best task and the running task, step by step. Assumes nothing.
use Prim.Native.Nat.{ℕ, zero, suc, pred, ◌+◌, ◌-◌, ◌*◌, ◌/◌, ◌%◌, ◌^◌, ◌≤◌, ◌<◌}
use mathlib.Core.Path.{◌≡◌, refl, ap, sym, ◌∙◌}
use mathlib.Core.Bool.{Bool, true, false, cond, not, true≢false}
use mathlib.Core.List.{List}
use native.Mathlib.Numerals.{add-one, sub-one}
use native.Mathlib.Omega.{arith}
use borrow.Author.Tests.{ne_eqb}
use Rattle.std.specs.Int.{w32}
use Rattle.std.proofs.lemmas.Nat.Bits.{bit_at-trailing_zeros}
use lib.Bits.{bit_or}
use lib.Count.{under, count_trailing_zeros}
use lib.Dec.{eqb}
use Rattle.rules.specs.State.{Handlers, no_handler, in_handler, is_open}
use Rattle.rules.specs.View.{reported}
use Rattle.memory_rings.specs.Links.{first_of}
use Rattle.memory_columns.specs.Layout as Layout
use Rattle.memory_columns.specs.Layout.{words, entry}
use Rattle.memory_queues.specs.Moves.{ready_anchor}
use Rattle.memory_columns.proofs.OneBit.{one_bit}
use Rattle.memory_picture.specs.Picture.{open_shown, handlers_shown}
use Rattle.memory_running.proofs.Lowest.{lowest_zero}
use Rattle.memory_running.specs.Running.{head_at, marks_of, lowest_mark, best_of, running_of}

-- the lowest set bit stands above as many bits as are 0 before it; n of the k bits are searched, the first of them being place p
pub lowest_at : (n k p w : ℕ) → n ≤ k → count_trailing_zeros k w < n → count_trailing_zeros k w + p ≡ lowest_mark n p w
unfolding lowest_mark count_trailing_zeros
lowest_at zero k p w l h = absurd (omega arith)
lowest_at (suc n) zero p w l h = absurd (omega arith)
lowest_at (suc n) (suc k) p w l h = go (w % 2) (omega arith) (lowest_at n k (suc p) (w / 2) (omega arith)) h
  where
    go : (d : ℕ) → d < 2 → (count_trailing_zeros k (w / 2) < n → count_trailing_zeros k (w / 2) + suc p ≡ lowest_mark n (suc p) (w / 2))
        → under d (count_trailing_zeros k (w / 2)) < suc n → under d (count_trailing_zeros k (w / 2)) + p ≡ cond (eqb d 1) p (lowest_mark n (suc p) (w / 2))
    go zero b rest h = rw (← rest (omega arith)) (omega arith)
    go (suc zero) b rest h = omega arith
    go (suc (suc d)) b rest h = absurd (omega arith)

-- the loop over n priorities, at priority p, where w has the marks of those before
module _ (n p w : ℕ) (b : List ℕ) where
  pub marks_none : n < p → w ≡ marks_of (n + 1 - p) p w b
  unfolding marks_of
  marks_none h = let z : n + 1 - p ≡ 0 = omega arith in rw z

  module _ {a r : ℕ} (ea : a ≡ ready_anchor p) (er : r ≡ first_of (words Layout.next b) a) where
    head : r ≡ head_at b p
    head = er ∙ rw ea

    marks_step : {m v : ℕ} → p ≤ n → v ≡ cond (eqb (head_at b p) 0) w (bit_or w (2 ^ pred p)) → m ≡ v → marks_of (n + 1 - (p + 1)) (p + 1) m b ≡ marks_of (n + 1 - p) p w b
    unfolding marks_of
    marks_step {m} h f e =
        let behind : n + 1 - (p + 1) ≡ n - p = omega arith in
        let here : suc (n - p) ≡ n + 1 - p = omega arith in
        let one : marks_of (n - p) (suc p) m b ≡ marks_of (suc (n - p)) p w b = rw (e, f) in
        rw (behind, add-one p) (one ∙ ap (λ (k : ℕ). marks_of k p w b) here)

    pub marks_skip : {m : ℕ} → p ≤ n → r ≡ 0 → m ≡ w → marks_of (n + 1 - (p + 1)) (p + 1) m b ≡ marks_of (n + 1 - p) p w b
    marks_skip h z e = marks_step h (rw (← head, z)) e

    pub marks_set : {m : ℕ} → p ≤ n → (r ≡ 0 → ⊥) → p - 1 < 32 → m ≡ bit_or w ((1 * 2 ^ (p - 1)) % 2 ^ 32) → marks_of (n + 1 - (p + 1)) (p + 1) m b ≡ marks_of (n + 1 - p) p w b
    marks_set h z k e = marks_step h (rw (one_bit (p - 1) k, sub-one p, ← head, ne_eqb r 0 z)) e

module _ (b : List ℕ) {m : ℕ} (em : m ≡ entry Layout.nonempty b 0) where
  pub best_none : m ≡ 0 → 0 ≡ best_of b
  unfolding best_of
  best_none h = rw (← em, h, lowest_zero 32 1)

  -- the place of the lowest bit is a priority
  pub best_first : {a r : ℕ} → (m ≡ 0 → ⊥) → m < 2 ^ 32 → a ≡ ready_anchor (count_trailing_zeros 32 m + 1) → r ≡ first_of (words Layout.next b) a → r ≡ best_of b
  unfolding best_of
  best_first ne few ea er =
      let at = lowest_at 32 32 1 m (omega arith) (bit_at-trailing_zeros w32 m (omega arith) few).0 in
      er ∙ rw (ea, ← em, ← at, ne_eqb (count_trailing_zeros 32 m + 1) 0 (λ z. omega arith))

-- ---- the running task

module _ (b : List ℕ) where
  pub open_read : {d : ℕ} → d ≡ entry Layout.handling b Layout.depth → not (eqb d 0) ≡ is_open (handlers_shown b)
  unfolding handlers_shown
  open_read {d} e = rw (← e) (go d)
    where
      go : (d : ℕ) → not (eqb d 0) ≡ is_open (open_shown d (entry Layout.handling b Layout.interrupted))
      go zero = refl
      go (suc n) = rw (ne_eqb (suc n) 0 (λ z. omega arith))

  pub running_best : {t : Bool} {r : ℕ} → t ≡ is_open (handlers_shown b) → t ≡ false → r ≡ best_of b → r ≡ running_of b
  unfolding running_of
  running_best {r = r} e z f = go (handlers_shown b) (sym e ∙ z)
    where
      go : (x : Handlers) → is_open x ≡ false → r ≡ reported x (best_of b)
      go no_handler k = f
      go (in_handler n i) k = absurd (true≢false k)

  pub running_interrupted : {t : Bool} {r : ℕ} → t ≡ is_open (handlers_shown b) → t ≡ true → r ≡ entry Layout.handling b Layout.interrupted → r ≡ running_of b
  unfolding running_of handlers_shown
  running_interrupted {r = r} e z f = go (entry Layout.handling b Layout.depth) (sym e ∙ z)
    where
      go : (d : ℕ) → is_open (open_shown d (entry Layout.handling b Layout.interrupted)) ≡ true → r ≡ reported (open_shown d (entry Layout.handling b Layout.interrupted)) (best_of b)
      go zero k = absurd (true≢false (sym k))
      go (suc n) k = f
