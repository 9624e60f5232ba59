-- The steps of the code of set_flg's walk: a look at a task, and one turn of the loop. Assumes nothing.
use mathlib.Core.Bool.{Bool, true, false, not, and-false, true≢false}
use mathlib.Core.List.{List}
use mathlib.Core.Path.{◌≡◌, refl, sym}
use Prim.Native.Nat.{ℕ, zero, suc, ◌+◌, ◌-◌, ◌≤◌, ◌<◌}
use native.Mathlib.Numerals.{add-one}
use native.Mathlib.Omega.{arith}
use borrow.Author.Tests.{le-leb, lt-leb, not-true, not-false}
use Rattle.rules.specs.Objects.{met, clears}
use Rattle.memory_columns.specs.Layout as Layout
use Rattle.memory_columns.specs.Layout.{entry}
use Rattle.memory_queues.specs.Moves.{wait_anchor}
use Rattle.memory_waits.specs.Waits.{released}
use Rattle.memory_columns.specs.Layout.{at_most}
use Rattle.call_flag_walk.specs.Serving.{Walk, made, met_at, looked_at_next, walked, served}

module _ (x p k j : ℕ) (e : Bool) (b : List ℕ) {want how : ℕ} {y : Bool} (ew : want ≡ entry Layout.wish b x) (eh : how ≡ entry Layout.mode b x) (ey : y ≡ met p want how) where
  met_is : met_at p x b ≡ y
  met_is = rw (← ew, ← eh) (sym ey)

  pub look_skips : not y ≡ true → made b k (j + 1) e ≡ looked_at_next p x (made b k j e)
  unfolding looked_at_next
  look_skips t = rw (met_is, not-true y t, add-one)

  pub look_serves : not y ≡ false → {b₁ : List ℕ} → b₁ ≡ released x 0 p b → made b₁ (k + 1) (j + 1) (clears how) ≡ looked_at_next p x (made b k j e)
  unfolding looked_at_next
  look_serves t g = rw (met_is, not-false y t, add-one k, add-one j, ← eh, g)

module _ (n p x : ℕ) (w : Walk) where
  pub walk_none : (l : ℕ) → l ≤ 0 → w ≡ walked l n p x w
  unfolding walked
  walk_none zero h = refl
  walk_none (suc l) h = absurd (omega arith)

  pub walk_ends : (l : ℕ) → n < x → w ≡ walked l n p x w
  unfolding walked
  walk_ends zero h = refl
  walk_ends (suc l) h = rw (lt-leb x n h)

  pub walk_cleared : (l : ℕ) → w.cleared ≡ true → w ≡ walked l n p x w
  unfolding walked
  walk_cleared zero e = refl
  walk_cleared (suc l) e = rw (e, and-false)

pub walk_on : (n p x : ℕ) (b : List ℕ) (c j : ℕ) (t : Bool) (l : ℕ) {m y : ℕ} {u : Walk} → l ≡ suc m → x ≤ n → t ≡ false → y ≡ entry Layout.next b x → u ≡ looked_at_next p x (made b c j t) → walked m n p y u ≡ walked l n p x (made b c j t)
unfolding walked
walk_on n p x b c j true l h k z e f = absurd (true≢false z)
walk_on n p x b c j false l h k z e f = rw (h, le-leb x n k, e, f)

pub serve_starts : (i p : ℕ) (b : List ℕ) {s n y x : ℕ} → s ≡ entry Layout.system b 1 → n ≡ at_most s 32 → y ≡ wait_anchor 3 i → x ≡ entry Layout.next b y → walked (n - 0) n p x (made b 0 0 false) ≡ served i p b
unfolding served
serve_starts i p b {n = n} es en ey ex = let z : n - 0 ≡ n = omega arith in rw (z, en, es, ex, ey)
