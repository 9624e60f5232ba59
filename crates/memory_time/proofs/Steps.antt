-- The code's steps put together: each law takes what the calls of a function give, in order, and ends in what the function does.
-- Assumes nothing.
use Prim.Native.Nat.{ℕ, zero, suc, ◌+◌, ◌-◌, ◌%◌, ◌^◌, ◌≤◌, ◌<◌}
use mathlib.Core.List.{List}
use mathlib.Core.Path.{◌≡◌, refl, ap, ◌∙◌}
use native.Mathlib.Numerals.{sub-one, add-one}
use native.Mathlib.Omega.{arith}
use borrow.Author.Tests.{ne_eqb, le-leb, lt-leb}
use Rattle.memory_columns.specs.Layout as Layout
use Rattle.memory_columns.specs.Layout.{entry}
use Rattle.memory_time.specs.Elapsing.{aged, aged_from, clocked, counted}

pub age_one : (t : ℕ) (b : List ℕ) {n m : ℕ} {b₁ : List ℕ} → n ≡ entry Layout.ticks b t → m ≡ n - 1 → b₁ ≡ Layout.put Layout.ticks t m b → b₁ ≡ aged t b
unfolding aged
age_one t b e f g = g ∙ rw (f, e, sub-one)

pub age_none : (n t : ℕ) (b : List ℕ) → n ≤ 0 → b ≡ aged_from n t b
unfolding aged_from
age_none zero t b h = refl
age_none (suc n) t b h = absurd (omega arith)

pub age_step : (n t : ℕ) (b : List ℕ) {b₁ : List ℕ} → 0 < n → b₁ ≡ aged t b → aged_from (n - 1) (t + 1) b₁ ≡ aged_from n t b
unfolding aged_from
age_step zero t b h e = absurd (omega arith)
age_step (suc n) t b h e = rw (sub-one, add-one, e)

pub age_next : (n t : ℕ) (b : List ℕ) {b₁ : List ℕ} → t ≤ n → b₁ ≡ aged t b → aged_from (n + 1 - (t + 1)) (t + 1) b₁ ≡ aged_from (n + 1 - t) t b
age_next n t b {b₁} h e = ap (λ (k : ℕ). aged_from k (t + 1) b₁) (omega arith) ∙ age_step (n + 1 - t) t b (omega arith) e

module _ (b : List ℕ) {low : ℕ} (e : low ≡ entry Layout.system b Layout.clock_low) where
  pub clock_low_lem : {b₁ : List ℕ} → low < 4294967295 → b₁ ≡ Layout.put Layout.system Layout.clock_low (low + 1) b → b₁ ≡ clocked b
  unfolding clocked
  clock_low_lem h f =
      let z : suc low % 2 ^ 32 ≡ low + 1 = omega arith in
      f ∙ rw (← e, z, ne_eqb (low + 1) 0 (λ k. omega arith))

  pub clock_high_lem : {n : ℕ} {b₁ b₂ : List ℕ} → low < 2 ^ 32 → 4294967295 ≤ low → n ≡ entry Layout.system b Layout.clock_high → b₁ ≡ Layout.put Layout.system Layout.clock_low 0 b
      → b₂ ≡ Layout.put Layout.system Layout.clock_high ((n % 65536 + 1) % 65536) b₁ → b₂ ≡ clocked b
  unfolding clocked
  clock_high_lem {n} k h f g g' =
      let z : suc low % 2 ^ 32 ≡ 0 = omega arith in
      let y : (n % 65536 + 1) % 65536 ≡ suc n % 2 ^ 16 = omega arith in
      g' ∙ rw (← e, ← f, z, y, g)

-- the counter
module _ (b : List ℕ) {m : ℕ} (e : m ≡ entry Layout.counter b Layout.counter_size) where
  pub count_none : m ≡ 0 → b ≡ counted b
  unfolding counted
  count_none h = rw (← e, h)

  pub count_up : {n : ℕ} {b₁ : List ℕ} → (m ≡ 0 → ⊥) → n ≡ entry Layout.counter b Layout.counter_now → n < m - 1 → b₁ ≡ Layout.put Layout.counter Layout.counter_now (n + 1) b → b₁ ≡ counted b
  unfolding counted
  count_up {n} ne f h g = g ∙ rw (← e, ← f, ne_eqb m 0 ne, lt-leb m (suc n) (omega arith), add-one)

  pub count_round : {n : ℕ} {b₁ : List ℕ} → (m ≡ 0 → ⊥) → n ≡ entry Layout.counter b Layout.counter_now → m - 1 ≤ n → b₁ ≡ Layout.put Layout.counter Layout.counter_now 0 b → b₁ ≡ counted b
  unfolding counted
  count_round {n} ne f h g = g ∙ rw (← e, ← f, ne_eqb m 0 ne, le-leb m (suc n) (omega arith))
