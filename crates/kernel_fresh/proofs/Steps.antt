-- The code's steps put together: each law takes what the calls of a function give and ends in what the function writes. Assumes nothing.
use Prim.Native.Nat.{ℕ, suc, ◌+◌, ◌-◌, ◌≤◌, ◌<◌}
use mathlib.Core.List.{List}
use mathlib.Core.Path.{◌≡◌, refl, ◌∙◌}
use native.Mathlib.Numerals.{add-one}
use native.Mathlib.Omega.{arith}
use lib.ListN.{length, replicate}
use Rattle.setup_plan.specs.declared.Plan.{Plan}
use Rattle.setup_plan.specs.Layout.{plan_of, PlanFits}
use Rattle.setup_plan.proofs.Plans.{plan_fits}
use Rattle.memory_columns.specs.Layout.{state_words}
use Rattle.kernel_fresh.specs.Laying.{in_turn, counted, laid_task, laid_semaphore, laid_flag, laid_pool, laid_counter, entered, emptied, laid}

-- ---- loops over ids

module _ (f : ℕ → List ℕ → List ℕ) where
  one_turn : (n i : ℕ) (b : List ℕ) {b₁ : List ℕ} → b₁ ≡ f i b → in_turn f n (i + 1) b₁ ≡ in_turn f (suc n) i b
  unfolding in_turn
  one_turn n i b e = rw (add-one, e)

  no_turn : (i : ℕ) (b : List ℕ) → b ≡ in_turn f 0 i b
  unfolding in_turn
  no_turn i b = refl

  -- a loop up to e, from i on: nothing is left, and one id more
  pub turn_none : (e i : ℕ) (b : List ℕ) → e ≤ i → b ≡ in_turn f (e - i) i b
  turn_none e i b h = let z : e - i ≡ 0 = omega arith in rw z (no_turn i b)

  pub turn_step : (e i : ℕ) (b : List ℕ) {b₁ : List ℕ} → i < e → b₁ ≡ f i b → in_turn f (e - (i + 1)) (i + 1) b₁ ≡ in_turn f (e - i) i b
  turn_step e i b h g = let k : e - i ≡ suc (e - (i + 1)) = omega arith in rw k (one_turn (e - (i + 1)) i b g)

-- ---- the parts of a plan

pub entry_steps : (s : List ℕ) (p : Plan) (b : List ℕ) {b₁ b₂ b₃ b₄ b₅ : List ℕ} → b₁ ≡ in_turn (laid_task s p.at.tasks) p.tasks 1 b
    → b₂ ≡ in_turn (laid_semaphore s p.at.semaphores) p.semaphores 1 b₁ → b₃ ≡ in_turn (laid_flag s p.at.flags) p.flags 1 b₂
    → b₄ ≡ in_turn (laid_pool s p.at.pools) p.pools 1 b₃ → b₅ ≡ laid_counter s p.at.counter p.counters b₄ → b₅ ≡ entered s p b
unfolding entered
entry_steps s p b e₁ e₂ e₃ e₄ e₅ = e₅ ∙ rw (e₄, e₃, e₂, e₁)

-- ---- the whole

pub plan_small : (s : List ℕ) {p : Plan} → p ≡ plan_of s 0 → PlanFits p (length s)
plan_small s e = rw e (plan_fits s 0)

pub laid_steps : (s : List ℕ) {p : Plan} {b₁ b₂ b₃ : List ℕ} → p ≡ plan_of s 0 → b₁ ≡ counted p (replicate state_words 0) → b₂ ≡ entered s p b₁ → b₃ ≡ emptied p b₂
    → b₃ ≡ laid s (plan_of s 0)
unfolding laid
laid_steps s e e₁ e₂ e₃ = e₃ ∙ rw (e₂, e₁, e)
