-- The start's steps put together: each law takes what the calls of a function give and ends in what the function writes. Assumes nothing.
use Prim.Native.Nat.{ℕ, ◌≤◌}
use mathlib.Core.List.{List}
use mathlib.Core.Path.{◌≡◌, ◌∙◌}
use Rattle.setup_plan.specs.declared.Plan.{Plan}
use Rattle.setup_plan.specs.Layout.{plan_of}
use Rattle.setup_plan.proofs.Plans.{plan_fits}
use Rattle.memory_columns.specs.Layout.{max_tasks, max_pools}
use Rattle.kernel_fresh.specs.Laying.{in_turn, laid}
use Rattle.kernel_start.specs.Starting.{freed_pool, begun, fresh_words}

pub fresh_steps : (s : List ℕ) {p : Plan} {b₁ b₂ b₃ : List ℕ} → p ≡ plan_of s 0 → b₁ ≡ laid s (plan_of s 0) → b₂ ≡ in_turn (freed_pool s p.at.pools) p.pools 1 b₁ → b₃ ≡ in_turn (begun s p.at.tasks) p.tasks 1 b₂
    → b₃ ≡ fresh_words s
unfolding fresh_words
fresh_steps s e e₁ e₂ e₃ = e₃ ∙ rw (e₂, e₁, e)

pub tasks_small : (s : List ℕ) {p : Plan} → p ≡ plan_of s 0 → p.tasks ≤ max_tasks
tasks_small s e = rw e (plan_fits s 0).tasks

pub pools_small : (s : List ℕ) {p : Plan} → p ≡ plan_of s 0 → p.pools ≤ max_pools
pools_small s e = rw e (plan_fits s 0).pools
