-- The tables laid one entry after the other. Assumes nothing.
use Prim.Native.Nat.{ℕ, suc, ◌+◌, ◌≤◌, ◌<◌}
use native.Mathlib.Numerals.{add-one}
use native.Mathlib.Omega.{arith}
use mathlib.Core.List.{List, map}
use mathlib.Core.Path.{◌≡◌, sym, ap, ◌∙◌}
use lib.ListN.{length, take, get_or}
use lib.Seq.{length-take-le, get_or-take, ext_get_or}
use Rattle.rules.specs.Ids.{ids}
use Rattle.rules.proofs.Ids.{of_ids, length_ids}
use Rattle.check_queues.specs.Queues.{Laid}

-- ---- tables, one entry after the other

pub laid_by : (f : ℕ → ℕ) (n : ℕ) (l : List ℕ) → ((j : ℕ) → j < n → get_or l j 0 ≡ f (j + 1)) → Laid f n l
laid_by f n l h = record { home = λ j b. h j b ∙ ap f (add-one j) }

-- all of them
pub laid_is : (f : ℕ → ℕ) (n : ℕ) (l : List ℕ) → n ≤ length l → Laid f n l → take n l ≡ map f (ids n)
laid_is f n l k h =
    let e : length (take n l) ≡ n = length-take-le n l k in
    ext_get_or 0 (take n l) (map f (ids n)) (e ∙ sym (length_ids f n)) (λ i b.
    let d : i < n = omega (arith, e) in
    get_or-take n l i 0 d ∙ h.home i d ∙ sym (of_ids f n (suc i) 0 (omega arith, d)))
