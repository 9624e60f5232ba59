-- `states_flat`: the numbers before i. Assumes nothing.
use mathlib.Core.List.{List, []}
use mathlib.Core.Path.{◌≡◌, refl, ◌∙◌}
use Prim.Native.Nat.{ℕ, ◌+◌, ◌*◌, ◌/◌, ◌%◌, ◌<◌}
use native.Mathlib.Omega.{arith}
use lib.ListN.{length, get_or, set, length-set}
use lib.Seq.{get_or-set_same, get_or-set_other}
use native.Mathlib.Decide.{ℕ_discrete}
use Rattle.run_tally.proofs.states_flat.Goals as goal

-- one number more
at_next : (t : List (List ℕ)) (out : List ℕ) (i : ℕ) → ((j : ℕ) → j < i → get_or out j 0 ≡ get_or (get_or t (j / 7) []) (j % 7) 0) → i < length out
    → (j : ℕ) → j < i + 1 → get_or (set out i (get_or (get_or t (i / 7) []) (i % 7) 0)) j 0 ≡ get_or (get_or t (j / 7) []) (j % 7) 0
at_next t out i w r j h = elim (ℕ_discrete j i) [
  | yes e ↦ rw e (get_or-set_same out i _ 0 r)
  | no n ↦ get_or-set_other out i j _ 0 n ∙ w j (omega (arith, h, n))
]

pub loop-i-init : goal.loop-i-init
loop-i-init c = (λ j h. absurd (omega (arith, h)), refl)

pub loop-i-preserved : goal.loop-i-preserved
loop-i-preserved c =
    let w = c.loop-i.invariant in
    (λ j h. at_next c.args.table c.loop-i.out c.loop-i.i w.0 (omega (arith, w.1, c.loop-i-test.true)) j h, simp length-set w.1)

pub returns : goal.returns
returns c =
    λ i s h k.
    let row : (7 * i + s) / 7 ≡ i = omega (arith, k) in
    let cell : (7 * i + s) % 7 ≡ s = omega (arith, k) in
    rw (row, cell) at (c.loop-i.invariant.0 (7 * i + s) (omega (arith, h, k, c.loop-i-test.false)))
