-- A table that is filled id by id. Assumes nothing.
use mathlib.Core.List.{List}
use mathlib.Core.Path.{◌≡◌, refl, ap, ◌∙◌}
use Prim.Native.Nat.{ℕ, zero, suc, ◌+◌, ◌<◌}
use native.Mathlib.Decide.{ℕ_discrete}
use native.Mathlib.Numerals.{add-one}
use native.Mathlib.Omega.{arith}
use lib.ListN.{length, set}
use lib.Seq.{get_or-set_same, get_or-set_other}
use Rattle.rules.specs.Ids.{of, In}
use Rattle.kernel_cells.specs.Promises.{Listed}

pub none_listed : (f : ℕ → ℕ) (s : List ℕ) → Listed f 0 s s
none_listed f s = record { each = λ t h. absurd (omega (arith, h.0, h.1)); rest = λ t h. refl }

module _ {f : ℕ → ℕ} {old : List ℕ} where
  pub one_listed : (s : List ℕ) (i : ℕ) → Listed f i old s → i < length s → {v : ℕ} → v ≡ f (i + 1) → Listed f (i + 1) old (set s i v)
  one_listed s i L r {v} e = record { each = each; rest = rest }
    where
      each : (t : ℕ) → In t (i + 1) → of (set s i v) t 0 ≡ f t
      each zero h = absurd (omega (arith, h.0))
      each (suc j) h = elim (ℕ_discrete j i) [
        | yes q ↦ rw q (get_or-set_same s i v 0 r ∙ e ∙ ap f (add-one i))
        | no n ↦ get_or-set_other s i j v 0 n ∙ L.each (suc j) (omega arith, omega (arith, h.1, n))
      ]

      rest : (t : ℕ) → i + 1 < t → of (set s i v) t 0 ≡ of old t 0
      rest zero h = absurd (omega (arith, h))
      rest (suc j) h = get_or-set_other s i j v 0 (λ q. omega (arith, h, q)) ∙ L.rest (suc j) (omega (arith, h))

  pub all_listed : {s : List ℕ} {i n : ℕ} → Listed f i old s → i ≡ n → Listed f n old s
  all_listed L e = rw (← e) L
