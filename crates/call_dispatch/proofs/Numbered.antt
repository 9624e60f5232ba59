-- A number that no arm of the code has is no call's: the arms have the numbers 1 to 39. Assumes nothing.
use mathlib.Core.Bool.{Bool, true, false, ◌||◌, true≢false}
use mathlib.Core.List.{List, [], ◌∷◌}
use mathlib.Core.Option.{none}
use mathlib.Core.Path.{◌≡◌, refl, sym, ap, ◌∙◌}
use Prim.Native.Nat.{ℕ, zero, suc, ◌≤◌}
use native.Mathlib.Decide.{dec_le}
use native.Mathlib.Omega.{arith}
use mir.Val.{has_key}
use lib.IntN.{ℤ}
use lib.ListN.{length}
use types.Run.{OneOf, hit}
use Rattle.rules.specs.Ids.{In}
use Rattle.rules.specs.View.{View}
use Rattle.rules.specs.Rows.{Row}
use Rattle.rules.specs.Codes.{H-CALL}
use Rattle.rules.specs.Verdicts.{refuse}
use Rattle.rules.specs.Table.{table, entry, looked_up, numbered, call_count}
use Rattle.check_ranges.specs.Ranges.{every}
use Rattle.check_ranges.proofs.Decisions.{decides_every}

-- n is a key of none of the arms; the last stands first
abbrev pub Apart : ℕ → List (List ℕ) → Type 0
Apart n [] = Unit {0}
Apart n (ks ∷ l) = Apart n l × (OneOf ks n → ⊥)

unfoldable pub keyed : List (List ℕ) → ℕ → Bool
keyed [] n = false
keyed (ks ∷ l) n = has_key ks n || keyed l n

apart_unkeyed : (n : ℕ) (l : List (List ℕ)) → Apart n l → keyed l n ≡ false
unfolding keyed
apart_unkeyed n [] h = refl
apart_unkeyed n (ks ∷ l) h = go (has_key ks n) refl (apart_unkeyed n l h.0)
  where
    go : (t : Bool) → has_key ks n ≡ t → keyed l n ≡ false → (t || keyed l n) ≡ false
    go true e k = absurd (h.1 (hit ks n (rw e tt)))
    go false e k = k

entry_none : (l : List Row) (n : ℕ) → length l ≤ n → entry l n ≡ none
entry_none [] n h = refl
entry_none (r ∷ l) zero h = absurd (omega (arith, h))
entry_none (r ∷ l) (suc n) h = entry_none l n (omega (arith, h))

pub no_row : (v : View) (h : Bool) (me n : ℕ) (a b c : ℤ) (l : List (List ℕ)) → every call_count 1 (keyed l) ≡ true → Apart n l → numbered v h me n a b c ≡ refuse H-CALL
no_row v h me zero a b c l e k = unfold numbered in refl
no_row v h me (suc n) a b c l e k = unfold numbered looked_up table in ap (looked_up v h me) (entry_none (table v me a b c) n (elim (dec_le call_count n) [ yes h ↦ h | no h ↦ absurd (inside (omega arith, omega (arith, h))) ]))
  where
    inside : In (suc n) call_count → ⊥
    inside i = true≢false (sym ((decides_every call_count (keyed l) (λ j r. ((λ z. z), (λ z. z)))).0 e (suc n) i) ∙ apart_unkeyed (suc n) l k)
