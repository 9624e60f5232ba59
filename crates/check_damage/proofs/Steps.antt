-- The naming, id after id and rule after rule. Assumes nothing.
use mathlib.Core.Bool.{Bool, true, false}
use mathlib.Core.List.{List, [], ◌∷◌}
use mathlib.Core.Path.{◌≡◌, refl, sym, ap, ◌∙◌}
use Prim.Native.Nat.{ℕ, zero, suc, ◌+◌, ◌≤◌, ◌<◌}
use native.Mathlib.Decide.{ℕ_discrete}
use native.Mathlib.Omega.{arith}
use lib.IntN.{ℤ}
use lib.ListN.{get_or, take, drop}
use Rattle.std.specs.Prelude.{Option, Result, Ok, Err}
use Rattle.std.specs.Option.{unwrap_or}
use Rattle.std.specs.Result.{result_err}
use Rattle.rules.specs.Codes.{minus, number}
use Rattle.memory_rings.specs.Columns.{col}
use Rattle.memory_columns.specs.Layout as Layout
use Rattle.memory_columns.specs.Layout.{entry}
use Rattle.check_queues.specs.Queues.{home}
use Rattle.check_state.specs.Unserved.{unserved_ok}
use Rattle.check_lines.specs.Lines.{few, placed, message_once, pool_listed}
use Rattle.check_damage.specs.declared.Breach.{Breach}
use Rattle.check_damage.specs.Damage.{Told, told, ids_from, first_broken, KeptTo, BrokenAt, Keeps, told_by}

module _ (f : ℕ → Bool) (c : ℤ) (later : Told) where
  all_kept : (n i : ℕ) → ((k : ℕ) → i ≤ k → k < i + n → f k ≡ true) → ids_from f c i n later ≡ later
  unfolding ids_from
  all_kept zero i h = refl
  all_kept (suc n) i h = rw (h i (omega arith) (omega arith)) (all_kept n (suc i) (λ k p q. h k (omega (arith, p)) (omega (arith, q))))

  first_told : (n i j : ℕ) → i ≤ j → j < i + n → f j ≡ false → ((k : ℕ) → i ≤ k → k < j → f k ≡ true) → ids_from f c i n later ≡ told c j
  unfolding ids_from
  first_told zero i j p q e h = absurd (omega (arith, p, q))
  first_told (suc n) i j p q e h = elim (ℕ_discrete i j) [
    | yes s ↦ rw (s, e)
    | no d ↦ rw (h i (omega arith) (omega (arith, p, d))) (first_told n (suc i) j (omega (arith, p, d)) (omega (arith, q)) e (λ k x y. h k (omega (arith, x)) y))
  ]

  -- what the ids of a rule tell, from what their tests gave
  pub rule_kept : {gives : ℕ → Bool → Type 0} {n m : ℕ} → KeptTo gives n → n ≡ m → ((i : ℕ) (t : Bool) → gives i t → t ≡ f i) → later ≡ ids_from f c 1 m later
  rule_kept {m = m} K e g = sym (all_kept m 1 (λ k p q. sym (g k true (K.each k (p, omega (arith, q, e))))))

  pub rule_broken : {gives : ℕ → Bool → Type 0} {n m : ℕ} {x : Breach} → BrokenAt gives c n x → n ≡ m → ((i : ℕ) (t : Bool) → gives i t → t ≡ f i) → told x.code x.id ≡ ids_from f c 1 m later
  rule_broken {m = m} {x = x} B e g =
      ap (λ (z : ℤ). told z x.id) B.code
      ∙ sym (first_told m 1 x.id B.there.0 (omega (arith, B.there.1, e)) (sym (g x.id false B.broken)) (λ k p q. sym (g k true (B.before k p q))))

-- the last rule, behind which only a number can be broken
pub last_rule : (f : ℕ → Bool) (c : ℤ) {gives : ℕ → Bool → Type 0} {n m : ℕ} (r : Result (Unit {0}) Breach) → Keeps gives c n r → n ≡ m → ((i : ℕ) (t : Bool) → gives i t → t ≡ f i)
    → told_by r ≡ ids_from f c 1 m (told (minus 20) 0)
unfolding number
last_rule f c (Ok u) K e g = rule_kept f c (told (minus 20) 0) K e g
last_rule f c (Err x) B e g = rule_broken f c (told (minus 20) 0) B e g

-- the breach of a rule, or one that no rule names
pub told_breach : (r : Result (Unit {0}) Breach) {o : Option Breach} {x : Breach} → o ≡ result_err r → x ≡ unwrap_or o (record { code = minus 20; id = 0 }) → told x.code x.id ≡ told_by r
unfolding number
told_breach (Ok u) e h = rw (h, e)
told_breach (Err y) e h = rw (h, e)

-- what is told from a rule on
module _ (b : List ℕ) where
  abbrev pub from_free : Told
  from_free = ids_from (pool_listed b) (minus 24) 1 (few b Layout.pools) (told (minus 20) 0)

  abbrev pub from_twice : Told
  from_twice = ids_from (message_once b) (minus 23) 1 (few b Layout.messages) from_free

  abbrev pub from_served : Told
  from_served = ids_from (unserved_ok b) (minus 22) 1 (few b Layout.tasks) from_twice

  pub in_order : ids_from (λ i. placed b (home b i) i) (minus 21) 1 (few b Layout.tasks) from_served ≡ first_broken b
  unfolding first_broken number
  in_order = refl

-- ---- words

-- what bounds each word of a list bounds each of a part
below_drop : (n p : ℕ) (l : List ℕ) → ((i : ℕ) → get_or l i 0 < n) → (i : ℕ) → get_or (drop p l) i 0 < n
below_drop n zero l h i = h i
below_drop n (suc p) [] h i = h i
below_drop n (suc p) (x ∷ l) h i = below_drop n p l (λ j. h (suc j)) i

below_take : (n q : ℕ) (l : List ℕ) → 0 < n → ((i : ℕ) → get_or l i 0 < n) → (i : ℕ) → get_or (take q l) i 0 < n
below_take n zero l z h i = z
below_take n (suc q) [] z h i = z
below_take n (suc q) (x ∷ l) z h zero = h 0
below_take n (suc q) (x ∷ l) z h (suc i) = below_take n q l z (λ j. h (suc j)) i

-- the clock's low half is a word
pub low_fits : (b : List ℕ) → ((i : ℕ) → get_or b i 0 < 4294967296) → entry Layout.system b Layout.clock_low < 4294967296
unfolding col
low_fits b h = below_take 4294967296 (Layout.system).width (drop (Layout.system).at b) (omega arith) (below_drop 4294967296 (Layout.system).at b h) Layout.clock_low
