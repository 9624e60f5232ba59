-- The few forms of verdicts, done on the memory. Assumes nothing.
use mathlib.Core.Bool.{Bool, true, false}
use mathlib.Core.List.{List, [], ◌∷◌}
use mathlib.Core.Path.{◌≡◌, refl, sym}
use Prim.Native.Nat.{ℕ, zero, suc, ◌-◌}
use native.Mathlib.Numerals.{sub-one}
use native.Mathlib.Omega.{arith}
use lib.IntN.{pos}
use Rattle.rules.specs.Acts.{Act, wait}
use Rattle.rules.specs.State.{Wait}
use Rattle.rules.specs.Codes.{Code, number}
use Rattle.rules.specs.Releases.{releases}
use Rattle.rules.specs.Verdicts.{Verdict, refuse, gives, check, choose, on_first, on_count, waits}
use Rattle.memory_picture.specs.Perform.{performed, performed_marks}
use Rattle.memory_running.proofs.Lowest.{HeadOf}
use Rattle.call_words.specs.declared.Outcome.{Outcome}
use Rattle.call_words.specs.Outcomes.{outcome}
use Rattle.call_words.specs.Doing.{performs, performs_marks, Does}

module _ {s : Outcome} {b m : List ℕ} where
  pub refuses_with : (c : Code) → s ≡ outcome (number c) 0 0 0 → Does (refuse c) s b m b m
  unfolding performs performs_marks
  refuses_with c e = record { says = e; words = refl; marks = refl }

  pub check_stops : {t : Bool} (c : Code) (r : Verdict) → t ≡ true → s ≡ outcome (number c) 0 0 0 → Does (check t c r) s b m b m
  unfolding check
  check_stops c r t e = rw t (refuses_with c e)

  -- acts that touch no message, done
  pub gives_acts : (l : List Act) {x y : ℕ} {b' : List ℕ} → performs_marks l m ≡ m → s ≡ outcome (pos 0) x y (releases l) → b' ≡ performs l b → Does (gives x y l) s b m b' m
  unfolding number
  gives_acts l k e g = record { says = e; words = g; marks = sym k }

  pub gives_none : {x y : ℕ} → s ≡ outcome (pos 0) x y 0 → Does (gives x y []) s b m b m
  unfolding performs performs_marks
  gives_none e = gives_acts [] refl e refl

  pub gives_one : (a : Act) {x y : ℕ} {b' : List ℕ} → performed_marks a m ≡ m → s ≡ outcome (pos 0) x y (releases (a ∷ [])) → b' ≡ performed a b → Does (gives x y (a ∷ [])) s b m b' m
  unfolding performs performs_marks
  gives_one a k e g = gives_acts (a ∷ []) k e g

  -- the caller waits
  pub waits_one : (i : ℕ) (w : Wait) {b' : List ℕ} → s ≡ outcome (pos 1) 0 0 0 → b' ≡ performed (wait i w) b → Does (waits i w) s b m b' m
  unfolding performs performs_marks performed_marks number
  waits_one i w e g = record { says = e; words = g; marks = refl }

module _ {s : Outcome} {b m b' m' : List ℕ} where
  pub check_passes : {t : Bool} (c : Code) (r : Verdict) → t ≡ false → Does r s b m b' m' → Does (check t c r) s b m b' m'
  unfolding check
  check_passes c r e d = rw e d

  pub choose_first : {t : Bool} (r q : Verdict) → t ≡ true → Does r s b m b' m' → Does (choose t r q) s b m b' m'
  unfolding choose
  choose_first r q e d = rw e d

  pub choose_second : {t : Bool} (r q : Verdict) → t ≡ false → Does q s b m b' m' → Does (choose t r q) s b m b' m'
  unfolding choose
  choose_second r q e d = rw e d

  pub count_none : {n : ℕ} (r : Verdict) (f : ℕ → Verdict) → n ≡ 0 → Does r s b m b' m' → Does (on_count n r f) s b m b' m'
  unfolding on_count
  count_none r f e d = rw e d

  pub count_some : (n : ℕ) (r : Verdict) (f : ℕ → Verdict) → (n ≡ 0 → ⊥) → Does (f (n - 1)) s b m b' m' → Does (on_count n r f) s b m b' m'
  unfolding on_count
  count_some zero r f ne d = absurd (ne refl)
  count_some (suc n) r f ne d = rw sub-one at d

  pub first_none : {x : ℕ} (l : List ℕ) (r : Verdict) (f : ℕ → Verdict) → x ≡ 0 → HeadOf x l → Does r s b m b' m' → Does (on_first l r f) s b m b' m'
  unfolding on_first
  first_none [] r f e h d = d
  first_none (y ∷ l) r f e h d = absurd (omega (arith, h.0, h.1))

  pub first_some : {x : ℕ} (l : List ℕ) (r : Verdict) (f : ℕ → Verdict) → (x ≡ 0 → ⊥) → HeadOf x l → Does (f x) s b m b' m' → Does (on_first l r f) s b m b' m'
  unfolding on_first
  first_some [] r f ne h d = absurd (ne h)
  first_some (y ∷ l) r f ne h d = rw h.0 at d
