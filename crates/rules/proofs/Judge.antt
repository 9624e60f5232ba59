-- What holds of every verdict: it is enough that it holds of each call's rule, once the common refusals have passed, and of the tick, entry and return.
use mathlib.Core.Bool.{Bool, true, false, not, ◌&&◌, false≢true}
use mathlib.Core.List.{List, [], ◌∷◌}
use mathlib.Core.Option.{Option, none, some}
use mathlib.Core.Path.{◌≡◌, refl, subst}
use Prim.Native.Nat.{ℕ, zero, suc, ◌+◌}
use native.Mathlib.Omega.{arith}
use native.Mathlib.Nat.{add-zero}
use lib.Dec.{eqb}
use lib.IntN.{ℤ, pos, negsuc}
use borrow.Author.Tests.{not-true}
use Rattle.rules.specs.Codes.{Code, H-CALL, number, negative, refuses, in_damage, tells_damage}
use Rattle.rules.specs.Events.{call}
use Rattle.rules.specs.Acts.{Act}
use Rattle.rules.specs.View.{View}
use Rattle.rules.specs.Verdicts.{Verdict, refuse, check, choose, on_first, on_count}
use Rattle.rules.specs.Rows.{Refusal, Row}
use Rattle.rules.specs.Table.{refusals, misplaced, names_absent, names_self, names_dormant, judged, table, calls_shown, handler, caller, handles, looked_up, entry, numbered, called, judge}
use Rattle.rules.specs.Blocks.{is, ok}
use Rattle.rules.proofs.Waits.{both_true}

-- a list of proofs, row by row
infixr 5 ◌⊗◌
pub ◌⊗◌ : {A B : Type 0} → A → B → A × B
x ⊗ y = (x, y)

-- ---- the codes that a call may be refused with: negative, none of damage, and not E_RLWAI, which is only in a cell

abbrev is_bad : ℤ → Bool
is_bad (pos n) = false
is_bad (negsuc n) = not (in_damage (negsuc n)) && not (eqb n 3413)

unfoldable pub bad : Code → Bool
unfolding number
bad c = is_bad (number c)

-- such a code is not 0
pub bad_not_ok : (c : Code) → bad c ≡ true → ok c ≡ false
unfolding bad ok
bad_not_ok c = go (number c)
  where
    go : (n : ℤ) → is_bad n ≡ true → is n 0 ≡ false
    go (pos n) e = absurd (false≢true e)
    go (negsuc n) e = refl

-- and refuses
pub bad_refuses : (c : Code) → bad c ≡ true → refuses c ≡ true
unfolding bad refuses
bad_refuses c = go (number c)
  where
    go : (n : ℤ) → is_bad n ≡ true → negative n ≡ true
    go (pos n) e = absurd (false≢true e)
    go (negsuc n) e = refl

-- and tells no damage
pub bad_not_damage : (c : Code) → bad c ≡ true → tells_damage c ≡ false
unfolding bad tells_damage
bad_not_damage c = go (number c)
  where
    go : (n : ℤ) → is_bad n ≡ true → in_damage n ≡ false
    go (pos n) e = refl
    go (negsuc n) e = not-true _ (both_true _ _ e).0

abbrev pub all_bad : List Refusal → Bool
all_bad [] = true
all_bad (x ∷ l) = bad x.code && all_bad l

abbrev rows_bad : List Row → Bool
rows_bad [] = true
rows_bad (r ∷ l) = all_bad r.words && rows_bad l

table_bad : (v : View) (me : ℕ) (a b c : ℤ) → rows_bad (table v me a b c) ≡ true
unfolding calls_shown bad
table_bad v me a b c = refl

entry_bad : (l : List Row) (n : ℕ) (r : Row) → rows_bad l ≡ true → entry l n ≡ some r → all_bad r.words ≡ true
entry_bad [] n r e f = absurd (none_some f)
  where
    none_some : none ≡ some r → ⊥
    none_some f = let z : ◌≡◌ {A = ℕ} 0 1 = cc in omega arith
entry_bad (x ∷ l) zero r e f = let q : x ≡ r = cc in subst (λ (y : Row). all_bad y.words ≡ true) q (both_true (all_bad x.words) (rows_bad l) e).0
entry_bad (x ∷ l) (suc n) r e f = entry_bad l n r (both_true (all_bad x.words) (rows_bad l) e).1 f

pub row_bad : (v : View) (me k : ℕ) (a b c : ℤ) (r : Row) → entry (table v me a b c) k ≡ some r → all_bad r.words ≡ true
row_bad v me k a b c r f = entry_bad (table v me a b c) k r (table_bad v me a b c) f

-- ---- the tests that a row has passed

-- none of the reasons applies
abbrev pub Passed : List Refusal → Type 0
Passed [] = Unit {0}
Passed (x ∷ l) = (x.applies ≡ false) × Passed l

pub record Passes (v : View) (h : Bool) (me : ℕ) (r : Row) : Type 0 where
  pub words : Passed r.words
  pub context : misplaced r.context h me ≡ false
  pub there : names_absent v.body r.target ≡ false
  pub self : names_self r.target me ≡ false
  pub dormant : names_dormant v.body r.target ≡ false

-- each rule from number k on has the property P, once its row's tests have passed
abbrev pub AllRows : (ℤ → Verdict → Type 0) → View → Bool → ℕ → ℕ → List Row → Type 0
AllRows P v h me k [] = Unit {0}
AllRows P v h me k (r ∷ l) = (Passes v h me r → P (pos k) r.rule) × AllRows P v h me (suc k) l

-- ---- P n r: the verdict r of call n has the property; a bare refusal has it

module _ (P : ℤ → Verdict → Type 0) (no_way : (n : ℤ) (c : Code) → bad c ≡ true → P n (refuse c)) where
  pub by_check : {n : ℤ} {t : Bool} {r : Verdict} (c : Code) → bad c ≡ true → (t ≡ false → P n r) → P n (check t c r)
  unfolding check
  by_check {n} {t = true} c b h = no_way n c b
  by_check {t = false} c b h = h refl

  pub by_first : {n : ℤ} {l : List ℕ} {r : Verdict} {f : ℕ → Verdict} → (l ≡ [] → P n r) → ((x : ℕ) (m : List ℕ) → l ≡ x ∷ m → P n (f x)) → P n (on_first l r f)
  unfolding on_first
  by_first {l = []} h k = h refl
  by_first {l = x ∷ m} h k = k x m refl

  pub by_count : {n : ℤ} {k : ℕ} {r : Verdict} {f : ℕ → Verdict} → (k ≡ 0 → P n r) → ((j : ℕ) → k ≡ suc j → P n (f j)) → P n (on_count k r f)
  unfolding on_count
  by_count {k = zero} h g = h refl
  by_count {k = suc j} h g = g j refl

  pub by_choose : {n : ℤ} {t : Bool} {r s : Verdict} → (t ≡ true → P n r) → (t ≡ false → P n s) → P n (choose t r s)
  unfolding choose
  by_choose {t = true} h k = h refl
  by_choose {t = false} h k = k refl

  by_refusals : (n : ℤ) (l : List Refusal) (r : Verdict) → all_bad l ≡ true → (Passed l → P n r) → P n (refusals l r)
  unfolding refusals
  by_refusals n [] r b h = h tt
  by_refusals n (x ∷ l) r b h = let d = both_true (bad x.code) (all_bad l) b in by_check x.code d.0 (λ e. by_refusals n l r d.1 (λ p. h (e, p)))

  -- ---- a row, and all rows from number k on

  module _ (v : View) (h : Bool) (me : ℕ) where
    pub by_row : (k : ℕ) (r : Row) → all_bad r.words ≡ true → (Passes v h me r → P (pos k) r.rule) → P (pos k) (judged v h me r)
    unfolding judged bad
    by_row k r b g =
        by_refusals (pos k) r.words _ b
        (λ p. by_refusals (pos k) _ r.rule refl (λ q. g (record { words = p; context = q.0; there = q.1.0; self = q.1.1.0; dormant = q.1.1.1.0 })))

    by_entry : (k n : ℕ) (l : List Row) → rows_bad l ≡ true → AllRows P v h me k l → P (pos (k + n)) (looked_up v h me (entry l n))
    unfolding looked_up bad
    by_entry k n [] b g = no_way _ H-CALL refl
    by_entry k zero (r ∷ l) b g = rw (add-zero k) (by_row k r (both_true (all_bad r.words) (rows_bad l) b).0 g.0)
    by_entry k (suc n) (r ∷ l) b g =
        let e : k + suc n ≡ suc k + n = omega arith in
        rw e (by_entry (suc k) n l (both_true (all_bad r.words) (rows_bad l) b).1 g.1)

  -- ---- a call

  module _ (v : View) (a b c : ℤ) where
    -- by its number, from any context and by anybody
    pub by_number : (h : Bool) (me : ℕ) → AllRows P v h me 1 (table v me a b c) → (n : ℕ) → P (pos n) (numbered v h me n a b c)
    unfolding numbered bad
    by_number h me rows zero = no_way _ H-CALL refl
    by_number h me rows (suc n) = let e : suc n ≡ 1 + n = omega arith in rw e (by_entry v h me 1 n (table v me a b c) (table_bad v me a b c) rows)

    by_called : ((h : Bool) → AllRows P v (handles v h) (caller v h) 1 (table v (caller v h) a b c)) → (x : Option Bool) (n : ℤ) → P n (called v x n a b c)
    unfolding called bad
    by_called rows none n = no_way n H-CALL refl
    by_called rows (some h) (negsuc n) = no_way _ H-CALL refl
    by_called rows (some h) (pos n) = by_number (handles v h) (caller v h) (rows h) n

    pub by_call : ((h : Bool) → AllRows P v (handles v h) (caller v h) 1 (table v (caller v h) a b c)) → (x n : ℤ) → P n (judge v (call x n a b c))
    unfolding judge
    by_call rows x n = by_called rows (handler x) n

-- ---- a property of a verdict's acts, which the empty list has too

pub checked_acts : (L : List Act → Type 0) (t : Bool) (c : Code) (r : Verdict) → L [] → (t ≡ false → L r.acts) → L (check t c r).acts
unfolding check
checked_acts L true c r z h = z
checked_acts L false c r z h = h refl

pub data OnActs (L : List Act → Type 0) (r : Verdict) : Type 0 where
  on_acts : L r.acts → OnActs L r

module _ {L : List Act → Type 0} where
  pub acts_check : {t : Bool} {r : Verdict} (c : Code) → L [] → (t ≡ false → OnActs L r) → OnActs L (check t c r)
  unfolding check
  acts_check {t = true} c z h = on_acts z
  acts_check {t = false} c z h = h refl

  pub acts_choose : {t : Bool} {r s : Verdict} → (t ≡ true → OnActs L r) → (t ≡ false → OnActs L s) → OnActs L (choose t r s)
  unfolding choose
  acts_choose {t = true} h k = h refl
  acts_choose {t = false} h k = k refl
