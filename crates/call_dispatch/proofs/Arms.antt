-- A call by its number: the code of its row is answered, or its arm does the row's rule. Assumes nothing.
use mathlib.Core.Bool.{Bool, false}
use mathlib.Core.List.{List}
use mathlib.Core.Option.{some}
use mathlib.Core.Path.{◌≡◌, sym, ap, ◌∙◌, subst}
use Prim.Native.Nat.{ℕ, suc, ◌≤◌}
use native.Mathlib.Omega.{arith}
use lib.IntN.{ℤ, pos, negsuc}
use borrow.Author.Tests.{eqb-false, leb-false}
use Rattle.std.specs.Prelude.{Result, Ok, Err, IsErrAnd}
use Rattle.std.proofs.lemmas.Result.{err_from_is_err_and}
use Rattle.rules.specs.Codes.{number, H-CALL}
use Rattle.rules.specs.Events.{nat, above}
use Rattle.rules.specs.View.{View}
use Rattle.rules.specs.Verdicts.{Verdict, refuse}
use Rattle.rules.specs.Rows.{Row, T}
use Rattle.rules.specs.Table.{misplaced, judged, table, entry, looked_up, numbered}
use Rattle.rules.proofs.Judge.{Passes}
use Rattle.memory_picture.specs.Picture.{view_shown, Accepted}
use Rattle.call_words.specs.declared.Outcome.{Outcome}
use Rattle.call_words.specs.Outcomes.{outcome}
use Rattle.call_words.specs.Doing.{Does}
use Rattle.call_words.proofs.Verdicts.{refuses_with}
use Rattle.call_judging.specs.declared.Reason.{Reason}
use Rattle.call_judging.specs.Judging.{told, row_code}
use Rattle.call_judging.proofs.Refused.{row_refused, row_passed}
use Rattle.call_dispatch.specs.Dispatching.{answered, Dispatches}

-- ---- what a row's tests say of its words

pub upto : (a : ℤ) (n : ℕ) → above a n ≡ false → nat a ≤ n
upto (pos k) n e = omega (arith, leb-false (suc n) k e)
upto (negsuc k) n e = omega arith

pub caller_is : (h : Bool) (me : ℕ) → misplaced T h me ≡ false → me ≡ 0 → ⊥
caller_is h me e z = eqb-false me 0 e z

-- ---- an arm

-- what `?` hands on is the reason
pub got : (x : Result Outcome Reason) (e : Reason) → IsErrAnd x (λ f. f ≡ e) → x ≡ Err e
got x e h = let p = err_from_is_err_and x h in p.1 ∙ ap Err p.2

-- Arm n is that of row R, the k-th of the table; r is what its tests told.
module _ (k : ℕ) (R : View → Row) (h : Bool) (me : ℕ) {n : ℕ} (a b c : ℤ) (en : n ≡ suc k) (row : (v : View) → entry (table v me a b c) k ≡ some (R v)) where
  row_is : (v : View) → numbered v h me n a b c ≡ judged v h me (R v)
  unfolding numbered looked_up
  row_is v = rw en (ap (looked_up v h me) (row v))

  module _ {r : Result (Unit {0}) Reason} {ws m : List ℕ} (er : Accepted ws m → told r ≡ row_code (view_shown ws m) h me (R (view_shown ws m))) where
    -- they refuse the call
    pub arm_refused : {e : Reason} {x : Result Outcome Reason} → r ≡ Err e → x ≡ Err e → Dispatches h me n a b c (answered x) ws m ws m
    arm_refused q z A =
        let v : View = view_shown ws m in
        rw (row_is v ∙ row_refused v h me (R v) (sym (er A) ∙ ap told q)) (refuses_with _ (ap answered z))

    -- they have passed, and the arm does the row's rule
    pub arm_done : {s : Outcome} {ws' m' : List ℕ} {u : Unit {0}} → r ≡ Ok u
        → (Accepted ws m → Passes (view_shown ws m) h me (R (view_shown ws m)) → Does (R (view_shown ws m)).rule s ws m ws' m')
        → Dispatches h me n a b c s ws m ws' m'
    arm_done {s} {ws'} {m'} q D A =
        let v : View = view_shown ws m in
        let p = row_passed v h me (R v) (sym (er A) ∙ ap told q) in
        subst (λ (d : Verdict). Does d s ws m ws' m') (sym (row_is v ∙ p.1)) (D A p.0)

-- no arm has the number
pub arm_none : (h : Bool) (me n : ℕ) (a b c : ℤ) {s : Outcome} {ws m : List ℕ} → ((v : View) → numbered v h me n a b c ≡ refuse H-CALL) → s ≡ outcome (number H-CALL) 0 0 0
    → Dispatches h me n a b c s ws m ws m
arm_none h me n a b c {ws = ws} {m} out e A = rw (out (view_shown ws m)) (refuses_with H-CALL e)
