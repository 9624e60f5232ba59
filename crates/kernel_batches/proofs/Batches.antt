-- A batch: whether it fits, and what each function of the crate makes of it. Assumes nothing.
use mathlib.Core.Bool.{Bool, true, false, cond}
use mathlib.Core.List.{List}
use mathlib.Core.Path.{◌≡◌, refl, sym, ap, ◌∙◌}
use Prim.Native.Nat.{ℕ, ◌*◌, ◌/◌, ◌%◌, ◌≤◌}
use native.Mathlib.Omega.{arith}
use lib.Dec.{eqb, leb}
use lib.IntN.{ℤ}
use borrow.Author.Tests.{eqb-true, leb-true}
use lib.ListN.{length}
use Rattle.std.specs.Prelude.{Result, Ok, Err}
use Rattle.rules.specs.Setup.{Read, got, refused, Setup, setup}
use Rattle.memory_picture.specs.Picture.{Memory}
use Rattle.setup_sections.specs.Judging.{Refusal}
use Rattle.kernel_start.specs.Starting.{StartsAs, Starts}
use Rattle.kernel_steps.specs.Written.{Lent, lent, RanThrough, Room}
use Rattle.kernel_batches.specs.declared.Unfit.{Unfit}
use Rattle.kernel_batches.specs.declared.Unfit.TheVariants.{Ragged, FewCodes, FewWords}
use Rattle.kernel_batches.specs.declared.RunError.{RunError}
use Rattle.kernel_batches.specs.Batches.{fit_of, fitted, Batched, RunsAs, RunsFrom}

-- ---- sizes

-- two answers that cannot be one
apart : {A : Type 0} {e : Unfit} → ◌≡◌ {A = Result (Unit {0}) Unfit} (Err e) (Ok tt) → A
apart h = absurd (let z : ◌≡◌ {A = ℕ} 0 1 = cc in omega arith)

-- what fits: whole events, and place for each
fit_sizes : (e c a : ℕ) → fit_of e c a ≡ Ok tt → (e % 5 ≡ 0) × (e / 5 ≤ c) × (4 * (e / 5) ≤ a)
unfolding fit_of
fit_sizes e c a = go (eqb (e % 5) 0) (leb (e / 5) c) (leb (4 * (e / 5)) a) refl refl refl
  where
    go : (r s t : Bool) → eqb (e % 5) 0 ≡ r → leb (e / 5) c ≡ s → leb (4 * (e / 5)) a ≡ t
        → ◌≡◌ {A = Result (Unit {0}) Unfit} (cond r (cond s (cond t (Ok tt) (Err FewWords)) (Err FewCodes)) (Err Ragged)) (Ok tt) → (e % 5 ≡ 0) × (e / 5 ≤ c) × (4 * (e / 5) ≤ a)
    go true true true p q u z = (eqb-true _ _ p, leb-true _ _ q, leb-true _ _ u)
    go true true false p q u z = apart z
    go true false t p q u z = apart z
    go false s t p q u z = apart z

pub fit_room : (given : List ℤ) (old : Lent) → fitted given old ≡ Ok tt → Room given old
fit_room given old f = let q = fit_sizes (length given) (length old.codes) (length old.answers) f in record { whole = q.0; codes = q.1; answers = q.2 }

-- ---- the contracts

module _ (given : List ℤ) (old : Lent) {r : Result (Unit {0}) Unfit} (e : r ≡ fitted given old) where
  pub batch_done : (new : Lent) → r ≡ Ok tt → RanThrough given old new → Batched given (Ok tt) old new
  unfolding Batched
  batch_done new d R = let f : fitted given old ≡ Ok tt = sym e ∙ d in rw f (refl, R)

  pub batch_none : (x : Unfit) → r ≡ Err x → Batched given (Err x) old old
  unfolding Batched
  batch_none x d = let f : fitted given old ≡ Err x = sym e ∙ d in rw f (refl, refl)

  pub run_none : (s : List ℕ) (x : Unfit) → r ≡ Err x → RunsFrom s given (Err (RunError.Unfit x)) old old
  unfolding RunsFrom
  run_none s x d = let f : fitted given old ≡ Err x = sym e ∙ d in rw f (refl, refl)

  module _ (d : r ≡ Ok tt) (s : List ℕ) (m : Memory) (t : Result (Unit {0}) Refusal) (S : Starts s t old.memory m) where
    pub run_done : (new : Lent) → t ≡ Ok tt → RanThrough given (lent m old.codes old.answers) new → RunsFrom s given (Ok tt) old new
    unfolding RunsFrom Starts
    run_done new h R = let f : fitted given old ≡ Ok tt = sym e ∙ d in rw f (go (setup s) refl (rw h at S))
      where
        go : (u : Read Setup) → setup s ≡ u → StartsAs u (Ok tt) old.memory m → RunsAs (Ok tt) u s given (Ok tt) old new
        go (got u i) q S = (refl, record { started = m; starts = rw q S; ran = R })
        go (refused f place) q S = absurd (let z : ◌≡◌ {A = ℕ} 0 1 = cc (S.0) in omega arith)

    pub run_refused : (x : Refusal) → t ≡ Err x → RunsFrom s given (Err (RunError.Refused x)) old (lent m old.codes old.answers)
    unfolding RunsFrom Starts
    run_refused x h = let f : fitted given old ≡ Ok tt = sym e ∙ d in rw f (go (setup s) (rw h at S))
      where
        go : (u : Read Setup) → StartsAs u (Err x) old.memory m → RunsAs (Ok tt) u s given (Err (RunError.Refused x)) old (lent m old.codes old.answers)
        go (got u j) S = absurd (let z : ◌≡◌ {A = ℕ} 0 1 = cc (S.0) in omega arith)
        go (refused f place) S = (let z = S.0 in cc, ap (λ (y : Memory). lent y old.codes old.answers) S.1)
