-- Entry and return, by the words of the handlers' column. Assumes nothing.
use mathlib.Core.Bool.{false, not}
use mathlib.Core.List.{List}
use mathlib.Core.Path.{◌≡◌, refl, sym, ap, ◌∙◌}
use Prim.Native.Nat.{ℕ, zero, suc, ◌+◌, ◌-◌, ◌≤◌, ◌<◌}
use native.Mathlib.Omega.{arith}
use lib.IntN.{pos}
use borrow.Author.Tests.{le-leb, lt-leb}
use Rattle.rules.specs.Codes.{number, H-NEST, E-CTX}
use Rattle.rules.specs.State.{Handlers, no_handler, in_handler, depth, is_open}
use Rattle.rules.specs.Acts.{nest}
use Rattle.rules.specs.View.{head, reported, running}
use Rattle.rules.specs.Handling.{inner, outer, entered, exited}
use Rattle.memory_columns.specs.Layout as Layout
use Rattle.memory_columns.specs.Layout.{max_depth, handling, entry}
use Rattle.memory_objects.specs.Moves.{nested}
use Rattle.memory_picture.specs.Picture.{open_shown, handlers_shown, body_shown, view_shown}
use Rattle.memory_picture.specs.Perform.{interrupted_kept, performed, performed_marks}
use Rattle.call_words.specs.declared.Outcome.{Outcome}
use Rattle.call_words.specs.Outcomes.{outcome}
use Rattle.call_words.specs.Doing.{Anything, DoesOnWords}
use Rattle.call_words.specs.Naming.{Runs}
use Rattle.call_words.proofs.Verdicts.{check_stops, check_passes, gives_one}

-- ---- what is kept of other handlers

inner_depth : (x : Handlers) (r : ℕ) → depth (inner x r) ≡ suc (depth x)
inner_depth no_handler r = refl
inner_depth (in_handler n i) r = refl

inner_interrupted : (x : Handlers) (r : ℕ) → interrupted_kept (inner x r) ≡ reported x r
inner_interrupted no_handler r = refl
inner_interrupted (in_handler n i) r = refl

depth_shown : (d i : ℕ) → depth (open_shown d i) ≡ d
depth_shown zero i = refl
depth_shown (suc n) i = refl

-- the handlers that a memory shows
module _ (b m : List ℕ) where
  handlers_are : (view_shown b m).body.handlers ≡ handlers_shown b
  unfolding view_shown body_shown
  handlers_are = refl

-- ---- entry

module _ (b : List ℕ) {d : ℕ} (e : d ≡ entry handling b Layout.depth) where
  shown_depth : (m : List ℕ) → depth (view_shown b m).body.handlers ≡ d
  unfolding handlers_shown
  shown_depth m = rw (handlers_are b m) (depth_shown _ _ ∙ sym e)

  pub enter_refused : (me : ℕ) {s : Outcome} → max_depth ≤ d → s ≡ outcome (number H-NEST) 0 0 0 → DoesOnWords (Runs me) entered s b b
  unfolding entered
  enter_refused me h f m A r = check_stops H-NEST _ (rw (shown_depth m) (le-leb max_depth d h)) f

  pub enter_done : (me : ℕ) {s : Outcome} {b' : List ℕ} → d < max_depth → b' ≡ nested (d + 1) me b → s ≡ outcome (pos 0) 0 0 0 → DoesOnWords (Runs me) entered s b b'
  unfolding entered running performed performed_marks
  enter_done me h g f m A r =
      let x : Handlers = (view_shown b m).body.handlers in
      check_passes H-NEST _ (rw (shown_depth m) (lt-leb max_depth d h))
      (gives_one (nest (inner x (head (view_shown b m)))) refl f (g ∙ rw (inner_depth x (head (view_shown b m)), inner_interrupted x (head (view_shown b m)), shown_depth m, ← r) (ap (λ (n : ℕ). nested n me b) (omega arith))))

-- ---- return

open_shown_lem : (d i : ℕ) → (d ≡ 0 → ⊥) → not (is_open (open_shown d i)) ≡ false
open_shown_lem zero i z = absurd (z refl)
open_shown_lem (suc n) i z = refl

outer_kept : (d i : ℕ) (b : List ℕ) → (d ≡ 0 → ⊥) → (d ≡ 1 → ⊥) → nested (d - 1) i b ≡ nested (depth (outer (open_shown d i))) (interrupted_kept (outer (open_shown d i))) b
outer_kept zero i b y z = absurd (y refl)
outer_kept (suc zero) i b y z = absurd (z refl)
outer_kept (suc (suc n)) i b y z = ap (λ (k : ℕ). nested k i b) (omega arith)

module _ (b : List ℕ) {d : ℕ} (e : d ≡ entry handling b Layout.depth) where
  by_depth : (m : List ℕ) → (view_shown b m).body.handlers ≡ open_shown d (entry handling b Layout.interrupted)
  unfolding handlers_shown
  by_depth m = rw (handlers_are b m, e)

  pub leave_refused : {s : Outcome} → d ≡ 0 → s ≡ outcome (number E-CTX) 0 0 0 → DoesOnWords Anything exited s b b
  unfolding exited
  leave_refused z f m A _ = check_stops E-CTX _ (rw (by_depth m, z)) f

  -- x: those that are shown
  leave_done : (x : Handlers) → x ≡ open_shown d (entry handling b Layout.interrupted) → {s : Outcome} {b' : List ℕ} → (d ≡ 0 → ⊥) → b' ≡ nested (depth (outer x)) (interrupted_kept (outer x)) b → s ≡ outcome (pos 0) 0 0 0 → DoesOnWords Anything exited s b b'
  unfolding exited performed performed_marks
  leave_done x k z g f m A _ = rw (by_depth m) (check_passes E-CTX _ (open_shown_lem d _ z) (gives_one (nest _) refl f (rw k at g)))

  pub leave_last : {s : Outcome} {b' : List ℕ} → d ≡ 1 → b' ≡ nested 0 0 b → s ≡ outcome (pos 0) 0 0 0 → DoesOnWords Anything exited s b b'
  leave_last z g = leave_done _ refl (λ y. omega arith) (g ∙ rw z)

  pub leave_inner : {s : Outcome} {i : ℕ} {b' : List ℕ} → (d ≡ 0 → ⊥) → (d ≡ 1 → ⊥) → i ≡ entry handling b Layout.interrupted → b' ≡ nested (d - 1) i b → s ≡ outcome (pos 0) 0 0 0
      → DoesOnWords Anything exited s b b'
  leave_inner y z k g = leave_done _ refl y (g ∙ rw k (outer_kept d _ b y z))
