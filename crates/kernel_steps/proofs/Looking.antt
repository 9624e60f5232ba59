-- What is known of a memory that was looked at. Assumes nothing.
use mathlib.Core.List.{List}
use mathlib.Core.Path.{◌≡◌, ◌∙◌}
use Prim.Native.Nat.{ℕ}
use Rattle.std.specs.Prelude.{Result, Ok, Err}
use Rattle.memory_picture.specs.Picture.{memory}
use Rattle.memory_running.specs.Running.{running_of}
use Rattle.memory_running.proofs.Running.{running_law}
use Rattle.check_damage.specs.declared.Breach.{Breach}
use Rattle.check_damage.specs.Judged.{Judged}
use Rattle.kernel_steps.specs.Steps.{reply}
use Rattle.kernel_steps.specs.Serving.{Known}

module _ (b m : List ℕ) where
  pub known_sound : {me : ℕ} → Judged b m (Ok tt) → me ≡ running_of b → Known (Ok me) (memory b m)
  known_sound A e = (A, e ∙ running_law b m A)

  pub known_broken : {r : Result ℕ Breach} (f : Breach) → Judged b m (Err f) → r ≡ Err f → Known r (memory b m)
  known_broken f J e = rw e (J.0, λ i. reply (J.1 i) (J.2 i) 0 0 0)
