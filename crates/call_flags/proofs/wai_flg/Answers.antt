-- `call_flags::wai_flg` meets its contract. It is its rule, with its last resort. Assumes nothing.
use mathlib.Core.Path.{refl}
use Rattle.rules.specs.State.{flag}
use Rattle.call_objects.proofs.Taking.{caller_waits}
use Rattle.call_flags.proofs.FlagCalls.{unmet, pattern_taken}
use Rattle.call_flags.proofs.wai_flg.Goals as goal

pub returns-in-Some : goal.returns-in-Some
returns-in-Some c = let h = c.in-Some.ensures in pattern_taken _ h.0 _ _ refl _ h.1 refl h.2 c.gives.ensures

pub returns : goal.returns
returns c =
    let h = c.in_default.ensures in
    unmet _ refl _ _ refl _ h.0 (caller_waits flag (rw h.1 at c.wait.ensures) c.waits.ensures)
