-- The last resort of a rule that takes, for every kind: the caller's wait is written, or the poll is refused. Assumes nothing.
use mathlib.Core.List.{List}
use mathlib.Core.Path.{◌≡◌}
use Prim.Native.Nat.{ℕ}
use lib.IntN.{pos}
use Rattle.rules.specs.Codes.{number, H-POLL}
use Rattle.rules.specs.State.{Kind, on}
use Rattle.rules.specs.Verdicts.{waits}
use Rattle.rules.specs.Objects.{polls}
use Rattle.memory_waits.specs.Waits.{waited}
use Rattle.memory_picture.specs.Perform.{put_to_wait, performed}
use Rattle.memory_picture.specs.Picture.{kind_number}
use Rattle.call_words.specs.declared.Outcome.{Outcome}
use Rattle.call_words.specs.Outcomes.{outcome}
use Rattle.call_words.specs.Doing.{Does}
use Rattle.call_words.proofs.Verdicts.{refuses_with, waits_one}

module _ {s : Outcome} {b : List ℕ} where
  pub caller_waits : (k : Kind) {me o p t : ℕ} {b' : List ℕ} → b' ≡ waited me (kind_number k) o p t b → s ≡ outcome (pos 1) 0 0 0 → (m : List ℕ) → Does (waits me (on k o p t)) s b m b' m
  unfolding performed put_to_wait
  caller_waits k {me = me} {o = o} {p = p} {t = t} g e m = waits_one me (on k o p t) e g

  pub poll_refused : s ≡ outcome (number H-POLL) 0 0 0 → (m : List ℕ) → Does polls s b m b m
  poll_refused e m = refuses_with H-POLL e
