-- Many events at once: `events` and `run`, on any memory and any lent outputs.
use Rattle.std.specs.Prelude.{cond, List, ◌≡◌, ℕ, ◌*◌, ◌/◌, ◌%◌, eqb, leb, ℤ, length, Result, Ok, Err}
use Rattle.rules.specs.Setup.{Read, got, refused, Setup, setup}
use Rattle.memory_picture.specs.Picture.{Memory}
use Rattle.kernel_start.specs.Starting.{Starts}
use Rattle.setup_sections.specs.Judging.{refusal}
use Rattle.kernel_batches.specs.declared.Unfit.{Unfit}
use Rattle.kernel_batches.specs.declared.Unfit.TheVariants.{Ragged, FewCodes, FewWords}
use Rattle.kernel_batches.specs.declared.RunError.{RunError}
pub use Rattle.kernel_steps.specs.Written.{Lent, lent, codes_of, words_of, RanThrough}
unfoldable pub use Rattle.kernel_steps.specs.Written.{over}

-- ---- whether it runs

-- from the numbers of event words, and of codes and answer words that there is place for. The first that applies is said: the event words are no
-- multiple of five, there is no place for a code of each event, there is none for four words of each.
unfoldable pub fit_of : ℕ → ℕ → ℕ → Result (Unit {0}) Unfit
fit_of e c a =
    cond (eqb (e % 5) 0) (cond (leb (e / 5) c) (cond (leb (4 * (e / 5)) a) (Ok tt) (Err FewWords)) (Err FewCodes)) (Err Ragged)

-- the number of each
abbrev pub batch_number : Result (Unit {0}) Unfit → ℕ
batch_number (Ok t) = 0
batch_number (Err Ragged) = 1
batch_number (Err FewCodes) = 2
batch_number (Err FewWords) = 3

-- ---- the contracts

abbrev pub fitted : List ℤ → Lent → Result (Unit {0}) Unfit
fitted events old = fit_of (length events) (length old.codes) (length old.answers)

-- it runs, or says why not and leaves everything as it was
abbrev pub BatchedAs : Result (Unit {0}) Unfit → List ℤ → Lent → Lent → Type 0
BatchedAs (Ok t) events old new = RanThrough events old new
BatchedAs (Err u) events old new = new ≡ old

unfoldable pub Batched : List ℤ → Result (Unit {0}) Unfit → Lent → Lent → Type 0
Batched events r old new = (r ≡ fitted events old) × BatchedAs (fitted events old) events old new

-- from the memory that `start` leaves
pub record RanFresh (s : List ℕ) (given : List ℤ) (old new : Lent) : Type 0 where
  pub started : Memory
  pub starts : Starts s (Ok tt) old.memory started
  pub ran : RanThrough given (lent started old.codes old.answers) new

abbrev pub RunsAs : Result (Unit {0}) Unfit → Read Setup → List ℕ → List ℤ → Result (Unit {0}) RunError → Lent → Lent → Type 0
RunsAs (Ok t) (got u i) s events r old new = (r ≡ Ok tt) × RanFresh s events old new
RunsAs (Ok t) (refused f place) s events r old new = (r ≡ Err (RunError.Refused (refusal f place))) × (new ≡ old)
RunsAs (Err e) u s events r old new = (r ≡ Err (RunError.Unfit e)) × (new ≡ old)

-- the batch's own refusals come first, then the setup's fault and its place
unfoldable pub RunsFrom : List ℕ → List ℤ → Result (Unit {0}) RunError → Lent → Lent → Type 0
RunsFrom s events r old new = RunsAs (fitted events old) (setup s) s events r old new
