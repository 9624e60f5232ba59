-- The number of a setup's fault is small, and so is that of a run: it fits a word. Assumes nothing.
use Prim.Native.Nat.{ℕ, ◌+◌, ◌≤◌}
use native.Mathlib.Omega.{arith}
use Rattle.std.specs.Prelude.{Result, Ok, Err}
use Rattle.setup_sections.specs.declared.Fault.{Fault}
use Rattle.setup_sections.specs.declared.Fault.TheVariants.{S1, S2, S3, S4}
use Rattle.setup_sections.specs.Judging.{digit_of}
use Rattle.kernel_batches.specs.declared.Unfit.TheVariants.{Ragged, FewCodes, FewWords}
use Rattle.kernel_batches.specs.declared.RunError.{RunError}
use Rattle.kernel_batches.specs.declared.RunError.TheVariants as RunError
use Rattle.okrozumba.specs.Exports.{ran_number}

pub digit_small : (f : Fault) → digit_of f ≤ 4
digit_small S1 = omega arith
digit_small S2 = omega arith
digit_small S3 = omega arith
digit_small S4 = omega arith

-- whatever came of the run
pub ran_number_lem : (r : Result (Unit {0}) RunError) → ran_number r ≤ 14
ran_number_lem (Ok t) = omega arith
ran_number_lem (Err (RunError.Unfit Ragged)) = omega arith
ran_number_lem (Err (RunError.Unfit FewCodes)) = omega arith
ran_number_lem (Err (RunError.Unfit FewWords)) = omega arith
ran_number_lem (Err (RunError.Refused r)) = omega (arith, digit_small r.fault)
