-- The bench sheet holds on both kernels, by computation. Assumes nothing.
use mathlib.Core.Path.{refl}
use Rattle.rules_examples.specs.BenchSheet.{ran, plain_ran, expected, Holds, bench_sheet}

pub bench_sheet_holds : Holds bench_sheet
unfolding ran plain_ran expected
bench_sheet_holds = (refl, refl)
