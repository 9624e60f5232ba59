-- `kernel_serving::serve_all` meets its contract: event by event. Assumes nothing.
use mathlib.Core.Path.{refl}
use native.Mathlib.Omega.{arith}
use Rattle.kernel_serving.proofs.Written.{begins, goes_on, ends}
use Rattle.kernel_serving.proofs.serve_all.Goals as goal

pub loop-i-init : goal.loop-i-init
loop-i-init c = record { running = λ K _. begins _ _ K; codes = refl; answers = refl }

pub serve_one-runs-requires : goal.serve_one-runs-requires
serve_one-runs-requires c =
    let Q = c.count-n.ensures in
    (omega (arith, c.loop-i-test.true, Q.0), omega (arith, c.loop-i-test.true, Q.1, c.loop-i.invariant.codes), omega (arith, c.loop-i-test.true, Q.2, c.loop-i.invariant.answers))

pub loop-i-preserved : goal.loop-i-preserved
loop-i-preserved c =
    let h = c.loop-i.invariant in
    let Q = c.count-n.ensures in
    record {
      running = λ K P. let R = h.running K P in goes_on P (omega (arith, c.loop-i-test.true, Q.0)) R (c.serve_one-runs.ensures R.known) c.and-now.ensures;
      codes = omega (arith, h.codes);
      answers = omega (arith, h.answers);
    }

pub returns : goal.returns
returns c =
    λ K P. let Q = c.count-n.ensures.3 P.codes P.answers in ends P (omega (arith, c.loop-i-test.false, Q)) (c.loop-i.invariant.running K P)
