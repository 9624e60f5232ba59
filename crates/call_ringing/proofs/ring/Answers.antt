-- `call_ringing::ring` meets its contract. What is left to ring, and the count with it, is the same at each turn. Assumes nothing.
use Prim.Native.Nat.{◌-◌}
use native.Mathlib.Omega.{arith}
use Rattle.call_ringing.proofs.Ringing.{ring_starts, ring_ends, ring_step}
use Rattle.call_ringing.proofs.ring.Goals as goal

pub loop-k-init : goal.loop-k-init
loop-k-init c = (ring_starts _, omega arith)

pub loop-k-preserved : goal.loop-k-preserved
loop-k-preserved c =
    let h = c.loop-k.invariant in
    let r = c.fire-count.ensures in
    (ring_step _ _ _ _ (9 - c.loop-k.k) (omega arith) (omega arith) (omega arith) r.performs_on_words h.0, omega (arith, h.1, r.upper_bound))

pub returns : goal.returns
returns c = let h = c.loop-k.invariant in record { performs_on_words = ring_ends _ _ _ _ (9 - c.loop-k.k) (omega arith) h.0; upper_bound = omega (arith, h.1) }
